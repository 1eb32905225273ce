-- What a scan of the places in use picks or finds.
use Rattle.std.specs.Prelude.{ℕ, Option, Some, None, if◌then◌else◌}
use Rattle.rules.specs.declared.Regular.{Regular}
use Rattle.rules.specs.declared.Venue.{Venue}
use Rattle.rules.specs.Base.{Choice, nobody, picked}
use Rattle.rules.specs.Complex.{regular_place, complex_place, rests_regular, rests_complex}

unfoldable pub pick_of : Choice Regular → Option (ℕ × Regular)
pick_of nobody = None
pick_of (picked i o) = Some (i, o)

-- the place of the resting order with an id
unfoldable pub regular_found : Venue → (id : ℕ) → Option ℕ
regular_found v id = if rests_regular v id then Some (regular_place v id) else None

unfoldable pub complex_found : Venue → (id : ℕ) → Option ℕ
complex_found v id = if rests_complex v id then Some (complex_place v id) else None
