-- Parts of a message's effect that the code does apart.
use Rattle.std.specs.Prelude.{ℕ, if◌then◌else◌}
use Rattle.rules.specs.declared.Venue.{Venue}
use Rattle.rules.specs.Effects.{Effect}
use Rattle.rules.specs.Complex.{cancel_regular, cancel_complex, regular_place, complex_place, rests_regular}

-- a cancel, up to its settling
unfoldable pub withdrawn : (id : ℕ) → Venue → Effect
withdrawn id v = if rests_regular v id then cancel_regular (regular_place v id) v else cancel_complex (complex_place v id) v
