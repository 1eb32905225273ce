-- The refusals of a new edition.
use Rattle.std.specs.Prelude.{Bool, not, ℕ, leb, ltb, if◌then◌else◌}
use Rattle.rules.specs.declared.Venue.{Venue}
use Rattle.rules.specs.Base.{all}
use Rattle.rules.specs.Settings.{free_edition}

-- the first of 11 to 13 that a new edition meets; `used` where its figure is the increment of a series that is not idle
unfoldable pub edition_refusal : Venue → (edition : ℕ) → (used : Bool) → ℕ
edition_refusal v e used =
    if not (all (λ k. ltb k.edition e) v.editions) then 11
    else if used then 12
    else if leb 32 (free_edition v) then 13
    else 0
