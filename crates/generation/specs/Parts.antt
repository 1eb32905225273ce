-- Parts of generation that a function of their own decides.
use Rattle.std.specs.Prelude.{Bool, not, ◌&&◌, ℕ, eqb, if◌then◌else◌}
use Rattle.rules.specs.declared.Complex.{Complex}
use Rattle.rules.specs.declared.Legging.{Legging}
use Rattle.rules.specs.declared.Venue.{Venue}
use Rattle.rules.specs.declared.Cause.TheVariants.{Replaced}
use Rattle.rules.specs.Base.{held}
use Rattle.rules.specs.Words.{within, opposite, no_legging, one_to_one, place_of, legging_at}
use Rattle.rules.specs.Settings.{increment}
use Rattle.rules.specs.Prices.{best_own, displayed_price, away, in_band}
use Rattle.rules.specs.Standing.{other_clear, both_open, displayed_no_worse}
use Rattle.rules.specs.Records.{generated}
use Rattle.rules.specs.Effects.{Effect, report, ◌⟫◌}
use Rattle.rules.specs.Removal.{remove, fail_if}
use Rattle.rules.specs.Generation.{leg_price, new_legging, placed, counted, reaches_any, gives_way}

-- a price p of side d in series s whose displayed price is from the increment to 100,000; else none
unfoldable pub ranged_price : Venue → (series side p : ℕ) → ℕ
ranged_price v s d p = if within (increment v s) 100000 (displayed_price (increment v s) d p) then p else 0

-- the price of a leg of c; none where the other leg has no clear price, or where it is out of range
unfoldable pub priced_leg : Venue → Complex → (series side : ℕ) → ℕ
priced_leg v c s d = if held (other_clear v c s) then ranged_price v s d (leg_price v c s d) else 0

-- what is asked of c for both its legs, and no legging order changes
unfoldable pub may_generate : Venue → Complex → Bool
may_generate v c = one_to_one c && both_open v c && in_band v c c.limit

-- a price p at side d of series s is no worse than the best regular of its side, and reaches nothing opposite
unfoldable pub price_may_stand : Venue → (series side p : ℕ) → Bool
price_may_stand v s d p =
    displayed_no_worse v s d p
    && not (reaches_any d p (best_own v s (opposite d)))
    && not (reaches_any d p (away v s (opposite d)))

-- all that is asked of the leg's legging order at price p but that the others stand, and the ceiling
unfoldable pub may_stand : Venue → Complex → (series side p : ℕ) → Bool
may_stand v c s d p = may_generate v c && price_may_stand v s d p && gives_way v c d p (legging_at v s d)

-- the leg's legging order, where it may stand; else a free place
unfoldable pub planned_leg : Venue → Complex → (series side : ℕ) → Legging
planned_leg v c s d =
    if held c.quantity && held (priced_leg v c s d) && may_stand v c s d (priced_leg v c s d) then new_legging v c s d else no_legging

-- what stands at its place goes, and the legging order l of the complex order of this id is put there and counted
unfoldable pub made_by : (number id series side : ℕ) → Legging → Venue → Effect
made_by number id s d l v =
    remove (λ n _. fail_if (eqb n (place_of s d)) Replaced) v
    ⟫ (λ w. report (generated id s d l.price (displayed_price (increment v s) d l.price) l.quantity) (counted number s (placed (place_of s d) l w)))
