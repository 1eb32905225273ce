use Prim.Native.Nat.{ℕ, ◌-◌, ◌≤◌, ◌<◌}
use Rattle.places.specs.Layout.{regular_in, regulars_used}
use Rattle.book.proofs.regular_place.Given as goal

abbrev pub invariant-loop-low : goal.invariant-loop-low
invariant-loop-low l =
    (l.high ≤ regulars_used l.numbers) × ((j : ℕ) → j < l.low → (regular_in l.numbers j).id < l.id) × ((j : ℕ) → l.high ≤ j → j < regulars_used l.numbers → l.id < (regular_in l.numbers j).id)

abbrev pub decreases-loop-low : goal.decreases-loop-low
decreases-loop-low l = l.high - l.low
