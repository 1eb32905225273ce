use mathlib.Core.Path.{◌≡◌}
use mathlib.Core.Bool.{false}
use Prim.Native.Nat.{ℕ, ◌<◌}
use Rattle.rules.specs.Prices.{shows_for}
use Rattle.places.specs.Layout.{regular_in}
use Rattle.book.proofs.first_for.Given as goal

abbrev pub invariant-loop-i : goal.invariant-loop-i
invariant-loop-i l = (j : ℕ) → j < l.i → shows_for l.series l.side l.price (regular_in l.numbers j) ≡ false
