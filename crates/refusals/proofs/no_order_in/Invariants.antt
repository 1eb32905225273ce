use mathlib.Core.Path.{◌≡◌}
use mathlib.Core.Bool.{Bool, true, not, ◌&&◌}
use Prim.Native.Nat.{ℕ, ◌<◌}
use lib.Dec.{eqb}
use Rattle.rules.specs.declared.Regular.{Regular}
use Rattle.rules.specs.Base.{held}
use Rattle.places.specs.Layout.{regular_in}
use Rattle.refusals.proofs.no_order_in.Given as goal

abbrev elsewhere : ℕ → Regular → Bool
elsewhere s x = not (held x.quantity && eqb x.series s)

abbrev pub invariant-loop-i : goal.invariant-loop-i
invariant-loop-i l = (j : ℕ) → j < l.i → elsewhere l.s (regular_in l.numbers j) ≡ true
