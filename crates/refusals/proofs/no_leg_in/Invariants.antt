use mathlib.Core.Path.{◌≡◌}
use mathlib.Core.Bool.{Bool, true, not, ◌&&◌, ◌||◌}
use Prim.Native.Nat.{ℕ, ◌<◌}
use lib.Dec.{eqb}
use Rattle.rules.specs.declared.Complex.{Complex}
use Rattle.rules.specs.Base.{held}
use Rattle.places.specs.Layout.{complex_in}
use Rattle.refusals.proofs.no_leg_in.Given as goal

abbrev elsewhere : ℕ → Complex → Bool
elsewhere s x = not (held x.quantity && (eqb x.series1 s || eqb x.series2 s))

abbrev pub invariant-loop-i : goal.invariant-loop-i
invariant-loop-i l = (j : ℕ) → j < l.i → elsewhere l.s (complex_in l.numbers j) ≡ true
