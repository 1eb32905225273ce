use mathlib.Core.Path.{◌≡◌}
use mathlib.Core.Bool.{Bool, true}
use Prim.Native.Nat.{ℕ, ◌<◌}
use lib.Dec.{ltb}
use Rattle.rules.specs.declared.Edition.{Edition}
use Rattle.places.specs.Layout.{edition_in}
use Rattle.refusals.proofs.is_above.Given as goal

abbrev below : ℕ → Edition → Bool
below e k = ltb k.edition e

abbrev pub invariant-loop-i : goal.invariant-loop-i
invariant-loop-i l = (j : ℕ) → j < l.i → below l.edition (edition_in l.numbers j) ≡ true
