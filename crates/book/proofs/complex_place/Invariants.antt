use mathlib.Core.Path.{◌≡◌}
use mathlib.Core.Bool.{false}
use Prim.Native.Nat.{ℕ, ◌<◌}
use Rattle.rules.specs.Words.{is_complex_of}
use Rattle.places.specs.Layout.{complex_in}
use Rattle.book.proofs.complex_place.Given as goal

abbrev pub invariant-loop-i : goal.invariant-loop-i
invariant-loop-i l = (j : ℕ) → j < l.i → is_complex_of l.id (complex_in l.numbers j) ≡ false
