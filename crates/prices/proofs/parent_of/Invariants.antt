use Rattle.rules.specs.Standing.{find_complex, parent_of}
use Rattle.places.specs.Layout.{complex_in, upto, venue_of}
use mathlib.Core.Path.{◌≡◌}
use Prim.Native.Nat.{◌-◌}
use Rattle.prices.proofs.parent_of.Given as goal

abbrev pub invariant-loop-i : goal.invariant-loop-i
invariant-loop-i l = find_complex l.l.parent (upto (complex_in l.numbers) l.i (l.n - l.i)) ≡ parent_of (venue_of l.numbers) l.l
