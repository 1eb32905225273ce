use mathlib.Core.Path.{◌≡◌}
use Prim.Native.Nat.{◌-◌}
use Rattle.rules.specs.Base.{all}
use Rattle.rules.specs.Sound.{ids_distinct}
use Rattle.places.specs.Layout.{upto, regular_in, venue_of}
use Rattle.soundness.specs.Checked.{is_alone}
use Rattle.soundness.proofs.ids_distinct.Given as goal

abbrev pub invariant-loop-i : goal.invariant-loop-i
invariant-loop-i l = all (is_alone (venue_of l.numbers)) (upto (regular_in l.numbers) l.i (l.n - l.i)) ≡ ids_distinct (venue_of l.numbers)
