use mathlib.Core.Path.{◌≡◌}
use Prim.Native.Nat.{◌-◌}
use Rattle.rules.specs.Base.{all}
use Rattle.places.specs.Layout.{upto, regular_in, venue_of}
use Rattle.soundness.specs.Checked.{priced_on, on_increments}
use Rattle.soundness.proofs.on_increments.Given as goal

abbrev pub invariant-loop-i : goal.invariant-loop-i
invariant-loop-i l = all (priced_on (venue_of l.numbers)) (upto (regular_in l.numbers) l.i (l.n - l.i)) ≡ on_increments (venue_of l.numbers)
