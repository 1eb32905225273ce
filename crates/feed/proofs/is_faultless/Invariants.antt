use Prim.Native.Nat.{◌-◌}
use lib.ListN.{length}
use Rattle.feed.proofs.Cursors.{Tested}
use Rattle.feed.proofs.is_faultless.Given as goal

abbrev pub invariant-loop-at : goal.invariant-loop-at
invariant-loop-at l = Tested l.line l.last l.at

abbrev pub decreases-loop-at : goal.decreases-loop-at
decreases-loop-at l = length l.line - l.at
