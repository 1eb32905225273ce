use Prim.Native.Nat.{◌+◌, ◌-◌}
use lib.ListN.{length}
use Rattle.feed_run.proofs.FeedsLaws.{Feeding}
use Rattle.feed_run.proofs.feed_lines.Given as goal

abbrev pub invariant-loop-t : goal.invariant-loop-t
invariant-loop-t l = Feeding l.main l.spare l.initial.report l.numbers l.report l.t

abbrev pub decreases-loop-t : goal.decreases-loop-t
decreases-loop-t l = length l.main + length l.spare - (l.t.main.at + l.t.spare.at)
