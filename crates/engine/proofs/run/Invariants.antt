use Prim.Native.Nat.{◌-◌}
use lib.ListN.{length}
use Rattle.engine.proofs.RunsLaws.{Running}
use Rattle.engine.proofs.run.Given as goal

abbrev pub invariant-loop-t : goal.invariant-loop-t
invariant-loop-t l = Running l.messages l.initial.report l.numbers l.report l.t

abbrev pub decreases-loop-t : goal.decreases-loop-t
decreases-loop-t l = length l.messages - l.t.at
