use Rattle.removal.proofs.RemovalLaws.{Removing, Left}
use Rattle.removal.specs.Causes.{verdict_in}
use Rattle.removal.proofs.remove_by_causes.Given as goal

abbrev pub invariant-loop-rest : goal.invariant-loop-rest
invariant-loop-rest l = Removing (verdict_in l.causes) l.initial.numbers l.initial.out l.at l.numbers l.out l.pos l.n × Left l.causes l.rest l.n

abbrev pub decreases-loop-rest : goal.decreases-loop-rest
decreases-loop-rest l = l.rest
