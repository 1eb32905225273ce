use Rattle.settling.proofs.CausesFound.{CausesFrom}
use Rattle.settling.proofs.verdicts.Given as goal

abbrev pub invariant-loop-n : goal.invariant-loop-n
invariant-loop-n l = CausesFrom l.numbers l.causes l.n
