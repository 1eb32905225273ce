use Rattle.levels.proofs.GridLaws.{Filling}
use Rattle.levels.proofs.levels.Given as goal

abbrev pub invariant-loop-s : goal.invariant-loop-s
invariant-loop-s l = Filling l.numbers l.g l.s
