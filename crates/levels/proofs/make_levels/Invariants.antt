use Rattle.levels.proofs.LevelsKept.{Making}
use Rattle.levels.proofs.make_levels.Given as goal

abbrev pub invariant-loop-i : goal.invariant-loop-i
invariant-loop-i l = Making l.initial.numbers l.numbers l.n l.i
