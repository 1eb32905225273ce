use Rattle.levels.proofs.LevelsKept.{Zeroing}
use Rattle.levels.proofs.zero_levels.Given as goal

abbrev pub invariant-loop-n : goal.invariant-loop-n
invariant-loop-n l = Zeroing l.initial.numbers l.numbers l.n
