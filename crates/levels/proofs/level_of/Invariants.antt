use Rattle.levels.proofs.LevelChanges.{Scanned}
use Rattle.levels.proofs.level_of.Given as goal

abbrev pub invariant-loop-i : goal.invariant-loop-i
invariant-loop-i l = Scanned l.numbers l.s l.d l.n l.l l.i
