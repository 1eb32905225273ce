use Rattle.lanes.proofs.Figures.{Short}
use Rattle.lanes.proofs.wait_sound.Given as goal

abbrev pub invariant-loop-i : goal.invariant-loop-i
invariant-loop-i l = Short l.lane l.i
