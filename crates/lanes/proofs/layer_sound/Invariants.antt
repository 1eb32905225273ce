use Rattle.lanes.proofs.Figures.{Passed}
use Rattle.lanes.proofs.layer_sound.Given as goal

abbrev pub invariant-loop-i : goal.invariant-loop-i
invariant-loop-i l = Passed l.layer l.but l.i
