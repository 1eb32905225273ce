use Prim.Native.Nat.{◌+◌, ◌%◌}
use Rattle.lanes.proofs.Figures.{Searching}
use Rattle.lanes.proofs.next_waiting.Given as goal

abbrev pub invariant-loop-i : goal.invariant-loop-i
invariant-loop-i l = Searching l.layer ((l.after + l.i) % 4) l.i
