-- What was printed so far is what the writer took, and each message takes the list further.
use Rattle.std.proofs.Common.{◌-◌, length}
use Rattle.std.specs.Io.KnownBytes.{Appends}
use Rattle.sheet.proofs.SheetLaws.{Going}
use Rattle.sheet.proofs.print_list.Given as goal

abbrev pub invariant-loop-p : goal.invariant-loop-p
invariant-loop-p g l = (going : Going l.messages l.p l.report l.text) × Appends (g.W.Write.contents l.initial.out) (g.W.Write.contents l.out) going.printed

abbrev pub decreases-loop-p : goal.decreases-loop-p
decreases-loop-p g l = length l.messages - l.p.at
