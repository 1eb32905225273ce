-- What was printed so far is what the writer took, and with each session fewer are left.
use Rattle.short_sheets.proofs.Printing.{Reached, still}
use Rattle.short_sheets.proofs.print_sessions.Given as goal

abbrev pub invariant-loop-next : goal.invariant-loop-next
invariant-loop-next g l = Reached l.next l.report l.text l.memory (g.W.Write.contents l.initial.out) (g.W.Write.contents l.out)

abbrev pub decreases-loop-next : goal.decreases-loop-next
decreases-loop-next g l = still l.next
