use Rattle.place_writes.specs.Moving.{Moving}
use Rattle.place_writes.proofs.close_up.Given as goal

abbrev pub invariant-loop-i : goal.invariant-loop-i
invariant-loop-i g l = Moving g.T.Order.holds g.T.Order.order_in g.T.Order.outside l.initial.numbers l.numbers l.n l.i l.j
