use Rattle.venue_numbers.specs.Parts.{Laying}
use Rattle.venue_numbers.proofs.load_book.Given as goal

abbrev pub invariant-loop-i : goal.invariant-loop-i
invariant-loop-i g l = Laying g.T.Order.holds g.T.Order.free g.T.Order.order_in g.T.Order.outside l.initial.numbers l.numbers l.l l.i
