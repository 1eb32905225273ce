use Rattle.places.specs.Layout.{Filled}
use Rattle.place_writes.proofs.held_places.Given as goal

abbrev pub invariant-loop-i : goal.invariant-loop-i
invariant-loop-i g l = Filled g.T.Order.holds (g.T.Order.order_in l.numbers) l.i
