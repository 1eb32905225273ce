-- `place_writes::close_complexes` meets its contract.
use native.Mathlib.Omega.{arith}
use Rattle.place_writes.proofs.Closed.{complex-rows, complex-again, complexes-whole, complexes-end}
use Rattle.place_writes.proofs.close_complexes.Goals as goal

pub returns-then-held-n : goal.returns-then-held-n
returns-then-held-n c = complexes-whole _ _ _ c.complexes_used-n.ensures.0 c.if-held-n.true c.held_places-held.ensures.1

pub close_up-left-requires-clause-rows : goal.close_up-left-requires-clause-rows
close_up-left-requires-clause-rows c = complex-rows

pub close_up-left-requires-clause-again : goal.close_up-left-requires-clause-again
close_up-left-requires-clause-again c = complex-again

pub returns : goal.returns
returns c = complexes-end _ _ _ _ _ c.complexes_used-n.ensures.0 (omega arith) c.close_up-left.ensures
