-- `place_writes::close_regulars` meets its contract.
use native.Mathlib.Omega.{arith}
use Rattle.place_writes.proofs.Closed.{regular-rows, regular-again, regulars-whole, regulars-end}
use Rattle.place_writes.proofs.close_regulars.Goals as goal

pub returns-then-held-n : goal.returns-then-held-n
returns-then-held-n c = regulars-whole _ _ _ c.regulars_used-n.ensures.0 c.if-held-n.true c.held_places-held.ensures.1

pub close_up-left-requires-clause-rows : goal.close_up-left-requires-clause-rows
close_up-left-requires-clause-rows c = regular-rows

pub close_up-left-requires-clause-again : goal.close_up-left-requires-clause-again
close_up-left-requires-clause-again c = regular-again

pub returns : goal.returns
returns c = regulars-end _ _ _ _ _ c.told-numbers c.regulars_used-n.ensures.0 (omega arith) c.close_up-left.ensures
