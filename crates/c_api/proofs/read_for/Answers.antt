-- `c_api::read_for` meets its contract.
use Rattle.c_api.proofs.SetCarried.{read_short, read-four}
use Rattle.c_api.proofs.read_for.Goals as goal

pub returns-then-room-ne4 : goal.returns-then-room-ne4
returns-then-room-ne4 c = read_short _ _ _ c.if-room-ne4.true c.refused.ensures

pub returns : goal.returns
returns c = read-four _ _ _ c.if-room-ne4.false c.read_set.ensures
