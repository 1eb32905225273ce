-- `prices::any_closed` meets its contract.
use Rattle.prices.proofs.Prices.{closed-one, closed-two}
use Rattle.prices.proofs.any_closed.Goals as goal

pub returns-then-status_of-eq0 : goal.returns-then-status_of-eq0
returns-then-status_of-eq0 c = closed-one _ c.args.c _ c.status_of.ensures c.if-status_of-eq0.true

pub returns : goal.returns
returns c = closed-two _ c.args.c _ c.status_of.ensures _ c.status_of-2.ensures c.if-status_of-eq0.false
