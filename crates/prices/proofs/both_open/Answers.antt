-- `prices::both_open` meets its contract.
use Rattle.prices.proofs.Prices.{open-not, open-both}
use Rattle.prices.proofs.both_open.Goals as goal

pub returns-then-status_of-ne1 : goal.returns-then-status_of-ne1
returns-then-status_of-ne1 c = open-not _ c.args.c _ c.status_of.ensures c.if-status_of-ne1.true

pub returns : goal.returns
returns c = open-both _ c.args.c _ c.status_of.ensures _ c.status_of-2.ensures c.if-status_of-ne1.false
