-- `dispatch::idle` meets its contract.
use Rattle.rules.specs.Records.{sheet, encode_all}
use Rattle.dispatch.proofs.idle.Goals as goal

pub returns : goal.returns
unfolding sheet encode_all
returns c = (c.unserved.ensures, c.zero_from.ensures)
