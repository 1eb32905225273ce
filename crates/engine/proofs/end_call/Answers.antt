-- `engine::end_call` meets its contract.
use Rattle.engine.proofs.OneCallLaws.{call_ends}
use Rattle.engine.proofs.end_call.Goals as goal

pub returns : goal.returns
returns c = call_ends c.args.report.now _ c.args.number c.args.venue c.zero_from.ensures
