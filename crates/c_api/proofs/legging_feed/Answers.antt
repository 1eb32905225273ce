-- `c_api::legging_feed` meets its contract.
use mathlib.Core.Path.{ap}
use Rattle.rules.specs.Calls.{Call}
use Rattle.c_api.proofs.legging_feed.Goals as goal

pub returns : goal.returns
returns c = (ap (λ (x : Call). x.returned.number) c.feed-r.ensures, ap (λ (x : Call). x.report) c.feed-r.ensures)
