-- `c_api::legging_run` meets its contract.
use mathlib.Core.Path.{ap}
use Rattle.rules.specs.Calls.{Call}
use Rattle.c_api.proofs.legging_run.Goals as goal

pub returns : goal.returns
returns c = (ap (λ (x : Call). x.returned.number) c.run-r.ensures, ap (λ (x : Call). x.report) c.run-r.ensures)
