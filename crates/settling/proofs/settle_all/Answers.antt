-- `settling::settle_all` meets its contract.
use mathlib.Core.Path.{ap, ◌∙◌}
use Rattle.rules.specs.declared.Venue.{Venue}
use Rattle.rules.specs.Removal.{remove}
use Rattle.rules.specs.Standing.{verdict, settle}
use Rattle.records.specs.Seen.{seen}
use Rattle.records.specs.Stage.{◌does◌}
use Rattle.settling.proofs.settle_all.Goals as goal

pub returns-clause-result_after : goal.returns-clause-result_after
unfolding settle
returns-clause-result_after c =
    c.remove_failing.ensures.result_after ∙ ap (λ (v : Venue). seen c.args.out.now c.args.at does remove (verdict v) v) c.show_again.ensures.numbers_after
