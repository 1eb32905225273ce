-- `sweeps::sweep` meets its contract.
use mathlib.Core.Path.{ap, ◌∙◌}
use Rattle.sweeps.specs.Round.{places_from}
use Rattle.sweeps.proofs.SweepLaws.{all-resting, sweep-law}
use Rattle.sweeps.proofs.sweep.Goals as goal

pub returns-clause-result_after : goal.returns-clause-result_after
returns-clause-result_after c =
    sweep-law _ (places_from 0 c.complexes_used-used.result) _ _ _ _ _ _ _ _ _ _ _ _ (ap (places_from 0) c.complexes_used-used.ensures.0 ∙ all-resting _ c.requires)
    c.at_places-worked.ensures.result_after c.settle_all-settled.ensures.result_after c.at_places.ensures.result_after
