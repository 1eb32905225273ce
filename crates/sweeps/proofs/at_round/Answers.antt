-- `sweeps::at_round` meets its contract.
use mathlib.Core.Path.{ap, ◌∙◌}
use Rattle.rules.specs.Complex.{each_of}
use Rattle.rules.specs.Effects.{Effect}
use Rattle.records.specs.Seen.{seen}
use Rattle.records.specs.Stage.{◌does◌}
use Rattle.records.proofs.StageLaws.{follow}
use Rattle.places.specs.Layout.{venue_of}
use Rattle.sweeps.specs.Round.{places_from, round_places}
use Rattle.sweeps.proofs.RoundLaws.{each_of-join}
use Rattle.sweeps.proofs.at_round.Goals as goal

pub returns-clause-result_after : goal.returns-clause-result_after
unfolding round_places
returns-clause-result_after g c =
    let a = c.args in
    let above = places_from a.r.first a.r.above in
    let others = places_from 0 a.r.others in
    follow _ (each_of (g.T.Task.effect a.task) above (venue_of a.numbers.now)) (each_of (g.T.Task.effect a.task) others) _ _ _ _ _ _ c.at_places-pos.ensures.result_after c.at_places.ensures.result_after
    ∙ ap (λ (e : Effect). seen a.out.now a.at does e) (each_of-join (g.T.Task.effect a.task) above others (venue_of a.numbers.now))
