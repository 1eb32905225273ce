-- `settling::remove_failing` meets its contract.
use Rattle.removal.proofs.RemovalLaws.{remove-none, no-causes, causes-are}
use Rattle.places.specs.Layout.{venue_of}
use Rattle.records.proofs.StageLaws.{does-nothing}
use Rattle.records.specs.Stage.{◌does◌}
use Rattle.records.specs.Seen.{seen}
use Rattle.rules.specs.Standing.{verdict}
use Rattle.rules.specs.Effects.{Effect}
use borrow.Author.Tests.{eqb-true}
use mathlib.Core.Path.{sym, ap, ◌∙◌}
use Rattle.settling.proofs.remove_failing.Goals as goal

pub returns-then-none_stands-clause-result_after : goal.returns-then-none_stands-clause-result_after
returns-then-none_stands-clause-result_after c =
    let a = c.args in
    let v = venue_of a.numbers.now in
    does-nothing v a.out.now a.at
    ∙ ap (λ (e : Effect). seen a.out.now a.at does e) (sym (remove-none (verdict v) v (eqb-true _ _ (sym c.none_stands.ensures ∙ c.if-none_stands.true))))

pub returns-then-causes-eq0-clause-result_after : goal.returns-then-causes-eq0-clause-result_after
returns-then-causes-eq0-clause-result_after c =
    let a = c.args in
    let v = venue_of a.numbers.now in
    does-nothing v a.out.now a.at
    ∙ ap (λ (e : Effect). seen a.out.now a.at does e) (no-causes c.verdicts-causes.result v c.if-causes-eq0.true ∙ causes-are (verdict v) c.verdicts-causes.result a.numbers.now c.verdicts-causes.ensures)

pub returns-clause-result_after : goal.returns-clause-result_after
returns-clause-result_after c =
    let a = c.args in
    c.remove_by_causes.ensures.result_after ∙ ap (λ (e : Effect). seen a.out.now a.at does e) (causes-are (verdict (venue_of a.numbers.now)) c.verdicts-causes.result a.numbers.now c.verdicts-causes.ensures)
