-- `orders::withdraw` meets its contract.
use mathlib.Core.Path.{sym, ap, ◌∙◌}
use Rattle.rules.specs.Effects.{Effect}
use Rattle.rules.specs.Complex.{rests_regular, rests_complex}
use Rattle.rules.proofs.Tests.{or_r}
use Rattle.records.specs.Seen.{seen}
use Rattle.records.specs.Stage.{◌does◌}
use Rattle.places.specs.Layout.{venue_of}
use Rattle.orders.proofs.CancelLaws.{regular-found, regular-used, regular-not, withdraw-regular, withdraw-other}
use Rattle.orders.proofs.withdraw.Goals as goal

pub withdraw_complex-requires : goal.withdraw_complex-requires
withdraw_complex-requires c = or_r (rests_regular (venue_of c.args.numbers.now) c.args.id)
    (rests_complex (venue_of c.args.numbers.now) c.args.id)
    (regular-not c.args.numbers.now c.args.id
    (sym c.in_default.is ∙ c.regular_place-found.ensures)) c.requires.rests

pub returns-in_default-clause-result_after : goal.returns-in_default-clause-result_after
returns-in_default-clause-result_after c = c.withdraw_complex.ensures.result_after ∙ ap (λ (e : Effect). seen c.args.out.now c.args.at does e)
    (withdraw-other _ _ (regular-not c.args.numbers.now c.args.id
    (sym c.in_default.is
    ∙ c.regular_place-found.ensures)))

pub cancel_regular-requires : goal.cancel_regular-requires
cancel_regular-requires c = regular-used c.args.numbers.now c.args.id _
    (sym c.in-Some.is ∙ c.regular_place-found.ensures)

pub returns-clause-result_after : goal.returns-clause-result_after
returns-clause-result_after c = c.cancel_regular.ensures.result_after ∙ ap (λ (e : Effect). seen c.args.out.now c.args.at does e)
    (withdraw-regular _ _ _
    (regular-found c.args.numbers.now c.args.id _
    (sym c.in-Some.is
    ∙ c.regular_place-found.ensures)))
