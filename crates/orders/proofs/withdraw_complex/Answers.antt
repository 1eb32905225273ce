-- `orders::withdraw_complex` meets its contract.
use mathlib.Core.Path.{sym, ap, ◌∙◌}
use mathlib.Core.Bool.{true≢false}
use Prim.Native.Nat.{ℕ}
use Rattle.rules.specs.Complex.{cancel_complex}
use Rattle.records.specs.Seen.{seen}
use Rattle.records.specs.Stage.{◌does◌}
use Rattle.places.specs.Layout.{venue_of}
use Rattle.orders.proofs.CancelLaws.{complex-found, complex-used, complex-not}
use Rattle.orders.proofs.withdraw_complex.Goals as goal

pub returns-in_default-clause-result_after : goal.returns-in_default-clause-result_after
returns-in_default-clause-result_after c = absurd (true≢false (sym c.requires ∙ complex-not c.args.numbers.now c.args.id
    (sym c.in_default.is ∙ c.complex_place-found.ensures)))

pub cancel_complex-requires : goal.cancel_complex-requires
cancel_complex-requires c = complex-used c.args.numbers.now c.args.id _
    (sym c.in-Some.is ∙ c.complex_place-found.ensures)

pub returns-clause-result_after : goal.returns-clause-result_after
returns-clause-result_after c = c.cancel_complex.ensures.result_after
    ∙ ap (λ (k : ℕ). seen c.args.out.now c.args.at does cancel_complex k (venue_of c.args.numbers.now))
    (sym (complex-found c.args.numbers.now c.args.id _
    (sym c.in-Some.is
    ∙ c.complex_place-found.ensures)).1)
