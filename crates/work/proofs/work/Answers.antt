-- `work::work` meets its contract.
use mathlib.Core.Path.{sym, subst, ◌∙◌}
use native.Mathlib.Omega.{arith}
use Rattle.places.proofs.Parts.{complexes-few, complex-at}
use Rattle.levels.specs.Grid.{LegsIn}
use Rattle.prices.proofs.Prices.{legs-in}
use Rattle.work.proofs.WorkLaws.{work_closed, work-gone, work-steps}
use Rattle.work.proofs.work.Goals as goal

pub complex_at-c-requires : goal.complex_at-c-requires
complex_at-c-requires c = let z = complexes-few c.args.numbers.now in
    omega (arith, c.requires.in_use)

pub returns-then-c-eq0-clause-result_after : goal.returns-then-c-eq0-clause-result_after
returns-then-c-eq0-clause-result_after c =
    work-gone c.args.i _ _ (c.complex_at-c.ensures ∙ sym (complex-at c.args.numbers.now c.args.i c.requires.in_use)) _ _ c.if-c-eq0.true

pub any_closed-requires : goal.any_closed-requires
any_closed-requires c = subst LegsIn (sym c.complex_at-c.ensures) (legs-in c.args.numbers.now c.args.i)

pub returns-then-any_closed-clause-result_after : goal.returns-then-any_closed-clause-result_after
returns-then-any_closed-clause-result_after c =
    work_closed c.args.i _ _
    (c.complex_at-c.ensures ∙ sym (complex-at c.args.numbers.now c.args.i c.requires.in_use)) _ _
    (sym c.any_closed.ensures ∙ c.if-any_closed.true)

pub returns-clause-result_after : goal.returns-clause-result_after
returns-clause-result_after c =
    work-steps c.args.i _ _
    (c.complex_at-c.ensures ∙ sym (complex-at c.args.numbers.now c.args.i c.requires.in_use))
    _ _ _ _ _ _ _ _ _ _ _
    (sym c.any_closed.ensures
    ∙ c.if-any_closed.false) c.cross_all-crossed.ensures.result_after c.touch-touched.ensures.result_after c.leg_in_all.ensures.result_after
