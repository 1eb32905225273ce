use mathlib.Core.Path.{sym, ◌∙◌}
use borrow.Author.Tests.{eq-eqb, ne_eqb}
use Rattle.rules.specs.Refusals.{two_leg_in_range, complex_in_range}
use Rattle.rules.proofs.Tests.{and-true, and-false}
use Rattle.wire.proofs.complex_in_range.Goals as goal

pub returns-then-is_one_to_one : goal.returns-then-is_one_to_one
unfolding complex_in_range
returns-then-is_one_to_one c =
    let o = c.args.c in
    c.two_leg_in_range.ensures ∙ (rw (sym c.is_one_to_one.ensures ∙ c.if-is_one_to_one.true) (sym (and-true (two_leg_in_range 200000 o))))

pub returns-then-c : goal.returns-then-c
unfolding complex_in_range
returns-then-c c =
    let o = c.args.c in
    rw (sym c.is_one_to_one.ensures ∙ c.if-is_one_to_one.false, eq-eqb o.ratio1 o.ratio2 c.if-c.true) (sym (and-false (two_leg_in_range 600000 o)))

pub returns : goal.returns
unfolding complex_in_range
returns c =
    let o = c.args.c in
    c.two_leg_in_range-2.ensures
    ∙ (rw (
      sym c.is_one_to_one.ensures ∙ c.if-is_one_to_one.false,
      ne_eqb o.ratio1 o.ratio2 c.if-c.false,
    ) (sym (and-true (two_leg_in_range 600000 o))))
