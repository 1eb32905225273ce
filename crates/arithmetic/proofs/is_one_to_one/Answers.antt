use borrow.Author.Tests.{eq-eqb, ne_eqb}
use Rattle.rules.specs.Words.{one_to_one}
use Rattle.arithmetic.proofs.is_one_to_one.Goals as goal

pub returns-then-c-ne1 : goal.returns-then-c-ne1
unfolding one_to_one
returns-then-c-ne1 c = rw (ne_eqb _ _ c.if-c-ne1.true)

pub returns : goal.returns
unfolding one_to_one
returns c = rw (eq-eqb _ _ c.if-c-ne1.false)
