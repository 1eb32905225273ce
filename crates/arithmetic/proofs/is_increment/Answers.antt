use borrow.Author.Tests.{eq-eqb, ne_eqb}
use Rattle.rules.specs.Settings.{is_increment}
use Rattle.arithmetic.proofs.is_increment.Goals as goal

pub returns-then-n-eq1 : goal.returns-then-n-eq1
unfolding is_increment
returns-then-n-eq1 c = rw (eq-eqb _ 1 c.if-n-eq1.true)

pub returns-then-n-eq5 : goal.returns-then-n-eq5
unfolding is_increment
returns-then-n-eq5 c = rw (ne_eqb _ 1 c.if-n-eq1.false, eq-eqb _ 5 c.if-n-eq5.true)

pub returns : goal.returns
unfolding is_increment
returns c = rw (ne_eqb _ 1 c.if-n-eq1.false, ne_eqb _ 5 c.if-n-eq5.false)
