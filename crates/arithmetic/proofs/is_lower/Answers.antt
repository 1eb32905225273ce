-- `arithmetic::is_lower` meets its contract.
use Rattle.rules.specs.Prices.{better}
use borrow.Author.Tests.{eq-eqb, ne_eqb}
use Rattle.arithmetic.proofs.is_lower.Goals as goal

pub returns-then-a-eq0 : goal.returns-then-a-eq0
unfolding better
returns-then-a-eq0 c = simp (eq-eqb _ _ c.if-a-eq0.true)

pub returns-then-b-eq0 : goal.returns-then-b-eq0
unfolding better
returns-then-b-eq0 c = simp (ne_eqb _ _ c.if-a-eq0.false, eq-eqb _ _ c.if-b-eq0.true)

pub returns : goal.returns
unfolding better
returns c = simp (ne_eqb _ _ c.if-a-eq0.false, ne_eqb _ _ c.if-b-eq0.false)
