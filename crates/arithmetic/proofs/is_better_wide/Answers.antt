-- `arithmetic::is_better_wide` meets its contract.
use Rattle.rules.specs.Prices.{better}
use borrow.Author.Tests.{eq-eqb, ne_eqb}
use Rattle.arithmetic.proofs.is_better_wide.Goals as goal

pub returns-then-side-eq0 : goal.returns-then-side-eq0
unfolding better
returns-then-side-eq0 c = simp (eq-eqb _ _ c.if-side-eq0.true)

pub returns : goal.returns
unfolding better
returns c = simp (ne_eqb _ _ c.if-side-eq0.false) c.is_lower-lower.ensures
