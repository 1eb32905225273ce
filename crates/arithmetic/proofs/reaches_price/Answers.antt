-- `arithmetic::reaches_price` meets its contract.
use Rattle.rules.specs.Prices.{reaches}
use borrow.Author.Tests.{eq-eqb, ne_eqb}
use Rattle.arithmetic.proofs.reaches_price.Goals as goal

pub returns-then-side-eq0 : goal.returns-then-side-eq0
unfolding reaches
returns-then-side-eq0 c = simp (eq-eqb _ _ c.if-side-eq0.true)

pub returns : goal.returns
unfolding reaches
returns c = simp (ne_eqb _ _ c.if-side-eq0.false)
