-- `prices::own_price_of` meets its contract.
use borrow.Author.Tests.{eq-eqb, ne_eqb}
use Rattle.rules.specs.Prices.{own_price}
use Rattle.prices.proofs.own_price_of.Goals as goal

pub returns-then-legging-eq0 : goal.returns-then-legging-eq0
unfolding own_price
returns-then-legging-eq0 c = simp (eq-eqb _ _ c.if-legging-eq0.true)

pub returns : goal.returns
unfolding own_price
returns c = simp (ne_eqb _ _ c.if-legging-eq0.false)
