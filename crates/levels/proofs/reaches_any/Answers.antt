-- `levels::reaches_any` meets its contract.
use Rattle.rules.specs.Generation.{reaches_any}
use borrow.Author.Tests.{eq-eqb, ne_eqb}
use Rattle.levels.proofs.reaches_any.Goals as goal

pub returns-then-q-eq0 : goal.returns-then-q-eq0
unfolding reaches_any
returns-then-q-eq0 c = simp (eq-eqb _ _ c.if-q-eq0.true)

pub returns : goal.returns
unfolding reaches_any
returns c = simp (ne_eqb _ _ c.if-q-eq0.false) c.reaches_price.ensures
