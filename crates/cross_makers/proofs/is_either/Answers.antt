-- `cross_makers::is_either` meets its contract.
use borrow.Author.Tests.{eq-eqb, ne_eqb}
use Rattle.cross_makers.proofs.is_either.Goals as goal

pub returns-then-key-one : goal.returns-then-key-one
returns-then-key-one c = simp (eq-eqb _ _ c.if-key-one.true)

pub returns : goal.returns
returns c = simp (ne_eqb _ _ c.if-key-one.false)
