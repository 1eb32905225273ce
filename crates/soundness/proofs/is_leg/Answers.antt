-- `soundness::is_leg` meets its contract.
use borrow.Author.Tests.{eq-eqb, ne_eqb}
use Rattle.soundness.proofs.is_leg.Goals as goal

pub returns-then-series-s : goal.returns-then-series-s
returns-then-series-s c = simp (ne_eqb _ _ c.if-series-s.true)

pub returns : goal.returns
returns c = simp (eq-eqb _ _ c.if-series-s.false)
