-- `prices::other_leg` meets its contract.
use Rattle.rules.specs.Standing.{other_leg}
use borrow.Author.Tests.{eq-eqb, ne_eqb}
use Rattle.prices.proofs.other_leg.Goals as goal

pub returns-then-c-s : goal.returns-then-c-s
unfolding other_leg
returns-then-c-s c = simp (eq-eqb _ _ c.if-c-s.true)

pub returns : goal.returns
unfolding other_leg
returns c = simp (ne_eqb _ _ c.if-c-s.false)
