-- `refusals::has_leg_in` meets its contract.
use borrow.Author.Tests.{eq-eqb, ne_eqb}
use Rattle.refusals.proofs.RefusalFound.{second-leg}
use Rattle.refusals.proofs.has_leg_in.Goals as goal

pub returns-then-c-eq0 : goal.returns-then-c-eq0
returns-then-c-eq0 c = simp (eq-eqb _ _ c.if-c-eq0.true)

pub returns-then-c-s : goal.returns-then-c-s
returns-then-c-s c = simp (ne_eqb _ _ c.if-c-eq0.false, eq-eqb _ _ c.if-c-s.true)

pub returns : goal.returns
returns c = second-leg c.args.c c.args.s c.if-c-eq0.false c.if-c-s.false
