-- `prices::is_complex_of` meets its contract.
use Rattle.rules.specs.Words.{is_complex_of}
use borrow.Author.Tests.{eq-eqb, ne_eqb}
use Rattle.prices.proofs.is_complex_of.Goals as goal

pub returns-then-c-eq0 : goal.returns-then-c-eq0
unfolding is_complex_of
returns-then-c-eq0 c = simp (eq-eqb _ _ c.if-c-eq0.true)

pub returns : goal.returns
unfolding is_complex_of
returns c = simp (ne_eqb _ _ c.if-c-eq0.false)
