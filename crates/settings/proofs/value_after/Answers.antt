-- `settings::value_after` meets its contract.
use borrow.Author.Tests.{le-leb, lt-leb, eq-eqb, ne_eqb}
use Rattle.rules.specs.Settings.{sets}
use Rattle.settings.specs.Forced.{value_after}
use Rattle.settings.proofs.value_after.Goals as goal

pub returns-then-number-e : goal.returns-then-number-e
unfolding value_after
returns-then-number-e c = simp (lt-leb _ _ c.if-number-e.true)

pub returns-then-e-eq0 : goal.returns-then-e-eq0
unfolding value_after sets
returns-then-e-eq0 c = simp (le-leb _ _ c.if-number-e.false, eq-eqb _ _ c.if-e-eq0.true)

pub returns-then-e-f : goal.returns-then-e-f
unfolding value_after sets
returns-then-e-f c = simp (le-leb _ _ c.if-number-e.false, ne_eqb _ _ c.if-e-eq0.false, ne_eqb _ _ c.if-e-f.true)

pub returns : goal.returns
unfolding value_after sets
returns c = simp (le-leb _ _ c.if-number-e.false, ne_eqb _ _ c.if-e-eq0.false, eq-eqb _ _ c.if-e-f.false)
