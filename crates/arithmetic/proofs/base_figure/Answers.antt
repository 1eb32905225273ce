-- `arithmetic::base_figure` meets its contract.
use borrow.Author.Tests.{lt-ltb, le-ltb}
use Rattle.rules.specs.Settings.{base_figure}
use Rattle.arithmetic.proofs.base_figure.Goals as goal

pub returns-then-figure-lt6 : goal.returns-then-figure-lt6
unfolding base_figure
returns-then-figure-lt6 c = simp (lt-ltb _ _ c.if-figure-lt6.true)

pub returns-then-figure-lt8 : goal.returns-then-figure-lt8
unfolding base_figure
returns-then-figure-lt8 c = simp (lt-ltb _ _ c.if-figure-lt8.true, le-ltb _ _ c.if-figure-lt6.false)

pub returns : goal.returns
unfolding base_figure
returns c = simp (le-ltb _ _ c.if-figure-lt8.false, le-ltb _ _ c.if-figure-lt6.false)
