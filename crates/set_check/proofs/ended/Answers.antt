-- `set_check::ended` meets its contract.
use borrow.Author.Tests.{not-true, not-false}
use borrow.Author.Tests.{lt-ltb, le-ltb}
use Rattle.set_check.specs.Order.{looked_at, goes_on}
use Rattle.rules.specs.Base.{all}
use Rattle.set_check.proofs.ended.Goals as goal

pub returns-then-st-lt17 : goal.returns-then-st-lt17
unfolding looked_at goes_on all
returns-then-st-lt17 c = rw (lt-ltb _ _ c.if-st-lt17.true)

pub returns-then-not-st : goal.returns-then-not-st
unfolding looked_at goes_on all
returns-then-not-st c = rw (le-ltb _ _ c.if-st-lt17.false, not-true c.args.st.placed c.if-not-st.true)

pub returns : goal.returns
unfolding looked_at goes_on all
returns c = rw (le-ltb _ _ c.if-st-lt17.false, not-false c.args.st.placed c.if-not-st.false)
