-- `set_check::of_this` meets its contract.
use Rattle.set_check.proofs.OrderLaws.{this-whole, this-short}
use Rattle.set_check.proofs.of_this.Goals as goal

pub returns-then-st : goal.returns-then-st
returns-then-st c = this-whole _ _ _ c.if-st.true c.of_whole.ensures

pub returns : goal.returns
returns c = this-short _ _ _ c.if-st.false c.of_short.ensures
