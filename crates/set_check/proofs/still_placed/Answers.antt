-- `set_check::still_placed` meets its contract.
use borrow.Author.Tests.{not-true, not-false}
use Rattle.set_check.proofs.still_placed.Goals as goal

pub returns-then-not-st : goal.returns-then-not-st
returns-then-not-st c = rw (not-true c.args.st.placed c.if-not-st.true)

pub returns : goal.returns
returns c = rw (not-false c.args.st.placed c.if-not-st.false) c.has_place.ensures
