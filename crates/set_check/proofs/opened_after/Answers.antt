-- `set_check::opened_after` meets its contract.
use mathlib.Core.Path.{sym}
use borrow.Author.Tests.{lt-ltb, le-ltb}
use Rattle.set_check.specs.Order.{opened_after}
use Rattle.set_check.proofs.opened_after.Goals as goal

pub returns-then-opened-lt17 : goal.returns-then-opened-lt17
unfolding opened_after
returns-then-opened-lt17 c = sym (rw (lt-ltb _ _ c.if-opened-lt17.true))

pub returns : goal.returns
unfolding opened_after
returns c = rw (le-ltb _ _ c.if-opened-lt17.false)
