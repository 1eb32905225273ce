-- `set_check::is_next` meets its contract.
use mathlib.Core.Path.{sym, ◌∙◌}
use native.Mathlib.Omega.{arith}
use Rattle.set_check.proofs.OrderLaws.{next-opens, next-not, next-stands}
use Rattle.set_check.proofs.is_next.Goals as goal

pub returns-then-st-lt17 : goal.returns-then-st-lt17
returns-then-st-lt17 c = next-opens _ _ _ (omega arith) c.is_opening.ensures

pub returns-then-not-of_this : goal.returns-then-not-of_this
returns-then-not-of_this c = next-not _ _ (omega arith) (sym c.of_this.ensures ∙ c.if-not-of_this.true)

pub returns : goal.returns
returns c = next-stands _ _ _ (omega arith) (sym c.of_this.ensures ∙ c.if-not-of_this.false) c.may_stand.ensures
