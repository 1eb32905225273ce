-- `set_check::may_stand` meets its contract.
use mathlib.Core.Path.{sym, ◌∙◌}
use native.Mathlib.Omega.{arith}
use Rattle.set_check.proofs.OrderLaws.{stand-later, stand-earlier, stand-risen, stand-fallen, stand-told}
use Rattle.set_check.proofs.may_stand.Goals as goal

pub returns-then-st-part : goal.returns-then-st-part
returns-then-st-part c = stand-later _ _ (omega arith)

pub returns-then-st-part-2 : goal.returns-then-st-part-2
returns-then-st-part-2 c = stand-earlier _ _ (omega arith) (λ e. omega arith)

pub returns-then-st-sort_key : goal.returns-then-st-sort_key
returns-then-st-sort_key c = stand-risen _ _ (omega arith) (omega arith)

pub returns-then-not-same_series : goal.returns-then-not-same_series
returns-then-not-same_series c = stand-fallen _ _ (omega arith) (omega arith) (sym c.same_series.ensures ∙ c.if-not-same_series.true)

pub returns : goal.returns
returns c = stand-told _ _ (omega arith) _ (omega arith) (sym c.same_series.ensures ∙ c.if-not-same_series.false) c.told_of.ensures
