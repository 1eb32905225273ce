-- `set_check::same_series` meets its contract.
use native.Mathlib.Omega.{arith}
use Rattle.set_check.proofs.OrderLaws.{same_not, same-so}
use Rattle.set_check.proofs.same_series.Goals as goal

pub returns-then-st-ne4 : goal.returns-then-st-ne4
returns-then-st-ne4 c = same_not _ _ (λ e. omega arith)

pub returns : goal.returns
returns c = same-so _ _ _ c.sort_key.ensures (omega arith)
