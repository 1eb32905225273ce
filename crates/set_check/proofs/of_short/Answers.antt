-- `set_check::of_short` meets its contract.
use native.Mathlib.Omega.{arith}
use Rattle.set_check.proofs.OrderLaws.{short-legging, short_none, short-order}
use Rattle.set_check.proofs.of_short.Goals as goal

pub returns-then-part-eq3 : goal.returns-then-part-eq3
returns-then-part-eq3 c = short-legging _ (omega arith)

pub returns-then-part-ne2 : goal.returns-then-part-ne2
returns-then-part-ne2 c = short_none _ (λ e. omega arith) (λ e. omega arith)

pub returns : goal.returns
returns c = short-order _ _ c.kind_of.ensures (omega arith)
