-- `set_check::of_whole` meets its contract.
use native.Mathlib.Omega.{arith}
use Rattle.set_check.proofs.OrderLaws.{whole-none, whole-some}
use Rattle.set_check.proofs.of_whole.Goals as goal

pub returns-then-part_of-eq0 : goal.returns-then-part_of-eq0
returns-then-part_of-eq0 c = whole-none _ (omega arith)

pub returns : goal.returns
returns c = whole-some _ _ c.kind_of.ensures (λ e. omega arith)
