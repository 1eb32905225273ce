-- `set_check::is_opening` meets its contract.
use mathlib.Core.Path.{refl}
use native.Mathlib.Omega.{arith}
use Rattle.set_check.proofs.OrderLaws.{open-whole, open-other, open-not, open-series}
use Rattle.set_check.proofs.is_opening.Goals as goal

pub returns-then-kind-eq80 : goal.returns-then-kind-eq80
returns-then-kind-eq80 c = open-whole _ _ (omega arith) (omega arith)

pub returns-then-opened-eq0 : goal.returns-then-opened-eq0
returns-then-opened-eq0 c = open-other _ _ _ (omega arith) c.kind_of-kind.ensures (λ e. omega arith)

pub returns-then-kind-due : goal.returns-then-kind-due
returns-then-kind-due c = open-not _ _ _ _ (λ e. omega arith) c.kind_of-kind.ensures refl (λ e. omega arith)

pub returns : goal.returns
returns c = open-series _ _ _ _ (λ e. omega arith) c.kind_of-kind.ensures refl _ (omega arith) c.u8_at.ensures
