-- `set_check::complex_placed` meets its contract.
use native.Mathlib.Omega.{arith}
use Rattle.set_check.proofs.OrderLaws.{complex-free, complex-pair, complex-first, complex-second}
use Rattle.set_check.proofs.complex_placed.Goals as goal

pub returns-then-u32_at-eq0 : goal.returns-then-u32_at-eq0
returns-then-u32_at-eq0 c = complex-free _ _ c.u32_at.ensures (omega arith)

pub returns-then-kind_of-ne10 : goal.returns-then-kind_of-ne10
returns-then-kind_of-ne10 c = complex-pair _ _ c.u32_at.ensures (λ e. omega arith) (λ e. omega arith)

pub returns-then-u8_at-ne1 : goal.returns-then-u8_at-ne1
returns-then-u8_at-ne1 c = complex-first _ _ c.u32_at.ensures (λ e. omega arith) (omega arith) (λ e. omega arith)

pub returns : goal.returns
returns c = complex-second _ _ c.u32_at.ensures (λ e. omega arith) _ (omega arith) (omega arith) c.u8_at-2.ensures
