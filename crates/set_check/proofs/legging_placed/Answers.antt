-- `set_check::legging_placed` meets its contract.
use native.Mathlib.Omega.{arith}
use Rattle.set_check.proofs.OrderLaws.{legging-series, legging-side, legging-quantity}
use Rattle.set_check.proofs.legging_placed.Goals as goal

pub returns-then-u8_at-gt7 : goal.returns-then-u8_at-gt7
returns-then-u8_at-gt7 c = legging-series _ _ c.u8_at.ensures (omega arith)

pub returns-then-u8_at-gt1 : goal.returns-then-u8_at-gt1
returns-then-u8_at-gt1 c = legging-side _ _ c.u8_at.ensures _ c.u8_at-2.ensures (omega arith) (omega arith)

pub returns : goal.returns
returns c = legging-quantity _ _ c.u8_at.ensures _ c.u8_at-2.ensures _ c.u32_at.ensures (omega arith) (omega arith)
