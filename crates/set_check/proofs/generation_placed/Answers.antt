-- `set_check::generation_placed` meets its contract.
use native.Mathlib.Omega.{arith}
use mathlib.Core.Path.{sym, ap, ◌∙◌}
use Prim.Native.Nat.{ℕ}
use lib.Dec.{eqb}
use mathlib.Core.Bool.{not}
use Rattle.set_check.proofs.OrderLaws.{series-out, series-in}
use Rattle.set_check.proofs.generation_placed.Goals as goal

pub returns-then-u8_at-gt7 : goal.returns-then-u8_at-gt7
returns-then-u8_at-gt7 c = series-out _ _ c.u8_at.ensures _ (omega arith)

pub returns : goal.returns
returns c = ap (λ (q : ℕ). not (eqb q 0)) c.u32_at.ensures ∙ sym (series-in _ _ c.u8_at.ensures _ (omega arith))
