use mathlib.Core.Path.{sym}
use native.Mathlib.Omega.{arith}
use Rattle.wire.proofs.Numbers.{u16-past}
use Rattle.records.proofs.NextLaws.{next-none, next-found}
use Rattle.records.proofs.next_record.Goals as goal

pub returns-then-n-at : goal.returns-then-n-at
returns-then-n-at c = let s = c.args in sym (next-none s.memory.now s.at (u16-past _ _ c.if-n-at.true))

pub returns-then-size-eq0 : goal.returns-then-size-eq0
returns-then-size-eq0 c = sym (next-none _ _ (omega arith))

pub returns : goal.returns
returns c = let s = c.args in rw c.u16_at-kind.ensures (sym (next-found s.memory.now s.at _ (λ e. omega arith) (omega arith)))
