use mathlib.Core.Path.{sym}
use native.Mathlib.Omega.{arith}
use Rattle.rules.specs.Bytes.{u16_at}
use Rattle.wire.proofs.Numbers.{u16-past}
use Rattle.wire.proofs.u16_at.Goals as goal

pub returns-then-s-at : goal.returns-then-s-at
returns-then-s-at c = sym (u16-past _ _ c.if-s-at.true)

pub returns : goal.returns
unfolding u16_at
returns c = let e = c.from_le_bytes.ensures in let a = c.u8_at.ensures in let b = c.u8_at-2.ensures in omega arith
