use mathlib.Core.Path.{sym}
use native.Mathlib.Omega.{arith}
use Rattle.wire.proofs.Numbers.{u32-past, u32-bytes}
use Rattle.wire.proofs.u32_at.Goals as goal

pub returns-then-s-at : goal.returns-then-s-at
returns-then-s-at c = sym (u32-past _ _ c.if-s-at.true)

pub returns : goal.returns
returns c =
    let e = c.from_le_bytes.ensures in
    let f = u32-bytes c.args.s.now c.args.at in
    let a = c.u8_at.ensures in
    let b = c.u8_at-2.ensures in
    let x = c.u8_at-3.ensures in
    let y = c.u8_at-4.ensures in
    omega arith
