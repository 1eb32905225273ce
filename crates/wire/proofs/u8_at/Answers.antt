use mathlib.Core.Path.{refl, sym}
use Rattle.rules.specs.Bytes.{u8_at}
use Rattle.wire.proofs.Numbers.{u8-past}
use Rattle.wire.proofs.u8_at.Goals as goal

pub returns-then-at-s : goal.returns-then-at-s
unfolding u8_at
returns-then-at-s c = refl

pub returns-else-at-s : goal.returns-else-at-s
returns-else-at-s c = sym (u8-past _ _ c.if-at-s.false)
