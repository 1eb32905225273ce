use native.Mathlib.Omega.{arith}
use Rattle.rules.specs.Bytes.{u8_at, u16_at}
use Rattle.wire.proofs.half_at.Goals as goal

pub returns : goal.returns
unfolding u16_at u8_at
returns c = let e = c.from_le_bytes.ensures in omega arith
