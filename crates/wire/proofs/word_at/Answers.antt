use native.Mathlib.Omega.{arith}
use Rattle.wire.proofs.Numbers.{u32-bytes}
use Rattle.rules.specs.Bytes.{u8_at}
use Rattle.wire.proofs.word_at.Goals as goal

pub returns : goal.returns
unfolding u8_at
returns c = let e = c.from_le_bytes.ensures in let f = u32-bytes c.args.s.now c.args.at in omega arith
