use mathlib.Core.Path.{refl}
use Rattle.rules.specs.Bytes.{u8_at}
use Rattle.wire.proofs.byte_at.Goals as goal

pub returns : goal.returns
unfolding u8_at
returns c = refl
