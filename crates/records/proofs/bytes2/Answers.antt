use Rattle.rules.specs.Bytes.{bytes}
use Rattle.records.proofs.bytes2.Goals as goal

pub returns : goal.returns
unfolding bytes
returns c = c.to_le_bytes.ensures
