-- `set_parts::put_status` meets its contract.
use Rattle.rules.specs.Bytes.{framed, bytes}
use Rattle.rules.specs.Messages.{encode_message}
use Rattle.rules.proofs.Reading.{byte}
use Rattle.set_parts.proofs.SetMemoryLaws.{wrote}
use Rattle.set_parts.proofs.put_status.Goals as goal

pub returns : goal.returns
unfolding encode_message framed bytes
returns c = wrote _ _ _ _ _ _ c.put.ensures
    (rw (byte c.args.s c.ranges.s.fits, byte c.args.status c.ranges.status.fits))
