use Rattle.rules.specs.Bytes.{framed, bytes}
use Rattle.rules.specs.Records.{looked, encode}
use Rattle.rules.proofs.Reading.{byte}
use Rattle.records.proofs.SeenLaws.{emitted}
use Rattle.records.proofs.emit_looked.Goals as goal

pub returns : goal.returns
unfolding encode framed bytes
returns c =
    emitted _ _ _ (looked c.args.count) c.put.ensures (rw (byte c.args.count c.ranges.count.fits))
