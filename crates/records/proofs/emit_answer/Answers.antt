use Rattle.rules.specs.Bytes.{framed, bytes}
use Rattle.rules.specs.Records.{answer, encode}
use Rattle.rules.proofs.Reading.{byte}
use Rattle.records.proofs.SeenLaws.{emitted}
use Rattle.records.proofs.emit_answer.Goals as goal

pub returns : goal.returns
unfolding encode framed bytes
returns c =
    emitted _ _ _ (answer c.args.number c.args.refusal c.args.mask c.args.count) c.put.ensures
    (rw (
      c.bytes2-m.ensures,
      c.bytes4-n.ensures,
      byte c.args.refusal c.ranges.refusal.fits,
      byte c.args.count c.ranges.count.fits,
    ))
