use Rattle.rules.specs.Bytes.{framed, bytes}
use Rattle.rules.specs.Records.{removed, cause_number, encode}
use Rattle.rules.proofs.Reading.{byte, cause-small}
use Rattle.records.proofs.SeenLaws.{emitted}
use Rattle.records.proofs.emit_removed.Goals as goal

pub returns : goal.returns
unfolding encode framed bytes
returns c =
    emitted _ _ _ (removed c.args.id c.args.series c.args.side c.args.cause) c.put.ensures
    (rw (
      c.cause_number-why.ensures,
      c.bytes4-i.ensures,
      byte c.args.series c.ranges.series.fits,
      byte c.args.side c.ranges.side.fits,
      byte (cause_number c.args.cause) (cause-small c.args.cause),
    ))
