use Rattle.rules.specs.Bytes.{framed, bytes}
use Rattle.rules.specs.Records.{generated, encode}
use Rattle.records.specs.Seen.{word_bytes}
use Rattle.rules.proofs.Reading.{byte}
use Rattle.records.proofs.SeenLaws.{emitted}
use Rattle.records.proofs.emit_generated.Goals as goal

pub returns : goal.returns
unfolding encode framed bytes word_bytes
returns c =
    emitted _ _ _ (generated c.args.id c.args.series c.args.side c.args.price c.args.displayed c.args.quantity) c.put_words.ensures
    (rw (c.bytes4-i.ensures, byte c.args.series c.ranges.series.fits, byte c.args.side c.ranges.side.fits))
