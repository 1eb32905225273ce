use Rattle.rules.specs.Bytes.{framed, bytes}
use Rattle.rules.specs.Records.{trade, encode}
use Rattle.records.specs.Seen.{word_bytes}
use Rattle.rules.proofs.Reading.{byte}
use Rattle.records.proofs.SeenLaws.{emitted}
use Rattle.records.proofs.emit_trade.Goals as goal

pub returns : goal.returns
unfolding encode framed bytes word_bytes
returns c =
    emitted _ _ _ (trade c.args.series c.args.side c.args.price c.args.quantity c.args.taker c.args.maker) c.put_words.ensures
    (rw (byte c.args.series c.ranges.series.fits, byte c.args.side c.ranges.side.fits))
