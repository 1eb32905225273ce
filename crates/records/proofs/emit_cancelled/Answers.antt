use Rattle.rules.specs.Bytes.{framed, bytes}
use Rattle.rules.specs.Records.{cancelled, encode}
use Rattle.records.specs.Seen.{word_bytes}
use mathlib.Core.Path.{refl}
use Rattle.records.proofs.SeenLaws.{emitted}
use Rattle.records.proofs.emit_cancelled.Goals as goal

pub returns : goal.returns
unfolding encode framed bytes word_bytes
returns c =
    emitted _ _ _ (cancelled c.args.id c.args.quantity) c.put_words.ensures
    refl
