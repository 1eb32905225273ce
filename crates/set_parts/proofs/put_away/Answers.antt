-- `set_parts::put_away` meets its contract.
use Rattle.rules.specs.Bytes.{framed, bytes}
use Rattle.rules.specs.Messages.{encode_message}
use Rattle.rules.proofs.Reading.{byte}
use Rattle.records.specs.Seen.{word_bytes}
use Rattle.set_parts.proofs.SetMemoryLaws.{wrote}
use Rattle.set_parts.proofs.put_away.Goals as goal

pub returns : goal.returns
unfolding encode_message framed bytes word_bytes
returns c = wrote _ _ _ _ _ _ c.put_words.ensures (rw (byte c.args.s c.ranges.s.fits))
