-- `set_parts::put_generation` meets its contract.
use borrow.Author.Tests.{ne_eqb}
use Rattle.rules.specs.Bytes.{framed, bytes}
use Rattle.rules.proofs.Reading.{byte}
use Rattle.records.specs.Seen.{word_bytes}
use Rattle.sets.specs.Set.{generation_record}
use Rattle.set_parts.proofs.SetMemoryLaws.{absent, present, wrote}
use Rattle.set_parts.proofs.put_generation.Goals as goal

pub returns-then-number-eq0 : goal.returns-then-number-eq0
returns-then-number-eq0 c = absent _ _ _ _ (rw c.if-number-eq0.true)

pub returns : goal.returns
unfolding generation_record framed bytes word_bytes
returns c = present _ _ _ _ (rw (ne_eqb c.args.number 0 c.if-number-eq0.false))
    (wrote _ _ _ _ _ _ c.put_words.ensures (rw (byte c.args.s c.ranges.s.fits)))
