-- `set_parts::put_legging` meets its contract.
use borrow.Author.Tests.{ne_eqb}
use Rattle.rules.specs.Bytes.{framed, bytes}
use Rattle.rules.proofs.Reading.{byte}
use Rattle.records.specs.Seen.{word_bytes}
use Rattle.sets.specs.Set.{legging_record}
use Rattle.set_parts.proofs.SetMemoryLaws.{absent, present, wrote}
use Rattle.set_parts.proofs.put_legging.Goals as goal

pub returns-then-l-eq0 : goal.returns-then-l-eq0
returns-then-l-eq0 c = absent _ _ _ _ (rw c.if-l-eq0.true)

pub returns : goal.returns
unfolding legging_record framed bytes word_bytes
returns c = present _ _ _ _ (rw (ne_eqb c.args.l.quantity 0 c.if-l-eq0.false))
    (wrote _ _ _ _ _ _ c.put_words.ensures
    (rw (
      c.bytes4-i.ensures,
      byte c.args.s c.ranges.s.fits,
      byte c.args.d c.ranges.d.fits,
    )))
