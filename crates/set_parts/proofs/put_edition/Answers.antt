-- `set_parts::put_edition` meets its contract.
use borrow.Author.Tests.{ne_eqb}
use borrow.Author.Rules.{rules}
use Rattle.rules.specs.Bytes.{framed, bytes}
use Rattle.rules.proofs.Reading.{byte}
use Rattle.records.specs.Seen.{word_bytes}
use Rattle.sets.specs.Set.{edition_record}
use Rattle.set_parts.proofs.SetMemoryLaws.{absent, present, wrote}
use Rattle.set_parts.proofs.put_edition.Goals as goal

pub returns-then-e-eq0 : goal.returns-then-e-eq0
returns-then-e-eq0 c = absent _ _ _ _ (rw c.if-e-eq0.true)

pub returns-then-e-eq8 : goal.returns-then-e-eq8
unfolding edition_record framed bytes word_bytes
returns-then-e-eq8 c = present _ _ _ _ (rw (ne_eqb c.args.e.edition 0 c.if-e-eq0.false))
    (wrote _ _ _ _ _ _ c.put_words.ensures
    (rw (c.if-e-eq8.true, byte c.args.e.value (search rules))))

pub returns : goal.returns
unfolding edition_record framed bytes word_bytes
returns c = present _ _ _ _ (rw (ne_eqb c.args.e.edition 0 c.if-e-eq0.false))
    (wrote _ _ _ _ _ _ c.put_words-2.ensures
    (rw (
      ne_eqb c.args.e.figure 8 c.if-e-eq8.false,
      byte c.args.e.figure (search rules),
      byte c.args.e.value (search rules),
    )))
