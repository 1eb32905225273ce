-- `set_parts::put_regular` meets its contract.
use borrow.Author.Rules.{rules}
use Rattle.rules.specs.Bytes.{framed, bytes}
use Rattle.rules.specs.Messages.{order_fields}
use Rattle.rules.proofs.Reading.{byte}
use Rattle.records.specs.Seen.{word_bytes}
use Rattle.sets.specs.Set.{regular_record}
use Rattle.set_parts.proofs.SetMemoryLaws.{wrote}
use Rattle.set_parts.proofs.put_regular.Goals as goal

pub returns : goal.returns
unfolding regular_record order_fields framed bytes word_bytes
returns c = wrote _ _ _ _ _ _ c.put_words.ensures
    (rw (
      c.bytes4-i.ensures,
      byte c.args.o.series (search rules),
      byte c.args.o.side (search rules),
    ))
