-- `venue_writer::OrdersTable::put` meets its contract.
use Rattle.rules.specs.Bytes.{bytes}
use Rattle.rules.proofs.Reading.{byte}
use Rattle.records.specs.Seen.{word_bytes}
use Rattle.venue_bytes.specs.Held.{regular_bytes}
use Rattle.venue_writer.proofs.Whole.{plus_is}
use borrow.Author.Rules.{rules}
use Rattle.venue_writer.proofs.OrdersTable.put.Goals as goal

pub returns : goal.returns
unfolding regular_bytes bytes word_bytes
returns c = plus_is _ _ _ _ c.put_words.ensures
    (rw (
      c.bytes4-i.ensures,
      byte c.args.o.series (search rules),
      byte c.args.o.side (search rules),
    ))
