-- `venue_writer::LeggingsTable::put` meets its contract.
use Rattle.rules.specs.Bytes.{bytes}
use Rattle.records.specs.Seen.{word_bytes}
use Rattle.venue_bytes.specs.Held.{legging_bytes}
use Rattle.venue_writer.proofs.Whole.{plus_is}
use Rattle.venue_writer.proofs.LeggingsTable.put.Goals as goal

pub returns : goal.returns
unfolding legging_bytes bytes word_bytes
returns c = plus_is _ _ _ _ c.put_words.ensures
    (rw c.bytes4.ensures)
