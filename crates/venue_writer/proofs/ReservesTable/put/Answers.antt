-- `venue_writer::ReservesTable::put` meets its contract.
use Rattle.rules.specs.Bytes.{bytes}
use Rattle.records.specs.Seen.{word_bytes}
use Rattle.venue_bytes.specs.Held.{reserve_bytes}
use Rattle.venue_writer.proofs.Whole.{plus_is}
use Rattle.venue_writer.proofs.ReservesTable.put.Goals as goal

pub returns : goal.returns
unfolding reserve_bytes bytes word_bytes
returns c = plus_is _ _ _ _ c.put_words.ensures
    (rw c.bytes4.ensures)
