-- `venue_writer::SeriesTable::put` meets its contract.
use Rattle.rules.specs.Bytes.{bytes}
use Rattle.rules.proofs.Reading.{byte}
use Rattle.records.specs.Seen.{word_bytes}
use Rattle.venue_bytes.specs.Held.{listed_bytes}
use Rattle.venue_writer.proofs.Whole.{plus_is}
use borrow.Author.Rules.{rules}
use Rattle.venue_writer.proofs.SeriesTable.put.Goals as goal

pub returns : goal.returns
unfolding listed_bytes bytes word_bytes
returns c = plus_is _ _ _ _ c.put_words.ensures (rw (byte c.args.x.status (search rules)))
