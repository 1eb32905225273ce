-- `venue_bytes::venue_from` meets its contract.
use Rattle.places.proofs.Parts.{venue-is}
use Rattle.venue_bytes.specs.Held.{venue_from}
use Rattle.venue_bytes.proofs.venue_from.Goals as goal

pub returns : goal.returns
unfolding venue_from
returns c =
    venue-is _ _ c.read_table.ensures c.read_table-2.ensures c.read_table-3.ensures
    c.read_table-4.ensures c.read_table-5.ensures c.read_table-6.ensures c.word_at.ensures c.word_at-2.ensures
