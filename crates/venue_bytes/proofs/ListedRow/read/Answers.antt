-- `venue_bytes::ListedRow::read` meets its contract.
use Rattle.venue_bytes.specs.Held.{listed_from}
use Rattle.venue_bytes.proofs.Rows.{row_read}
use Rattle.venue_bytes.proofs.ListedRow.read.Goals as goal

pub returns : goal.returns
unfolding listed_from
returns c =
    row_read listed_from 2528 9 _ c.args.i _
    (rw (c.byte_at.ensures, c.word_at.ensures, c.word_at-2.ensures))
