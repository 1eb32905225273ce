-- `venue_bytes::LeggingRow::read` meets its contract.
use Rattle.venue_bytes.specs.Held.{legging_from}
use Rattle.venue_bytes.proofs.Rows.{row_read}
use Rattle.venue_bytes.proofs.LeggingRow.read.Goals as goal

pub returns : goal.returns
unfolding legging_from
returns c =
    row_read legging_from 2336 12 _ c.args.i _
    (rw (c.word_at.ensures, c.word_at-2.ensures, c.word_at-3.ensures))
