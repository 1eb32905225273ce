-- `venue_bytes::EditionRow::read` meets its contract.
use Rattle.venue_bytes.specs.Held.{editions_at, edition_from}
use Rattle.venue_bytes.proofs.Rows.{row_read}
use Rattle.venue_bytes.proofs.EditionRow.read.Goals as goal

pub returns : goal.returns
unfolding edition_from
returns c =
    row_read edition_from editions_at 10 _ c.args.i _
    (rw (c.word_at.ensures, c.word_at-2.ensures, c.byte_at.ensures, c.byte_at-2.ensures))
