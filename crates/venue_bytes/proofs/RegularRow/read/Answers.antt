-- `venue_bytes::RegularRow::read` meets its contract.
use Prim.Native.Nat.{◌*◌}
use native.Mathlib.Nat.{add-zero}
use Rattle.venue_bytes.specs.Held.{reserves_at, regular_from}
use Rattle.venue_bytes.proofs.Rows.{rows-read}
use Rattle.venue_bytes.proofs.RegularRow.read.Goals as goal

pub returns : goal.returns
unfolding regular_from
returns c =
    rows-read regular_from 0 14 reserves_at 8 _ c.args.i _
    (rw (
      add-zero (14 * c.args.i),
      c.word_at.ensures,
      c.byte_at.ensures,
      c.byte_at-2.ensures,
      c.word_at-2.ensures,
      c.word_at-3.ensures,
      c.word_at-4.ensures,
      c.word_at-5.ensures,
    ))
