-- `venue_bytes::ComplexRow::read` meets its contract.
use mir.Syntax.{w32}
use mir.ValLaws.{to_z-of_z}
use Rattle.venue_bytes.specs.Held.{ratios_at, complex_from}
use Rattle.venue_bytes.proofs.Rows.{rows-read}
use Rattle.venue_bytes.proofs.ComplexRow.read.Goals as goal

pub returns : goal.returns
unfolding complex_from
returns c =
    rows-read complex_from 1792 17 ratios_at 2 _ c.args.i _
    (rw (
      to_z-of_z w32 c.as_signed.result (record { sfits = c.as_signed.type_inv }),
      c.word_at.ensures,
      c.byte_at.ensures,
      c.byte_at-2.ensures,
      c.byte_at-3.ensures,
      c.byte_at-4.ensures,
      c.byte_at-5.ensures,
      c.as_signed.ensures,
      c.word_at-2.ensures,
      c.word_at-3.ensures,
      c.byte_at-6.ensures,
      c.byte_at-7.ensures,
    ))
