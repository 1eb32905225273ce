use mathlib.Core.Path.{◌≡◌}
use lib.ListN.{take}
use Rattle.records.specs.Seen.{seen, ◌plus◌}
use Rattle.venue_bytes.specs.Held.{rows}
use Rattle.venue_writer.proofs.put_rows.Given as goal

abbrev pub invariant-loop-row : goal.invariant-loop-row
invariant-loop-row g l = seen l.out l.end ≡ seen l.initial.out l.at plus rows g.T.Table.row_bytes (take l.row-index l.table)
