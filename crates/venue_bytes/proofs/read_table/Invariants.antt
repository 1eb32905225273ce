use mathlib.Core.Path.{◌≡◌}
use lib.ListN.{take}
use Rattle.places.specs.Layout.{upto}
use Rattle.venue_bytes.proofs.read_table.Given as goal

abbrev pub invariant-loop-i : goal.invariant-loop-i
invariant-loop-i g l = take l.i l.table ≡ upto (g.T.Row.row_of l.bytes) 0 l.i
