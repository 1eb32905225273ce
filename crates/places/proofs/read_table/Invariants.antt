use mathlib.Core.Path.{◌≡◌}
use Rattle.places.specs.Layout.{in_use}
use Rattle.places.proofs.read_table.Given as goal

abbrev pub invariant-loop-i : goal.invariant-loop-i
invariant-loop-i g l = l.table ≡ in_use (g.T.Row.row_of l.numbers) g.T.Row.free l.i g.T.Row.many
