use mathlib.Core.Path.{◌≡◌}
use Rattle.sets.specs.Set.{reached_told}
use Rattle.set_tables.specs.Told.{row_in}
use Rattle.set_tables.specs.Records.{rows_left}
use Rattle.set_tables.proofs.reached_told.Given as goal

abbrev pub invariant-loop-r : goal.invariant-loop-r
invariant-loop-r l = reached_told (rows_left l.r-iterator) ≡ reached_told (row_in l.memory)
