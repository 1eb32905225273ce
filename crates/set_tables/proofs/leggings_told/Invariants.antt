use Rattle.set_tables.proofs.ToldLaws.{Legged}
use Rattle.set_tables.specs.Told.{row_in}
use Rattle.set_tables.specs.Records.{rows_left}
use Rattle.set_tables.proofs.leggings_told.Given as goal

abbrev pub invariant-loop-r : goal.invariant-loop-r
invariant-loop-r l = Legged (row_in l.memory) l.l (rows_left l.r-iterator)
