use Rattle.set_tables.proofs.ToldLaws.{Listing}
use Rattle.set_tables.specs.Told.{row_in}
use Rattle.set_tables.specs.Records.{rows_left}
use Rattle.set_tables.proofs.series_told.Given as goal

abbrev pub invariant-loop-s : goal.invariant-loop-s
invariant-loop-s l = Listing (row_in l.memory) l.l (rows_left l.records) l.s
