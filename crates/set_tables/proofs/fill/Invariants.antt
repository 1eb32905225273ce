use lib.ListN.{length}
use Rattle.set_tables.proofs.TableFilled.{Filling}
use Rattle.set_tables.specs.Told.{row_in, told_by, begun}
use Rattle.set_tables.specs.Records.{rows_left}
use Rattle.set_tables.proofs.fill.Given as goal

abbrev pub invariant-loop-r : goal.invariant-loop-r
invariant-loop-r g l = Filling g.T.Told.tells g.T.Told.told (begun (told_by g.T.Told.tells g.T.Told.told (row_in l.memory)) l.initial.table) (length l.initial.table) l.table l.n (rows_left l.r-iterator)
