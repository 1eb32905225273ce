-- What is left of the records of a set.
use Rattle.std.specs.Prelude.{List, ℕ}
use Rattle.set_tables.specs.Told.{row_in}
use Rattle.set_tables.specs.declared.walk.Records.{Records}

-- the records that an iterator is still to give
abbrev pub rows_left : Records → List (List ℕ)
rows_left s = row_in s.rest.now
