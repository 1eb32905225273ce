-- What a reading call returns.
use Rattle.sets.specs.Set.{ReadSet}
use Rattle.set_reader.specs.declared.Resumed.{Resumed}

-- what a reading call returns, as the definitions have it
abbrev pub set_read : Resumed → ReadSet
set_read r = record { number = r.number; venue = r.venue; message = r.message }
