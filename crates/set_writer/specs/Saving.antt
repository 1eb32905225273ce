-- What a writing call returns.
use Rattle.std.specs.Prelude.{Result, Ok, Err, List, ℕ}
use Rattle.sets.specs.Set.{WrittenSet}
use Rattle.set_writer.specs.declared.SaveError.{SaveError}
use Rattle.set_writer.specs.declared.SaveError.TheVariants.{NotCarried, NoRoom}

-- the number of an error: 9 where no set carries the venue with its message number, 15 where the memory is shorter than the set
abbrev pub error_number : SaveError → ℕ
error_number NotCarried = 9
error_number NoRoom = 15

-- what a writing call returned and the memory that it left; a refused call wrote 0 bytes
abbrev pub saved_of : Result ℕ SaveError → List ℕ → WrittenSet
saved_of (Ok n) l = record { number = 0; written = n; memory = l }
saved_of (Err e) l = record { number = error_number e; written = 0; memory = l }
