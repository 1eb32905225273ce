-- What is written of a set in lent memory, up to a position, and what more bytes make of it. Where they do not fit nothing is said of the bytes: the call is
-- refused, and the memory made all zero.
use Rattle.std.specs.Prelude.{List, [], ◌++◌, ℕ, suc, ◌+◌, leb, length, take, if◌then◌else◌}

-- how many bytes the memory has, the position, and the bytes up to it
pub record SetMemory : Type 0 where
  pub room : ℕ
  pub position : ℕ
  pub front : List ℕ

-- something did not fit
unfoldable pub over : (room : ℕ) → SetMemory
over room = record { room = room; position = suc room; front = [] }

unfoldable pub set_memory : List ℕ → (at : ℕ) → SetMemory
set_memory l at = if leb at (length l) then record { room = length l; position = at; front = take at l } else over (length l)

-- more bytes after them
infixl 6 ◌adds◌
unfoldable pub ◌adds◌ : SetMemory → List ℕ → SetMemory
w adds bs =
    if leb (w.position + length bs) w.room
    then record { room = w.room; position = w.position + length bs; front = w.front ++ bs }
    else over w.room
