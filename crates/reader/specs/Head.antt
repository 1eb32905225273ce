-- Document 01: "Messages are taken one by one from the caller's memory". What stands at a position of a message list, by refusal 1.
use Rattle.std.specs.Prelude.{List, ℕ, eqb, length, drop, if◌then◌else◌}
use Rattle.rules.specs.Bytes.{length_field}
use Rattle.rules.specs.Refusals.{torn}
use Rattle.reader.specs.declared.Head.{Head}
use Rattle.reader.specs.declared.Head.TheVariants.{End, Torn, Message}

-- of the bytes left: none; "1 to 3 bytes left …, or length below 4 or above what is left"; or a message, told by its length
unfoldable pub head_of : List ℕ → Head
head_of bs = if eqb (length bs) 0 then End else if torn bs then Torn else Message (length_field bs)

-- at a position: what is left is all from there on
abbrev pub head_at : (messages : List ℕ) (at : ℕ) → Head
head_at messages at = head_of (drop at messages)

-- "A run's number is 1 or 10 if that ended it, else 0": what each case ends a run with, 0 also where the run goes on
abbrev pub head_number : Head → ℕ
head_number End = 0
head_number Torn = 1
head_number (Message n) = 0

-- how many bytes further the run goes on
abbrev pub head_length : Head → ℕ
head_length End = 0
head_length Torn = 0
head_length (Message n) = n
