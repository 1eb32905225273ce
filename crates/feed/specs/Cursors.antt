-- The lines as the code has them: what is left of each from a position on, all numbers there being above the last one handed out.
use Rattle.std.specs.Prelude.{Bool, not, ◌||◌, List, ℕ, ◌+◌, eqb, length, drop, if◌then◌else◌, Option, Some, None}
use Rattle.rules.specs.Bytes.{length_field}
use Rattle.feed.specs.declared.Line.{Line}
use Rattle.feed.specs.declared.Stop.{Stop}
use Rattle.feed.specs.declared.Stop.TheVariants.{Differ, Lost}
use Rattle.feed.specs.Feed.{number_of, message_in, faulty, same, Next, message, stop}

-- what is left of a line, from its next number on
abbrev pub left_of : Line → List ℕ
left_of l = drop l.at l.bytes.now

-- the length of the message in front; none where that is faulty
unfoldable pub part_length : (last : ℕ) → List ℕ → Option ℕ
part_length last bs = if faulty last bs then None else Some (length_field (drop 4 bs))

-- a line is at its end, or what stands in front is not faulty
unfoldable pub ready : (last : ℕ) → List ℕ → Bool
ready last bs = eqb (length bs) 0 || not (faulty last bs)

-- what stops the number that comes up, both lines not being at their ends; 0 where its message is handed out
unfoldable pub stop_of : (number : ℕ) → (main spare : List ℕ) → ℕ
stop_of n m s =
    if eqb (number_of m) n
    then if eqb (number_of s) n then if same (message_in m) (message_in s) then 0 else 19 else 0
    else if eqb (number_of s) n then 0 else 20

-- the number of a call that the handing out stops: 19 where the lines differ, 20 where a message was lost
abbrev pub stop_number : Stop → ℕ
stop_number Differ = 19
stop_number Lost = 20

-- "whichever line's memory has it, main first"
unfoldable pub part_of : (number : ℕ) → (main spare : List ℕ) → List ℕ
part_of n m s = if eqb (number_of m) n then message_in m else message_in s

unfoldable pub up_next : (number : ℕ) → (main spare : List ℕ) → Next
up_next n m s = let k = stop_of n m s in if eqb k 0 then message (part_of n m s) else stop k

-- how far a line goes on once a number's message is handed out
unfoldable pub advance_of : (number : ℕ) → List ℕ → ℕ
advance_of n bs = if eqb (number_of bs) n then 4 + length_field (drop 4 bs) else 0

-- a line once a number's message is handed out
abbrev pub line_after : (number : ℕ) → Line → Line
line_after n l = record { bytes = l.bytes; at = l.at + advance_of n (left_of l) }
