-- Document 02, (k), "Two lines of one feed": "The messages arrive over a main and a spare line, each message after a u32 sequence number, counted
-- from 1 and rising on each line."
use Rattle.std.specs.Prelude.{Bool, true, false, ◌&&◌, ◌||◌, List, [], ◌∷◌, ◌++◌, ℕ, zero, suc, ◌+◌, leb, ltb, eqb, length, take, drop, if◌then◌else◌}
use Rattle.rules.specs.Bytes.{u32_at, length_field}
use Rattle.rules.specs.Refusals.{torn}
use Rattle.rules.specs.Calls.{Call, run}

-- A line --------------------------------------------------------------------------------------

-- "each message after a u32 sequence number": in front of what is left of a line the number (0 where its four bytes are not there), the message, and what
-- stands behind both
unfoldable pub number_of : List ℕ → ℕ
number_of bs = if ltb (length bs) 4 then 0 else u32_at bs 0

unfoldable pub message_in : List ℕ → List ℕ
message_in bs = take (length_field (drop 4 bs)) (drop 4 bs)

unfoldable pub behind : List ℕ → List ℕ
behind bs = drop (4 + length_field (drop 4 bs)) bs

-- 21, of what stands in front, `last` being the number before it and at first 0: "a line is torn, doesn't rise or has a length below 4 or number 0".
-- Where the number's four bytes are not there no message follows, so that is torn too. A number that is left out is no fault.
unfoldable pub faulty : (last : ℕ) → List ℕ → Bool
faulty last bs = leb (number_of bs) last || torn (drop 4 bs)

-- nothing on the whole line is faulty; the fuel is the line's length
unfoldable pub faultless_from : (fuel last : ℕ) → List ℕ → Bool
faultless_from zero last bs = true
faultless_from (suc fuel) last bs = elim (eqb (length bs) 0) [
  | true ↦ true
  | false ↦ elim (faulty last bs) [ true ↦ false | false ↦ faultless_from fuel (number_of bs) (behind bs) ]
]

unfoldable pub faultless : List ℕ → Bool
faultless line = faultless_from (length line) 0 line

-- a message with its number, and all those of a faultless line
pub record Part : Type 0 where
  pub number : ℕ
  pub message : List ℕ

unfoldable pub parts_from : (fuel : ℕ) → List ℕ → List Part
parts_from zero bs = []
parts_from (suc fuel) bs = elim (eqb (length bs) 0) [
  | true ↦ []
  | false ↦ record { number = number_of bs; message = message_in bs } ∷ parts_from fuel (behind bs)
]

unfoldable pub parts_of : List ℕ → List Part
parts_of line = parts_from (length line) line

-- The next number -----------------------------------------------------------------------------

-- whether a line has a number, and the message that it has there
pub data Under : Type 0 where
  absent : Under
  stands : List ℕ → Under

unfoldable pub under : (number : ℕ) → List Part → Under
under n [] = absent
under n (p ∷ ps) = if eqb p.number n then stands p.message else under n ps

-- "a later one stands on" the line
unfoldable pub later : (number : ℕ) → List Part → Bool
later n [] = false
later n (p ∷ ps) = ltb n p.number || later n ps

-- the bytes of two messages do not differ
unfoldable pub same : List ℕ → List ℕ → Bool
same [] [] = true
same [] (y ∷ ys) = false
same (x ∷ xs) [] = false
same (x ∷ xs) (y ∷ ys) = eqb x y && same xs ys

-- what comes of a number: its message is handed out, or the handing out stops with a number, at the end of both lines with 0
pub data Next : Type 0 where
  message : List ℕ → Next
  stop : ℕ → Next

-- "The next number's message is handed to the engine as a part of whichever line's memory has it, main first." "19, both lines have the number but their
-- bytes differ; 20, neither has it though a later one stands on either line".
unfoldable pub next_by : (main spare : Under) → (ahead : Bool) → Next
next_by (stands a) (stands b) ahead = if same a b then message a else stop 19
next_by (stands a) absent ahead = message a
next_by absent (stands b) ahead = message b
next_by absent absent ahead = if ahead then stop 20 else stop 0

unfoldable pub next : (number : ℕ) → (main spare : List Part) → Next
next n m s = next_by (under n m) (under n s) (later n m || later n s)

-- The call ------------------------------------------------------------------------------------

-- the messages handed out, and the number that stopped it: 0 at the end, or 19 to 21
pub record Handed : Type 0 where
  pub messages : List (List ℕ)
  pub number : ℕ

unfoldable pub stopped : (number : ℕ) → Handed
stopped k = record { messages = []; number = k }

unfoldable pub first : List ℕ → Handed → Handed
first m h = record { messages = m ∷ h.messages; number = h.number }

-- "as its number comes up, and what went before stands": the messages from number n + 1 on. The fuel is the length of both lines, since each message
-- handed out stands on one of them (Stops: it is enough).
unfoldable pub handed_from : (fuel n : ℕ) → (main spare : List Part) → Handed
handed_from zero n m s = stopped 0
handed_from (suc fuel) n m s = elim (next (suc n) m s) [ message bs ↦ first bs (handed_from fuel (suc n) m s) | stop k ↦ stopped k ]

-- "21 first, from both whole lines, with nothing handed out; then 19 or 20".
unfoldable pub handed : (main spare : List ℕ) → Handed
handed main spare =
    if faultless main && faultless spare then handed_from (length main + length spare) 0 (parts_of main) (parts_of spare) else stopped 21

-- messages one after another, as a run reads them
unfoldable pub joined : List (List ℕ) → List ℕ
joined [] = []
joined (m ∷ ms) = m ++ joined ms

-- what a run returns, with k as its number unless the run has ended before its list did
unfoldable pub numbered : (number : ℕ) → Call → Call
numbered k c = record {
  returned = record {
    number = if eqb c.returned.number 0 then k else c.returned.number;
    done = c.returned.done;
    written = c.returned.written;
    venue = c.returned.venue;
  };
  report = c.report;
}

-- "The call returns what a run of the list handed out returns, but 19 to 21 as its number where one stopped it". A 10 ends the run before the number that
-- would stop it comes up, and stays; and where that number comes up it is not in the list, so that it meets no 10.
unfoldable pub feed : (room : ℕ) → (main spare : List ℕ) → Call
feed room main spare = let h = handed main spare in numbered h.number (run room (joined h.messages))
