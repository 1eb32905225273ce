-- What a set promises: it reads back, it is written back, and a day that is cut by sets goes on as if it were not.
use Rattle.std.specs.Prelude.{◌≡◌, List, [], ◌∷◌, ℕ, suc, ◌+◌, ◌*◌, ◌<◌, ◌≤◌, length, get_or, take}
use Rattle.rules.specs.declared.Venue.{Venue}
use Rattle.rules.specs.Bytes.{kind_field}
use Rattle.rules.specs.Records.{FourBytes}
use Rattle.rules.specs.Calls.{run_upon}
use Rattle.demands.specs.Soundness.{Shaped, SoundAt}
use Rattle.demands.specs.Demand.{Later, call_upon}
use Rattle.demands.specs.Agree.{OfList, Progress, by_calls, onward}
use Rattle.sets.specs.Set.{row, held_in, joined, read_set, set_of, write_set}

-- Both ways -----------------------------------------------------------------------------------

-- reading what was written gives the venue and the number back, for every venue that writing takes
abbrev pub ReadsBack : Type 0
ReadsBack = (number room : ℕ) (v : Venue) → FourBytes number → Shaped v → (write_set number v room).number ≡ 0 →
    read_set (write_set number v room).memory ≡ record { number = 0; venue = v; message = number }

-- each number of a list is a byte
abbrev pub AllBytes : List ℕ → Type 0
AllBytes [] = Unit {0}
AllBytes (b ∷ bs) = (b < 256) × AllBytes bs

-- writing what was read from a whole set gives its records back
abbrev pub WritesBack : Type 0
WritesBack = (memory : List ℕ) (rs : List (List ℕ)) → AllBytes memory → held_in memory ≡ row rs → kind_field (get_or rs 0 []) ≡ 80 → (read_set memory).number ≡ 0 →
    set_of (read_set memory).message (read_set memory).venue ≡ rs

-- so what was read from a whole set, written into as many bytes, is those bytes
abbrev pub BytesBack : Type 0
BytesBack = (memory : List ℕ) (rs : List (List ℕ)) → AllBytes memory → held_in memory ≡ row rs → kind_field (get_or rs 0 []) ≡ 80 → (read_set memory).number ≡ 0 →
    let n = length (joined rs) in
    write_set (read_set memory).message (read_set memory).venue n ≡ record { number = 0; written = n; memory = take n memory }

-- for a row that is held in a memory is its first bytes
abbrev pub RowsAre : Type 0
RowsAre = (memory : List ℕ) (rs : List (List ℕ)) → held_in memory ≡ row rs → take (length (joined rs)) memory ≡ joined rs

-- What is read ----------------------------------------------------------------------------------

-- "What is read or written must be sound, no message number in it above its own, else 9"; "Refused, reading returns a fresh venue and message number 0":
-- whatever the memory, the venue that is read has the declared lengths, is sound and goes with its number, which is a u32 where the memory is of bytes
pub record ReadsSound : Type 0 where
  pub sound : (memory : List ℕ) → SoundAt (suc (read_set memory).message) (read_set memory).venue
  pub number : (memory : List ℕ) → AllBytes memory → FourBytes (read_set memory).message

-- The most bytes of a set ---------------------------------------------------------------------

-- the first record, eight series, 32 editions, 128 regular and 32 complex orders, 16 legging orders, 20 generations of each series, the id reached
abbrev pub most_set_bytes : ℕ
most_set_bytes = 12 + (6 + 13) * 8 + 14 * 32 + 22 * 128 + 23 * 32 + 18 * 16 + 9 * 160 + 8

-- for a host to lend: memory of so many bytes holds the set of every venue of the declared type
abbrev pub AtMost : Type 0
AtMost = (number : ℕ) (v : Venue) → Shaped v → length (joined (set_of number v)) ≤ most_set_bytes

-- The cut -------------------------------------------------------------------------------------

-- what is done with a list of messages: a call, or the venue and its number carried over by a set, in lent memory of a length
pub data Going : Type 0 where
  call : Later → Going
  cut : (room : ℕ) → Going

-- "writing, reading and going on"
unfoldable pub carried : (room : ℕ) → Progress → Progress
carried room p =
    let r = read_set (write_set p.done p.venue room).memory in
    record { torn = p.torn; done = r.message; venue = r.venue; bytes = p.bytes; left = p.left }

unfoldable pub going_on : List Going → Progress → Progress
going_on [] p = p
going_on (call c ∷ gs) p = going_on gs (onward p (call_upon c p.venue p.done))
going_on (cut room ∷ gs) p = going_on gs (carried room p)

-- "without the cut": the calls, in order
unfoldable pub uncut : List Going → List Later
uncut [] = []
uncut (call c ∷ gs) = c ∷ uncut gs
uncut (cut room ∷ gs) = uncut gs

-- "given memory that holds them": each set's memory holds the set that there is to write when its cut comes (`AtMost`: memory that always does)
abbrev pub SetsFit : List Going → Progress → Type 0
SetsFit [] p = Unit {0}
SetsFit (call c ∷ gs) p = SetsFit gs (onward p (call_upon c p.venue p.done))
SetsFit (cut room ∷ gs) p = (length (joined (set_of p.done p.venue)) ≤ room) × SetsFit gs (carried room p)

-- "Cutting a message list between any two messages that a run does, writing, reading and going on gives the same records as going on without the cut, given
-- memory that holds them". Of every list of calls, each given a message or a list, from a sound venue with its number on, and with any number of cuts, wherever
-- they are: cut or not, the calls come to the same, a call ended by 10 too
abbrev pub CutCalls : Type 0
CutCalls = (gs : List Going) (p : Progress) → SoundAt (suc p.done) p.venue → FourBytes p.done → SetsFit gs p → going_on gs p ≡ by_calls (uncut gs) p

-- and of one list of messages: calls with cuts between any of them that together do as many messages as a run of the list upon the same venue write its bytes
-- and leave its venue. A day that begins by a run from fresh, is cut at noon and goes on by a run of the rest is the case of the fresh venue and two calls
abbrev pub Cut : Type 0
Cut = (p : Progress) (room : ℕ) (gs : List Going) → SoundAt (suc p.done) p.venue → FourBytes p.done → SetsFit gs p → OfList (uncut gs) p →
    let r = onward p (run_upon p.venue p.done room p.left) in
    (going_on gs p).done ≡ r.done → going_on gs p ≡ r
