-- Document 02, (k), at work: lines of one list with losses, then each way in which 19, 20 and 21 come, and a 10 beside them.
use Rattle.std.specs.Prelude.{◌≡◌, refl, true, false, List, [], ◌∷◌, ◌++◌, map, ℕ, take}
use Rattle.rules.specs.declared.Message.TheVariants.{Cancel, Sweep}
use Rattle.rules.specs.Words.{fresh_venue}
use Rattle.rules.specs.Bytes.{u32, framed}
use Rattle.rules.specs.Messages.{encode_message}
use Rattle.rules.specs.Records.{Report, answer}
use Rattle.rules.specs.Calls.{Call, called}
use Rattle.rules.specs.Opened.{opened-rules}
use Rattle.feed.specs.Feed.{number_of, message_in, behind, faulty, faultless_from, faultless, parts_from, parts_of, under, later, same, next_by, next, stopped, first, handed_from, handed, joined, numbered, feed}
use Rattle.feed.specs.Sent.{Sent, line_from, main_line, spare_line}

-- a main and a spare line, and a report memory of a length: the call's number, the messages done, and their records. The messages leave the venue fresh.
pub record Trial : Type 0 where
  pub room : ℕ
  pub main : List ℕ
  pub spare : List ℕ
  pub number : ℕ
  pub done : ℕ
  pub reports : List Report

pub outcome : Trial → Call
outcome t = feed t.room t.main t.spare

pub expected : Trial → Call
expected t = called t.room (record { number = t.number; done = t.done; venue = fresh_venue; reports = t.reports })

-- A sweep is accepted, and the cancel of an order that does not rest is refused: a record of 12 bytes for each.
sweeps : List ℕ
sweeps = encode_message Sweep

cancels : (id : ℕ) → List ℕ
cancels id = encode_message (Cancel id)

-- a message after its number
at : (number : ℕ) → List ℕ → List ℕ
at k m = u32 k ++ m

accepted : (number : ℕ) → Report
accepted k = answer k 0 0 0

unknown : (number : ℕ) → Report
unknown k = answer k 8 0 0

ends : (main spare : List ℕ) (number done : ℕ) → List Report → Trial
ends m s k n rs = record { room = 40; main = m; spare = s; number = k; done = n; reports = rs }

-- "21 first, from both whole lines, with nothing handed out": of either line, whatever the other one is
faults : List ℕ → List Trial
faults line = ends line [] 21 0 [] ∷ ends [] line 21 0 [] ∷ ends line (at 1 sweeps) 21 0 [] ∷ ends (at 1 (cancels 9)) line 21 0 [] ∷ []

-- Lines of one list ---------------------------------------------------------------------------

three : List Report
three = accepted 1 ∷ unknown 2 ∷ accepted 3 ∷ []

lossy : List Trial
lossy =
    -- nothing arrives
    ends [] [] 0 0 []
    -- nothing is lost, one line is, or each message from one of them
    ∷ ends (at 1 sweeps ++ at 2 (cancels 9) ++ at 3 sweeps) (at 1 sweeps ++ at 2 (cancels 9) ++ at 3 sweeps) 0 3 three
    ∷ ends (at 1 sweeps ++ at 2 (cancels 9) ++ at 3 sweeps) [] 0 3 three
    ∷ ends [] (at 1 sweeps ++ at 2 (cancels 9) ++ at 3 sweeps) 0 3 three
    ∷ ends (at 1 sweeps ++ at 3 sweeps) (at 2 (cancels 9)) 0 3 three
    ∷ ends (at 2 (cancels 9)) (at 1 sweeps ++ at 3 sweeps) 0 3 three
    ∷ ends (at 1 sweeps ++ at 2 (cancels 9)) (at 2 (cancels 9) ++ at 3 sweeps) 0 3 three
    -- a whole message of an unknown kind, and one of another length than its kind's, are refused as in a run
    ∷ ends (at 1 (framed 99 []) ++ at 2 sweeps) (at 1 (framed 99 [])) 0 2 (answer 1 2 0 0 ∷ accepted 2 ∷ [])
    ∷ ends (at 1 (framed 6 (0 ∷ []))) [] 0 1 (answer 1 3 0 0 ∷ [])
    ∷ []

-- 19 and 20 -----------------------------------------------------------------------------------

stops : List Trial
stops =
    -- 19: other messages, one byte, and one more byte; "what went before stands"
    ends (at 1 sweeps) (at 1 (cancels 9)) 19 0 []
    ∷ ends (at 1 (cancels 9) ++ at 2 (cancels 9)) (at 2 (cancels 265)) 19 1 (unknown 1 ∷ [])
    ∷ ends (at 1 sweeps ++ at 2 (framed 6 []) ++ at 3 sweeps) (at 1 sweeps ++ at 2 (framed 6 (0 ∷ [])) ++ at 3 sweeps) 19 1 (accepted 1 ∷ [])
    -- 20: a later one on main, on the spare, on both; the first number, and one of other high bytes
    ∷ ends (at 1 sweeps ++ at 3 sweeps) (at 1 sweeps) 20 1 (accepted 1 ∷ [])
    ∷ ends (at 1 sweeps) (at 1 sweeps ++ at 3 sweeps) 20 1 (accepted 1 ∷ [])
    ∷ ends (at 3 sweeps) (at 1 sweeps ++ at 4 sweeps) 20 1 (accepted 1 ∷ [])
    ∷ ends (at 2 sweeps) [] 20 0 []
    ∷ ends (at 1 sweeps ++ at 258 sweeps) (at 16777218 sweeps) 20 1 (accepted 1 ∷ [])
    -- what comes up first: the 19 of number 1 before the 20 of number 2, and the other way round
    ∷ ends (at 1 sweeps ++ at 3 sweeps) (at 1 (cancels 9)) 19 0 []
    ∷ ends (at 2 sweeps) (at 2 (cancels 9)) 20 0 []
    ∷ []

-- 21 ------------------------------------------------------------------------------------------

faulted : List Trial
faulted =
    -- "torn": one to three bytes of a number; a number alone; a message of which a byte is missing, or all but its length
    faults (0 ∷ []) ++ faults (1 ∷ 0 ∷ 0 ∷ []) ++ faults (at 1 sweeps ++ (2 ∷ 0 ∷ 0 ∷ []))
    ++ faults (u32 1) ++ faults (at 1 (take 7 (cancels 9))) ++ faults (at 1 sweeps ++ at 2 (take 3 sweeps))
    -- "doesn't rise": a number twice, or a lower one
    ++ faults (at 1 sweeps ++ at 1 sweeps) ++ faults (at 1 sweeps ++ at 3 sweeps ++ at 2 sweeps)
    -- "a length below 4"
    ++ faults (at 1 (3 ∷ 0 ∷ 6 ∷ 0 ∷ [])) ++ faults (at 1 (0 ∷ 0 ∷ 0 ∷ 0 ∷ []))
    -- "number 0": in front, and zeros at the end
    ++ faults (at 0 sweeps) ++ faults (at 1 sweeps ++ (0 ∷ 0 ∷ 0 ∷ 0 ∷ [])) ++ faults (at 1 sweeps ++ (0 ∷ 0 ∷ 0 ∷ 0 ∷ 0 ∷ 0 ∷ 0 ∷ 0 ∷ []))
    -- a fault behind the number that would be a 19 or a 20
    ++ (ends (at 1 sweeps) (at 1 (cancels 9) ++ (7 ∷ [])) 21 0 [] ∷ ends (at 3 sweeps) (at 2 sweeps ++ at 2 sweeps) 21 0 [] ∷ [])

-- 10 ------------------------------------------------------------------------------------------

tight : (room : ℕ) (main spare : List ℕ) (number done : ℕ) → List Report → Trial
tight room m s k n rs = record { room = room; main = m; spare = s; number = k; done = n; reports = rs }

full : List Trial
full =
    -- "up to a 10": message 2's record does not fit, and a 19 or a 20 after it does not come up
    tight 23 (at 1 sweeps ++ at 2 sweeps ++ at 3 sweeps) (at 3 (cancels 9)) 10 1 (accepted 1 ∷ [])
    ∷ tight 12 (at 1 sweeps ++ at 2 sweeps ++ at 4 sweeps) [] 10 1 (accepted 1 ∷ [])
    -- a 19 or a 20 comes before the 10 of its own number, and a full memory is no 10 at the end
    ∷ tight 12 (at 1 sweeps ++ at 2 sweeps) (at 2 (cancels 9)) 19 1 (accepted 1 ∷ [])
    ∷ tight 12 (at 1 sweeps ++ at 3 sweeps) [] 20 1 (accepted 1 ∷ [])
    ∷ tight 12 (at 1 sweeps) (at 1 sweeps) 0 1 (accepted 1 ∷ [])
    -- without a byte of report memory
    ∷ tight 0 (at 1 sweeps) [] 10 0 []
    ∷ tight 0 (at 1 sweeps) (at 1 (cancels 9)) 19 0 []
    ∷ tight 0 (at 0 sweeps) [] 21 0 []
    ∷ tight 0 [] [] 0 0 []
    ∷ []

-- The lines of a list sent: the first message came over the main line, the second over the spare one, the third over both, and the fourth over none.
sent : List Sent
sent =
    record { message = sweeps; on_main = true; on_spare = false }
    ∷ record { message = cancels 9; on_main = false; on_spare = true }
    ∷ record { message = sweeps; on_main = true; on_spare = true }
    ∷ record { message = cancels 8; on_main = false; on_spare = false }
    ∷ []

lines-hold : main_line sent ∷ spare_line sent ∷ [] ≡ (at 1 sweeps ++ at 3 sweeps) ∷ (at 2 (cancels 9) ++ at 3 sweeps) ∷ []
unfolding opened-rules line_from sweeps cancels at sent
lines-hold = refl

pub trials : List Trial
trials = lossy ++ stops ++ faulted ++ full

pub trials-hold : map outcome trials ≡ map expected trials
unfolding opened-rules number_of message_in behind faulty faultless_from faultless parts_from parts_of under later same next_by next stopped first handed_from handed joined numbered feed outcome expected sweeps cancels at accepted unknown ends faults three lossy stops faulted tight full trials
trials-hold = refl
