-- Document 02 (n): "From a fixed list of 12 messages … a program prints every session of 0 to 3 messages". "A session is its list of places, printed 1 to 12
-- on one line, blank between, then the lines of its run."
use Rattle.std.specs.Prelude.{◌≡◌, List, [], ◌∷◌, ◌++◌, map, ℕ, suc, ◌*◌, ◌≤◌, pos, get_or, length, take}
use Rattle.std.proofs.Math.Option.{none, some}
use Rattle.rules.specs.declared.Message.TheVariants.{Order, TwoLeg, Cancel, Away, Status, Sweep, LimitedSweep}
use Rattle.rules.specs.Words.{buy, closed, opened, sell}
use Rattle.rules.specs.Messages.{encode_message}
use Rattle.rules.specs.Records.{records}
use Rattle.rules.specs.Calls.{run}
use Rattle.demands.specs.Most.{most_report_bytes}
use Rattle.text.specs.Lines.{ending, line, text_of}
use Rattle.short_sessions.specs.Sessions.{Within, following, sessions}

-- The list ------------------------------------------------------------------------------------

-- an order that shows all of it
abbrev sells : (id series price quantity : ℕ) → List ℕ
sells id s p q = encode_message (Order (record { id = id; series = s; side = sell; price = p; quantity = q; display = q; reserve = 0 }))

-- "the printed session's six, cancel 3, sweep, kind 11 with n 1, away 0 0 115, close 0, close 1"
unfoldable pub list : List (List ℕ)
list =
    -- "open 0; open 1; order 1 sell 15 series 0 at 130; order 2 sell 12 series 1 at 90"
    encode_message (Status 0 opened)
    ∷ encode_message (Status 1 opened)
    ∷ sells 1 0 130 15
    ∷ sells 2 1 90 12
    -- "complex 3, buy 0, buy 1, class 1, 205, 8; order 4 sell 5 series 0 at 115"
    ∷ encode_message (TwoLeg (record { id = 3; series1 = 0; side1 = buy; series2 = 1; side2 = buy; class = 1; limit = pos 205; quantity = 8; ratio1 = 1; ratio2 = 1 }))
    ∷ sells 4 0 115 5
    ∷ encode_message (Cancel 3)
    ∷ encode_message Sweep
    ∷ encode_message (LimitedSweep 1)
    ∷ encode_message (Away 0 0 115)
    ∷ encode_message (Status 0 closed)
    ∷ encode_message (Status 1 closed)
    ∷ []

-- "1,885 sessions"
abbrev pub Counted : Type 0
Counted = length (sessions 12) ≡ 1885

-- the message at a place
unfoldable pub message_at : (place : ℕ) → List ℕ
message_at p = get_or list p []

-- a session's messages, one after another
unfoldable pub messages_of : (s : List ℕ) → List ℕ
messages_of [] = []
messages_of (p ∷ s) = message_at p ++ messages_of s

-- What is printed -----------------------------------------------------------------------------

-- "its list of places, printed 1 to 12 on one line, blank between": the empty session is an empty line
unfoldable pub places_line : (s : List ℕ) → List ℕ
places_line [] = ending
places_line (p ∷ s) = line (suc p) (map suc s)

-- the bytes of report memory that a session's run is lent: it never fills
abbrev pub room : ℕ
room = 3 * most_report_bytes

abbrev pub Completes : Type 0
Completes = (s : List ℕ) → length s ≤ 3 → Within 12 s → (run room (messages_of s)).returned.number ≡ 0

-- "then the lines of its run"
unfoldable pub session_text : (s : List ℕ) → List ℕ
session_text s = places_line s ++ text_of (records (run room (messages_of s)).report)

-- the sessions' texts, one after another
unfoldable pub texts_of : List (List ℕ) → List ℕ
texts_of [] = []
texts_of (s ∷ l) = session_text s ++ texts_of l

-- the most bytes of text of one session
abbrev pub most_text : ℕ
most_text = 78256

-- bytes at the start of a memory, up to an end
pub record Stands (bs memory : List ℕ) (end : ℕ) : Type 0 where
  pub is : take end memory ≡ bs
  pub fits : end ≤ length memory

-- the text that was printed before a session
pub data Printed : (text s : List ℕ) → Type 0 where
  none_printed : Printed [] []
  more : {text s : List ℕ} (memory : List ℕ) (written : ℕ) (t : List ℕ) → Printed text s → Stands (session_text s) memory written → following 12 s ≡ some t →
      Printed (text ++ take written memory) t

-- With the last one's it is the text of all sessions.
abbrev pub Whole : Type 0
Whole = (text s memory : List ℕ) (written : ℕ) → Printed text s → Stands (session_text s) memory written → following 12 s ≡ none →
    text ++ take written memory ≡ texts_of (sessions 12)
