-- Document 01, "Trials": "The printing program reads a message file on standard input, its first 65,536 bytes at most, and prints a line per record of
-- a run whose report memory never fills".
use Rattle.std.specs.Prelude.{◌≡◌, ◌≢◌, List, [], ◌++◌, ℕ, suc, ◌*◌, ◌≤◌, ◌<◌, eqb, length, take, drop, if◌then◌else◌}
use Rattle.rules.specs.declared.Venue.{Venue}
use Rattle.rules.specs.Bytes.{length_field}
use Rattle.rules.specs.Words.{fresh_venue}
use Rattle.rules.specs.Records.{records}
use Rattle.rules.specs.Calls.{run, run_from}
use Rattle.demands.specs.Soundness.{SoundAt}
use Rattle.demands.specs.Most.{most_report_bytes}
use Rattle.text.specs.Lines.{text_of}
use Rattle.sheet.specs.declared.Progress.{Progress}

abbrev pub most_input : ℕ
most_input = 65536

-- the most bytes of text of one message
abbrev pub most_text : ℕ
most_text = 26083

-- The sheet of a message list. The run is lent so much that it is not ended by 10: `NeverFills` of the demands.
unfoldable pub sheet_text : (messages : List ℕ) → List ℕ
sheet_text m = text_of (records (run (most_report_bytes * length m) m).report)

-- It is the sheet of any run that was not ended by 10, whatever its report memory.
abbrev pub AnyMemory : Type 0
AnyMemory = (room : ℕ) (m : List ℕ) → length m ≤ 4294967295 → (run room m).returned.number ≢ 10 → text_of (records (run room m).report) ≡ sheet_text m

-- Message by message --------------------------------------------------------------------------

-- the text of the messages of bs upon v, n messages having gone before
unfoldable pub text_from : Venue → (n : ℕ) → List ℕ → List ℕ
text_from v n bs = text_of (run_from (length bs) v n (most_report_bytes * length bs) bs).reports

-- the text that is still to print
unfoldable pub left : (messages : List ℕ) → Progress → List ℕ
left m p = text_from p.venue p.done (drop p.at m)

-- how many bytes a message takes whose call answered so: a torn one ends the list
unfoldable pub message_end : (number : ℕ) → List ℕ → ℕ
message_end number bs = if eqb number 1 then length bs else length_field bs

-- before the first message
abbrev pub started : Progress
started = record { number = 0; done = 0; at = 0; written = 0; venue = fresh_venue }

-- between two messages
pub record Stands (m : List ℕ) (p : Progress) : Type 0 where
  pub sound : SoundAt (suc p.done) p.venue
  pub counted : p.done ≤ p.at
  pub inside : p.at ≤ length m

-- One message more: its text is at the start of a memory. It and what is left are what was left before. Its call did it, so none answers 9 or 10.
pub record Prints (m : List ℕ) (p : Progress) (memory : List ℕ) (r : Progress) : Type 0 where
  pub is : take r.written memory ++ left m r ≡ left m p
  pub fits : r.written ≤ length memory
  pub stands : Stands m r
  pub further : p.at < r.at
  pub done : r.done ≡ suc p.done

-- The whole list ------------------------------------------------------------------------------

-- the text that was printed on the way to a progress
pub data Printed (m : List ℕ) : (text : List ℕ) → Progress → Type 0 where
  none_printed : Printed m [] started
  more : {text : List ℕ} {p : Progress} (memory : List ℕ) (r : Progress) → Printed m text p → Prints m p memory r → Printed m (text ++ take r.written memory) r

-- At the end of the list it is the sheet.
abbrev pub Whole : Type 0
Whole = (m : List ℕ) → length m ≤ most_input → (text : List ℕ) (p : Progress) → Printed m text p → length m ≤ p.at → text ≡ sheet_text m
