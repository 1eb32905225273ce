-- The sheet reads back: a report memory gives the records written, and all that a message writes upon a sound venue can be read so.
use Rattle.std.specs.Prelude.{◌≡◌, List, ◌<◌, ◌≤◌, ℕ, length}
use Rattle.rules.specs.declared.Venue.{Venue}
use Rattle.rules.specs.Bytes.{bytes}
use Rattle.rules.specs.Records.{ForAll, Fits, Report, encode_all, records, sheet}
use Rattle.rules.specs.Step.{step}
use Rattle.rules.specs.Calls.{one, run, run_upon}
use Rattle.demands.specs.Soundness.{SoundVenue}

-- "the sheet ends at the first zero length or at the end of the report memory": reading so gives back exactly the records written
abbrev pub ReadsBack : Type 0
ReadsBack = (room : ℕ) (rs : List Report) → ForAll Fits rs → length (encode_all rs) ≤ room → records (sheet room rs) ≡ rs

-- upon a sound venue every record of a message fits its widths
abbrev pub StepFits : Type 0
StepFits = (v : Venue) → SoundVenue v → (number : ℕ) → number < 4294967296 → (message : List ℕ) →
    ForAll Fits (step v number message).effect.reports

-- the report memory is all said: it has the length that was lent, whatever the call does
pub record WholeMemory : Type 0 where
  pub by_run : (room : ℕ) (bytes : List ℕ) → length (run room bytes).report ≡ room
  pub by_one : (v : Venue) (before room : ℕ) (bytes : List ℕ) → length (one v before room bytes).report ≡ room
  pub by_run_upon : (v : Venue) (before room : ℕ) (bytes : List ℕ) → length (run_upon v before room bytes).report ≡ room
