-- Where a call stands that goes on in turns, and what a turn of a run and the call leave.
use Rattle.std.specs.Prelude.{◌≡◌, List, ◌++◌, ℕ, suc, ◌+◌, ◌-◌, ◌≤◌, ◌<◌, eqb, length, take, drop, if◌then◌else◌}
use Rattle.rules.specs.declared.Venue.{Venue}
use Rattle.rules.specs.Records.{Report, encode_all}
use Rattle.rules.specs.declared.Returned.{Returned}
use Rattle.rules.specs.Calls.{Outcome, Call, ends, run_from}
use Rattle.demands.specs.Soundness.{SoundAt}
use Rattle.places.specs.Layout.{venue_of, Dense}
use Rattle.reader.specs.declared.Head.{Head}
use Rattle.reader.specs.Head.{head_at}
use Rattle.engine.specs.declared.RunProgress.{RunProgress}

-- an outcome after k messages and their records
unfoldable pub onto : (k : ℕ) → List Report → Outcome → Outcome
onto k rs o = record { number = o.number; done = k + o.done; venue = o.venue; reports = rs ++ o.reports }

-- how a call goes on that has come to a number: as the rest of it does, or not at all
unfoldable pub goes_on : (number : ℕ) → Venue → (rest : Outcome) → Outcome
goes_on k v rest = if eqb k 0 then rest else ends k v

-- One turn of a call, from `done` messages and `written` bytes in the report memory l₀ on: one message is done, or the call has ended. `before` was left to
-- do, and `rest` is left afterwards.
pub record Turned (before : Outcome) (done written : ℕ) (l₀ : List ℕ) (number done' written' : ℕ) (b l : List ℕ) (rest : Outcome) : Type 0 where
  pub records : List Report
  pub bytes : take written' l ≡ take written l₀ ++ encode_all records
  pub within : written' ≤ length l₀
  pub counted : done ≤ done'
  pub is : before ≡ onto (done' - done) records (goes_on number (venue_of b) rest)

-- what a turn of a run asks: a sound venue, a message or what is torn at the position, and room
pub record RunReady (t : RunProgress) (head : Head) (b m l : List ℕ) : Type 0 where
  pub dense : Dense b
  pub sound : SoundAt (suc t.done) (venue_of b)
  pub ahead : t.at < length m
  pub within : t.written ≤ length l
  pub headed : head ≡ head_at m t.at

-- from turn t of a run to turn r
pub record Advances (m : List ℕ) (t : RunProgress) (b₀ l₀ : List ℕ) (r : RunProgress) (b l : List ℕ) : Type 0 where
  pub turned : (fuel : ℕ) →
      Turned (run_from (suc fuel) (venue_of b₀) t.done (length l₀ - t.written) (drop t.at m)) t.done t.written l₀ r.number r.done r.written b l
      (run_from fuel (venue_of b) r.done (length l₀ - r.written) (drop r.at m))
  pub moved : r.number ≡ 0 → (t.at < r.at) × (r.at ≤ length m) × (r.done ≡ suc t.done)
  pub dense : Dense b
  pub sound : SoundAt (suc r.done) (venue_of b)

-- what a call returned and the report memory that it left
abbrev pub call_of : Returned → List ℕ → Call
call_of r l = record { returned = r; report = l }
