-- The sheet tells the truth about itself: one answer for each message done, numbered without a gap, with the mask and the count of the
-- venue after it.
use Rattle.std.specs.Prelude.{◌≡◌, ◌≢◌, List, [], ◌∷◌, ℕ, zero, suc, length}
use Rattle.rules.specs.declared.Venue.{Venue}
use Rattle.rules.specs.Words.{fresh_venue}
use Rattle.rules.specs.Records.{Report, answer, trade, pair, generated, removed, crossed, cancelled, looked}
use Rattle.rules.specs.Refusals.{refusal}
use Rattle.rules.specs.Step.{mask, filled, step}
use Rattle.demands.specs.Demand.{Later, Opening, Seen, calls, opening}

-- One message ---------------------------------------------------------------------------------

-- the answers among records, in order
unfoldable pub answers : List Report → List Report
answers [] = []
answers (answer number refusal mask count ∷ rs) = answer number refusal mask count ∷ answers rs
answers (trade series side price quantity taker maker ∷ rs) = answers rs
answers (pair id n quantity ∷ rs) = answers rs
answers (generated id series side price displayed quantity ∷ rs) = answers rs
answers (removed id series side cause ∷ rs) = answers rs
answers (crossed taker maker n quantity ∷ rs) = answers rs
answers (cancelled id quantity ∷ rs) = answers rs
answers (looked count ∷ rs) = answers rs

-- the venue after a message
unfoldable pub venue_after : Venue → (number : ℕ) → (message : List ℕ) → Venue
venue_after v number m = (step v number m).effect.venue

-- a message's answer: its number, its refusal or 0, and "the legging places filled after the message; bit n is place n, and the count is
-- its ones"
unfoldable pub answer_of : Venue → (number : ℕ) → (message : List ℕ) → Report
answer_of v number m = answer number (refusal v m) (mask (venue_after v number m).legging) (filled (venue_after v number m).legging)

-- "Each message yields one 64, then its effects as they happen."
pub record AnswersOnce (v : Venue) (number : ℕ) (message : List ℕ) : Type 0 where
  pub effects : List Report
  pub first : (step v number message).effect.reports ≡ answer_of v number message ∷ effects
  pub only : answers effects ≡ []

-- "64 only"; "Message refusals leave the venue as it was."
pub record RefusedAlone (v : Venue) (number : ℕ) (message : List ℕ) : Type 0 where
  pub venue : venue_after v number message ≡ v
  pub reports : (step v number message).effect.reports ≡ answer number (refusal v message) (mask v.legging) (filled v.legging) ∷ []

-- of every venue, sound or not
pub record OneMessage : Type 0 where
  pub once : (v : Venue) (number : ℕ) (message : List ℕ) → AnswersOnce v number message
  pub alone : (v : Venue) (number : ℕ) (message : List ℕ) → refusal v message ≢ 0 → RefusedAlone v number message

-- A list of calls -----------------------------------------------------------------------------

-- the answers of messages upon v one after another, n having gone before, and the venue that they leave
unfoldable pub answers_of : Venue → (n : ℕ) → (messages : List (List ℕ)) → List Report
answers_of v n [] = []
answers_of v n (m ∷ ms) = answer_of v (suc n) m ∷ answers_of (venue_after v (suc n) m) (suc n) ms

unfoldable pub leaves : Venue → (n : ℕ) → (messages : List (List ℕ)) → Venue
leaves v n [] = v
leaves v n (m ∷ ms) = leaves (venue_after v (suc n) m) (suc n) ms

-- the numbers that answers tell
unfoldable pub numbers : List Report → List ℕ
numbers [] = []
numbers (answer number refusal mask count ∷ rs) = number ∷ numbers rs
numbers (trade series side price quantity taker maker ∷ rs) = numbers rs
numbers (pair id n quantity ∷ rs) = numbers rs
numbers (generated id series side price displayed quantity ∷ rs) = numbers rs
numbers (removed id series side cause ∷ rs) = numbers rs
numbers (crossed taker maker n quantity ∷ rs) = numbers rs
numbers (cancelled id quantity ∷ rs) = numbers rs
numbers (looked count ∷ rs) = numbers rs

-- n, and so on, `count` of them
unfoldable pub from : (n count : ℕ) → List ℕ
from n zero = []
from n (suc count) = n ∷ from (suc n) count

-- of what callers have seen: the records read from the report memories, the messages done, and the venue returned last
pub record Truthful (s : Seen) : Type 0 where
  -- "message number u32 from 1": one answer for each message done, numbered without a gap over the calls
  pub numbered : numbers s.reports ≡ from 1 s.done
  -- each tells its message's refusal, and the mask and the count of the venue after it
  pub told : answers s.reports ≡ answers_of fresh_venue 0 s.messages
  pub messages : length s.messages ≡ s.done
  pub venue : s.venue ≡ leaves fresh_venue 0 s.messages

abbrev pub Truth : Type 0
Truth = (o : Opening) (cs : List Later) → Truthful (calls (opening o) cs)
