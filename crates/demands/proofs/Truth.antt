-- The sheet tells the truth about itself: of one message, and over a list of calls.
use Rattle.std.specs.Prelude.{if◌then◌else◌}
use mathlib.Core.Path.{◌∙◌, ◌≡◌, ap, refl}
use mathlib.Core.Logic.{◌≢◌}
use mathlib.Core.List.{List, [], ◌++◌, ◌∷◌}
use Prim.Native.Nat.{◌+◌, suc, ℕ}
use native.Mathlib.Nat.{add-zero, zero-add}
use native.Mathlib.Omega.{arith}
use lib.Dec.{eqb}
use lib.ListN.{length, length-append}
use borrow.Author.Tests.{ne_eqb}
use Rattle.rules.specs.declared.Venue.{Venue}
use Rattle.rules.specs.Words.{fresh_venue}
use Rattle.rules.specs.Messages.{message_of}
use Rattle.rules.specs.Records.{ForAll, Report, FourBytes, answer, cancelled, crossed, generated, looked, pair, removed, trade}
use Rattle.rules.specs.Effects.{Effect, nothing}
use Rattle.rules.specs.Refusals.{refusal}
use Rattle.rules.specs.Step.{accept, answered, step}
use Rattle.demands.specs.Demand.{Later, Opening, Seen, calls, opening, start}
use Rattle.demands.specs.Soundness.{SoundAt}
use Rattle.demands.specs.Truth.{AnswersOnce, OneMessage, RefusedAlone, Truth, answer_of, answers, answers_of, from, leaves, numbers, venue_after}
use Rattle.rules.proofs.CallsLaws.{step_by}
use Rattle.rules.proofs.Quiet.{NoAnswer, quiet-accept}
use Rattle.demands.proofs.Account.{onto}
use Rattle.demands.proofs.Calls.{fresh-sound, stays-sound}
use Rattle.demands.proofs.Induction.{all_keep}
use Rattle.demands.proofs.SoundnessLaws.{sound-out}

-- Answers among records ----------------------------------------------------------------------

no-answers : (rs : List Report) → ForAll NoAnswer rs → answers rs ≡ []
unfolding answers
no-answers [] h = refl
no-answers (answer _ _ _ _ ∷ rs) h = absurd h.0
no-answers (trade _ _ _ _ _ _ ∷ rs) h = no-answers rs h.1
no-answers (pair _ _ _ ∷ rs) h = no-answers rs h.1
no-answers (generated _ _ _ _ _ _ ∷ rs) h = no-answers rs h.1
no-answers (removed _ _ _ _ ∷ rs) h = no-answers rs h.1
no-answers (crossed _ _ _ _ ∷ rs) h = no-answers rs h.1
no-answers (cancelled _ _ ∷ rs) h = no-answers rs h.1
no-answers (looked _ ∷ rs) h = no-answers rs h.1

answers-append : (a b : List Report) → answers (a ++ b) ≡ answers a ++ answers b
unfolding answers
answers-append [] b = refl
answers-append (answer number refusal mask count ∷ rs) b = ap (λ (l : List Report). answer number refusal mask count ∷ l) (answers-append rs b)
answers-append (trade _ _ _ _ _ _ ∷ rs) b = answers-append rs b
answers-append (pair _ _ _ ∷ rs) b = answers-append rs b
answers-append (generated _ _ _ _ _ _ ∷ rs) b = answers-append rs b
answers-append (removed _ _ _ _ ∷ rs) b = answers-append rs b
answers-append (crossed _ _ _ _ ∷ rs) b = answers-append rs b
answers-append (cancelled _ _ ∷ rs) b = answers-append rs b
answers-append (looked _ ∷ rs) b = answers-append rs b

-- One message ---------------------------------------------------------------------------------

once : (v : Venue) (number : ℕ) (m : List ℕ) → AnswersOnce v number m
unfolding step answered answer_of venue_after nothing answers
once v number m = record {
  effects = (if eqb (refusal v m) 0 then accept number (message_of m) v else nothing v).reports;
  first = refl;
  only = step_by (λ (e : Effect). answers e.reports ≡ []) v number m (λ _. no-answers (accept number (message_of m) v).reports (quiet-accept number (message_of m) v)) (λ _. refl);
}

refused-alone : (v : Venue) (number : ℕ) (m : List ℕ) → refusal v m ≢ 0 → RefusedAlone v number m
unfolding step answered venue_after nothing
refused-alone v number m n = record { venue = rw (ne_eqb (refusal v m) 0 n, venue_after); reports = rw (ne_eqb (refusal v m) 0 n) }

pub one-message : OneMessage
one-message = record { once = once; alone = refused-alone }

-- Records and messages joined -----------------------------------------------------------------

step-answers : (v : Venue) (number : ℕ) (m : List ℕ) → answers (step v number m).effect.reports ≡ answer_of v number m ∷ []
unfolding answers answer_of
step-answers v number m = let o = once v number m in rw (o.first, o.only)

shift : (n k : ℕ) → n + suc k ≡ suc n + k
shift n k = omega arith

-- one message more
answers_of-more : (v : Venue) (n : ℕ) (ms : List (List ℕ)) (m : List ℕ) → answers_of v n (ms ++ (m ∷ [])) ≡ answers_of v n ms ++ (answer_of (leaves v n ms) (suc (n + length ms)) m ∷ [])
unfolding answers_of leaves
answers_of-more v n [] m = rw (add-zero n)
answers_of-more v n (x ∷ ms) m = rw (shift n (length ms)) (ap (λ (l : List Report). answer_of v (suc n) x ∷ l) (answers_of-more (venue_after v (suc n) x) (suc n) ms m))

leaves-more : (v : Venue) (n : ℕ) (ms : List (List ℕ)) (m : List ℕ) → leaves v n (ms ++ (m ∷ [])) ≡ venue_after (leaves v n ms) (suc (n + length ms)) m
unfolding leaves
leaves-more v n [] m = rw (add-zero n)
leaves-more v n (x ∷ ms) m = rw (shift n (length ms)) (leaves-more (venue_after v (suc n) x) (suc n) ms m)

numbers-answers : (rs : List Report) → numbers rs ≡ numbers (answers rs)
unfolding numbers answers
numbers-answers [] = refl
numbers-answers (answer number _ _ _ ∷ rs) = ap (λ (l : List ℕ). number ∷ l) (numbers-answers rs)
numbers-answers (trade _ _ _ _ _ _ ∷ rs) = numbers-answers rs
numbers-answers (pair _ _ _ ∷ rs) = numbers-answers rs
numbers-answers (generated _ _ _ _ _ _ ∷ rs) = numbers-answers rs
numbers-answers (removed _ _ _ _ ∷ rs) = numbers-answers rs
numbers-answers (crossed _ _ _ _ ∷ rs) = numbers-answers rs
numbers-answers (cancelled _ _ ∷ rs) = numbers-answers rs
numbers-answers (looked _ ∷ rs) = numbers-answers rs

numbers_of : (v : Venue) (n : ℕ) (ms : List (List ℕ)) → numbers (answers_of v n ms) ≡ from (suc n) (length ms)
unfolding numbers answers_of answer_of from
numbers_of v n [] = refl
numbers_of v n (m ∷ ms) = ap (λ (l : List ℕ). suc n ∷ l) (numbers_of (venue_after v (suc n) m) (suc n) ms)

-- What callers see ----------------------------------------------------------------------------

-- told the truth so far, upon a sound venue
pub record Told (s : Seen) : Type 0 where
  pub told : answers s.reports ≡ answers_of fresh_venue 0 s.messages
  pub messages : length s.messages ≡ s.done
  pub venue : s.venue ≡ leaves fresh_venue 0 s.messages
  pub sound : SoundAt (suc s.done) s.venue

pub start-told : Told start
unfolding start answers answers_of leaves
start-told = record { told = refl; messages = refl; venue = refl; sound = fresh-sound }

pub more-told : (s : Seen) (bs : List ℕ) → Told s → FourBytes (suc s.done) → Told (onto s bs (step s.venue (suc s.done) bs).effect)
unfolding onto venue_after
more-told s bs t few =
    let v = s.venue in
    let n = suc s.done in
    record {
      told =
          rw (answers-append s.reports (step v n bs).effect.reports, t.told, step-answers v n bs, answers_of-more fresh_venue 0 s.messages bs, zero-add, t.messages, ← t.venue);
      messages = rw (length-append s.messages (bs ∷ []), t.messages) (omega arith);
      venue = rw (leaves-more fresh_venue 0 s.messages bs, zero-add, t.messages, ← t.venue);
      sound = stays-sound v n few t.sound bs;
    }

all_told : (o : Opening) (cs : List Later) → Told (calls (opening o) cs)
all_told = all_keep Told (λ s t. (sound-out s.venue t.sound.venue).ranged) start-told more-told

pub truth : Truth
truth o cs =
    let s = calls (opening o) cs in
    let t = all_told o cs in
    record {
      numbered = numbers-answers s.reports ∙ ap numbers t.told ∙ numbers_of fresh_venue 0 s.messages ∙ ap (from 1) t.messages;
      told = t.told;
      messages = t.messages;
      venue = t.venue;
    }
