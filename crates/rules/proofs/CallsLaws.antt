-- One message and the calls, by their cases; a call's records fit the report memory, whatever the venue and the bytes.
use Rattle.std.specs.Prelude.{if◌then◌else◌}
use mathlib.Core.Path.{◌≡◌, refl, sym}
use mathlib.Core.Bool.{Bool, false, not, true}
use mathlib.Core.Logic.{◌≢◌}
use mathlib.Core.List.{List, [], ◌++◌, ◌∷◌, append_assoc}
use Prim.Native.Nat.{◌-◌, ◌<◌, ◌≤◌, suc, zero, ℕ}
use native.Mathlib.Omega.{arith}
use lib.Dec.{eqb, ltb}
use lib.ListN.{drop, length, length-append, length-drop, length-replicate}
use borrow.Author.Tests.{eqb-false, eqb-true, le-ltb, lt-ltb, ltb-false, ne_eqb}
use Rattle.rules.specs.declared.Venue.{Venue}
use Rattle.rules.specs.Words.{fresh_venue}
use Rattle.rules.specs.Bytes.{length_field}
use Rattle.rules.specs.Messages.{message_of}
use Rattle.rules.specs.Records.{Report, encode, encode_all, sheet}
use Rattle.rules.specs.Effects.{Effect, nothing}
use Rattle.rules.specs.Refusals.{full, refusal, torn}
use Rattle.rules.specs.Step.{StepOutcome, accept, answered, step}
use Rattle.rules.specs.Sound.{follows, sound}
use Rattle.rules.specs.Calls.{Outcome, after, called, ends, exceeds, is_taken, one, one_from, run, run_from, run_upon, run_upon_from}
use Rattle.rules.proofs.Cases.{if-by}
use Rattle.rules.proofs.RefusalsLaws.{not-torn, whole}
use Rattle.rules.proofs.Tests.{or-false-l, or-false-r}

-- one message: accepted, or refused and then nothing is done
module _ {ℓ} (Q : Effect → Type ℓ) (v : Venue) (number : ℕ) (bs : List ℕ) where
  pub step_by : (refusal v bs ≡ 0 → Q (accept number (message_of bs) v)) → (refusal v bs ≢ 0 → Q (nothing v)) →
      Q (if eqb (refusal v bs) 0 then accept number (message_of bs) v else nothing v)
  step_by accepts refuses = if-by Q (eqb (refusal v bs) 0) (λ e. accepts (eqb-true (refusal v bs) 0 e)) (λ e. refuses (eqb-false (refusal v bs) 0 e))

-- a message that does not exceed: its number and its records fit
pub within-room : (number room : ℕ) (rs : List Report) → exceeds number room rs ≡ false → (number < 4294967296) × (length (encode_all rs) ≤ room)
unfolding exceeds
within-room number room rs h =
    let a = ltb-false 4294967295 number (or-false-l (ltb 4294967295 number) (ltb room (length (encode_all rs))) h) in
    let b = ltb-false room (length (encode_all rs)) (or-false-r (ltb 4294967295 number) (ltb room (length (encode_all rs))) h) in
    (omega arith, b)

-- one whose number would pass the last, or whose records do not fit, exceeds
module _ (n room : ℕ) (rs : List Report) where
  pub no_number : 4294967295 < n → exceeds n room rs ≡ true
  unfolding exceeds
  no_number h = rw (lt-ltb 4294967295 n h)

  pub no_room : n ≤ 4294967295 → room < length (encode_all rs) → exceeds n room rs ≡ true
  unfolding exceeds
  no_room d h = rw (le-ltb 4294967295 n d, lt-ltb room (length (encode_all rs)) h)

-- and one whose number and records fit does not exceed
pub not-exceeds : (number room : ℕ) (rs : List Report) → number ≤ 4294967295 → length (encode_all rs) ≤ room → exceeds number room rs ≡ false
unfolding exceeds
not-exceeds number room rs few enough = rw (le-ltb 4294967295 number few, le-ltb room (length (encode_all rs)) enough)

module _ {ℓ} (Q : Outcome → Type ℓ) (v : Venue) (n room : ℕ) (bs : List ℕ) where
  abbrev x : StepOutcome
  x = step v (suc n) bs

  abbrev e : Effect
  e = x.effect

  -- the message is done: its number and its records fit
  abbrev Done : Type 0
  Done = (suc n < 4294967296) × (length (encode_all e.reports) ≤ room)

  -- the messages of a run, from the first one on
  pub run_from-by : (fuel : ℕ) → (length bs ≡ 0 → Q (ends 0 v)) → (length bs ≢ 0 → exceeds (suc n) room e.reports ≡ true → Q (ends 10 v)) →
      (Done → x.refused ≡ 1 → Q (after e (ends 1 e.venue))) →
      (Done → x.refused ≢ 1 → Q (after e (run_from fuel e.venue (suc n) (room - length (encode_all e.reports)) (drop (length_field bs) bs)))) →
      Q (run_from (suc fuel) v n room bs)
  unfolding run_from
  run_from-by fuel none full last on = go (eqb (length bs) 0) refl (exceeds (suc n) room e.reports) refl (eqb x.refused 1) refl
    where
      go : (p : Bool) → eqb (length bs) 0 ≡ p → (q : Bool) → exceeds (suc n) room e.reports ≡ q → (r : Bool) → eqb x.refused 1 ≡ r →
          Q (elim p as (λ _. Outcome) [
            | true ↦ ends 0 v
            | false ↦ elim q as (λ _. Outcome) [
              | true ↦ ends 10 v
              | false ↦ after e (elim r as (λ _. Outcome) [
                | true ↦ ends 1 e.venue
                | false ↦ run_from fuel e.venue (suc n) (room - length (encode_all e.reports)) (drop (length_field bs) bs)
              ])
            ]
          ])
      go true a q b r c = none (eqb-true (length bs) 0 a)
      go false a true b r c = full (eqb-false (length bs) 0 a) b
      go false a false b true c = last (within-room (suc n) room e.reports b) (eqb-true x.refused 1 c)
      go false a false b false c = on (within-room (suc n) room e.reports b) (eqb-false x.refused 1 c)

  -- a run upon a venue
  pub run_upon_from-by : (is_taken v n ≡ false → Q (ends 9 v)) → (is_taken v n ≡ true → Q (run_from (length bs) v n room bs)) → Q (run_upon_from v n room bs)
  unfolding run_upon_from
  run_upon_from-by unsound runs = go (is_taken v n) refl
    where
      go : (p : Bool) → is_taken v n ≡ p → Q (if not p then ends 9 v else run_from (length bs) v n room bs)
      go false a = unsound a
      go true a = runs a

  -- a one-message call
  pub one_from-by : (is_taken v n ≡ false → Q (ends 9 v)) → (is_taken v n ≡ true → exceeds (suc n) room e.reports ≡ true → Q (ends 10 v)) →
      (is_taken v n ≡ true → Done → Q (after e (ends x.refused e.venue))) →
      Q (one_from v n room bs)
  unfolding one_from
  one_from-by unsound full done = go (is_taken v n) refl (exceeds (suc n) room e.reports) refl
    where
      go : (p : Bool) → is_taken v n ≡ p → (q : Bool) → exceeds (suc n) room e.reports ≡ q →
          Q (if not p then ends 9 v else if q then ends 10 v else after e (ends x.refused e.venue))
      go false a q b = unsound a
      go true a true b = full a b
      go true a false b = done a (within-room (suc n) room e.reports b)

-- one message of a run, by its cases
module _ (fuel : ℕ) (v : Venue) (n room : ℕ) (bs : List ℕ) (some : 0 < length bs) where
  pub run-full : exceeds (suc n) room (step v (suc n) bs).effect.reports ≡ true → run_from (suc fuel) v n room bs ≡ ends 10 v
  unfolding run_from
  run-full e = rw (ne_eqb (length bs) 0 (λ z. omega arith), e, run_from)

  pub run-torn : exceeds (suc n) room (step v (suc n) bs).effect.reports ≡ false → eqb (step v (suc n) bs).refused 1 ≡ true →
      run_from (suc fuel) v n room bs ≡ after (step v (suc n) bs).effect (ends 1 (step v (suc n) bs).effect.venue)
  unfolding run_from
  run-torn e t = rw (ne_eqb (length bs) 0 (λ z. omega arith), e, t, run_from)

  pub run_on : exceeds (suc n) room (step v (suc n) bs).effect.reports ≡ false → eqb (step v (suc n) bs).refused 1 ≡ false →
      run_from (suc fuel) v n room bs ≡ after (step v (suc n) bs).effect
      (run_from fuel (step v (suc n) bs).effect.venue (suc n) (room - length (encode_all (step v (suc n) bs).effect.reports)) (drop (length_field bs) bs))
  unfolding run_from
  run_on e t = rw (ne_eqb (length bs) 0 (λ z. omega arith), e, t, run_from)

-- no message is left
pub run_none : (fuel : ℕ) (v : Venue) (n room : ℕ) → run_from fuel v n room [] ≡ ends 0 v
unfolding run_from
run_none zero v n room = refl
run_none (suc fuel) v n room = refl

-- upon a sound venue, a message that follows and does not exceed is done
pub one_from-done : (v : Venue) (n room : ℕ) (bs : List ℕ) → sound v ≡ true → follows (suc n) v ≡ true → exceeds (suc n) room (step v (suc n) bs).effect.reports ≡ false →
    one_from v n room bs ≡ after (step v (suc n) bs).effect (ends (step v (suc n) bs).refused (step v (suc n) bs).effect.venue)
unfolding one_from
one_from-done v n room bs s f e = rw (s, f, e)

-- The report memory ---------------------------------------------------------------------------

pub encode-append : (a b : List Report) → encode_all (a ++ b) ≡ encode_all a ++ encode_all b
unfolding encode_all
encode-append [] b = refl
encode-append (r ∷ a) b = rw (encode-append a b) (sym (append_assoc (encode r) (encode_all a) (encode_all b)))

after-room : (e : Effect) (r : Outcome) (room : ℕ) → length (encode_all e.reports) ≤ room → length (encode_all r.reports) ≤ room - length (encode_all e.reports) →
    length (encode_all (after e r).reports) ≤ room
unfolding after
after-room e r room h k = rw (encode-append e.reports r.reports, length-append) (omega arith)

ends-room : (k : ℕ) (v : Venue) (room : ℕ) → length (encode_all (ends k v).reports) ≤ room
unfolding ends encode_all
ends-room k v room = omega arith

-- the records of a call never exceed the report memory
pub run_room : (fuel : ℕ) (v : Venue) (n room : ℕ) (bs : List ℕ) → length (encode_all (run_from fuel v n room bs).reports) ≤ room
run_room zero v n room bs = unfold run_from in (ends-room 0 v room)
run_room (suc fuel) v n room bs =
    run_from-by (λ r. length (encode_all r.reports) ≤ room) v n room bs fuel (λ _. ends-room 0 v room) (λ _ _. ends-room 10 v room)
    (λ d _. after-room _ _ room d.1 (ends-room 1 _ _)) (λ d _. after-room _ _ room d.1 (run_room fuel _ (suc n) _ _))

pub upon-room : (v : Venue) (n room : ℕ) (bs : List ℕ) → length (encode_all (run_upon_from v n room bs).reports) ≤ room
upon-room v n room bs =
    run_upon_from-by (λ r. length (encode_all r.reports) ≤ room) v n room bs (λ _. ends-room 9 v room) (λ _. run_room (length bs) v n room bs)

pub one-room : (v : Venue) (n room : ℕ) (bs : List ℕ) → length (encode_all (one_from v n room bs).reports) ≤ room
one-room v n room bs =
    one_from-by (λ r. length (encode_all r.reports) ≤ room) v n room bs (λ _. ends-room 9 v room) (λ _ _. ends-room 10 v room)
    (λ _ d. after-room _ _ room d.1 (ends-room _ _ _))

pub sheet-length : (room : ℕ) (rs : List Report) → length (encode_all rs) ≤ room → length (sheet room rs) ≡ room
unfolding sheet
sheet-length room rs le = simp (length-append, length-replicate) (omega arith)

-- so what a call leaves in the report memory has the memory's length
pub run-memory : (room : ℕ) (bs : List ℕ) → length (run room bs).report ≡ room
unfolding run called
run-memory room bs = sheet-length room _ (run_room (length bs) fresh_venue 0 room bs)

pub upon-memory : (v : Venue) (n room : ℕ) (bs : List ℕ) → length (run_upon v n room bs).report ≡ room
unfolding run_upon called
upon-memory v n room bs = sheet-length room _ (upon-room v n room bs)

pub one-memory : (v : Venue) (n room : ℕ) (bs : List ℕ) → length (one v n room bs).report ≡ room
unfolding one called
one-memory v n room bs = sheet-length room _ (one-room v n room bs)

-- The whole list ------------------------------------------------------------------------------

-- the bytes left after some messages
unfoldable pub left : (done : ℕ) → List ℕ → List ℕ
left zero bs = bs
left (suc done) bs = left done (drop (length_field bs) bs)

pub torn-not : (v : Venue) (n : ℕ) (bs : List ℕ) → (step v (suc n) bs).refused ≢ 1 → torn bs ≡ false
unfolding step answered
torn-not v n bs h = not-torn v bs (ne_eqb (refusal v bs) 1 h)

pub no_bytes : (bs : List ℕ) → length bs ≡ 0 → bs ≡ []
no_bytes [] h = refl
no_bytes (x ∷ bs) h = absurd (omega arith)

run_ends : (fuel : ℕ) (v : Venue) (n room : ℕ) (bs : List ℕ) → length bs ≤ fuel → (run_from fuel v n room bs).number ≡ 0 → left (run_from fuel v n room bs).done bs ≡ []
unfolding ends after left
run_ends zero v n room bs le = unfold run_from in (λ e. no_bytes bs (omega arith))
run_ends (suc fuel) v n room bs le =
    run_from-by (λ r. r.number ≡ 0 → left r.done bs ≡ []) v n room bs fuel
    (λ z _. no_bytes bs z) (λ _ _ h. absurd (omega arith)) (λ _ _ h. absurd (omega arith))
    (λ _ t h. run_ends fuel _ (suc n) _ (drop (length_field bs) bs) (simp length-drop (let z = whole bs (torn-not v n bs t) in omega arith)) h)

-- the fuel of a run is enough: where its number is 0 it has done the whole list
pub run-done : (room : ℕ) (bs : List ℕ) → (run room bs).returned.number ≡ 0 → left (run room bs).returned.done bs ≡ []
unfolding run called
run-done room bs h = run_ends (length bs) fresh_venue 0 room bs (omega arith) h
