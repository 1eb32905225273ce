-- Calls with a message or a list each agree with a run, message by message; and a call reads one message.
use Rattle.std.specs.Prelude.{if◌then◌else◌}
use mathlib.Core.Path.{◌∙◌, ◌≡◌, ap, refl, subst, sym}
use mathlib.Core.Logic.{◌≢◌}
use mathlib.Core.Bool.{Bool, false, true, true≢false}
use mathlib.Core.List.{List, [], ◌++◌, ◌∷◌, append_assoc, append-nil}
use Prim.Native.Nat.{◌*◌, ◌+◌, ◌-◌, ◌<◌, ◌≤◌, suc, zero, ℕ}
use native.Mathlib.Decide.{dec_le}
use native.Mathlib.Nat.{add-zero, suc-add, zero-add}
use native.Mathlib.Omega.{arith}
use lib.Dec.{eqb, eqb-suc-zero}
use lib.ListN.{drop, length, length-append, length-drop, length-take, take}
use lib.Seq.{drop-append-le, length-take-le, take_all, take-append_seam}
use borrow.Author.Tests.{eqb-false, eqb-true, lt-ltb, ne_eqb}
use Rattle.rules.specs.declared.Venue.{Venue}
use Rattle.rules.specs.Bytes.{length_field}
use Rattle.rules.specs.Records.{encode_all, sheet}
use Rattle.rules.specs.Effects.{Effect}
use Rattle.rules.specs.Refusals.{refusal, torn}
use Rattle.rules.specs.Sound.{sound}
use Rattle.rules.specs.Step.{StepOutcome, answered, step}
use Rattle.rules.specs.Calls.{Outcome, after, called, ends, exceeds, is_taken, one, one_from, run, run_from, run_upon, run_upon_from}
use Rattle.demands.specs.Demand.{Later, by_list, by_message, call_upon, given_to}
use Rattle.demands.specs.Agree.{Agree, Ended, FromFresh, InFront, NeverFills, OfList, Progress, ReadsOne, RunEnds}
use Rattle.demands.specs.Agree.{at_end, at_full, at_torn, at_unsound, fresh_progress, by_calls, left_after, onward, read, wrote}
use Rattle.demands.specs.Soundness.{SoundAt}
use Rattle.demands.specs.Most.{most_report_bytes}
use Rattle.rules.proofs.CallsLaws.{encode-append, no_bytes, not-exceeds, one_from-by, run_from-by, run_upon_from-by, torn-not}
use Rattle.rules.proofs.Front.{length-same, reads-one, step_same}
use Rattle.rules.proofs.RefusalsLaws.{not-torn, whole, whole_in}
use Rattle.rules.proofs.Tests.{and_l, and_r}
use Rattle.demands.proofs.Calls.{fresh-sound, stays-sound}
use Rattle.demands.proofs.Most.{writes-at-most}

-- A call reads one message --------------------------------------------------------------------

torn-refused : (v : Venue) (bs : List ℕ) → torn bs ≡ true → refusal v bs ≡ 1
torn-refused v bs t = go (eqb (refusal v bs) 1) refl
  where
    go : (b : Bool) → eqb (refusal v bs) 1 ≡ b → refusal v bs ≡ 1
    go true e = eqb-true (refusal v bs) 1 e
    go false e = absurd (true≢false (sym t ∙ not-torn v bs e))

-- torn bytes are refused alike
torn-same : (v : Venue) (number : ℕ) (bs cs : List ℕ) → torn bs ≡ true → torn cs ≡ true → step v number bs ≡ step v number cs
unfolding step
torn-same v number bs cs t u = rw (torn-refused v bs t, torn-refused v cs u)

-- of a length below 4 as few bytes are read
few-read : (bs : List ℕ) → length_field bs < 4 → length (read bs) < 4
unfolding read
few-read bs lt = omega (arith, length-take (length_field bs) bs)

-- so what is read is torn, whatever stands behind it
torn-short : (bs : List ℕ) → torn bs ≡ true → length_field bs < length bs → torn (read bs) ≡ true
unfolding torn
torn-short bs t lt = rw (lt-ltb (length (read bs)) 4 (few-read bs short))
  where
    short : length_field bs < 4
    short = elim (dec_le 4 (length_field bs)) [
      | yes le ↦ absurd (true≢false (sym t ∙ unfold torn in (whole_in bs (le, omega arith))))
      | no gt ↦ omega arith
    ]

pub one-read : ReadsOne
unfolding one one_from read
one-read v before room bs = go (torn bs) refl
  where
    go : (b : Bool) → torn bs ≡ b → one v before room bs ≡ one v before room (read bs)
    go false e = reads-one v before room bs e
    go true e = elim (dec_le (length bs) (length_field bs)) [
      | yes le ↦ ap (one v before room) (sym (take_all (length_field bs) bs le))
      | no gt ↦ rw (torn-same v (suc before) bs (take (length_field bs) bs) e (torn-short bs e (omega arith)))
    ]

-- Messages one after another ------------------------------------------------------------------

abbrev at : (t : Bool) (n : ℕ) (v : Venue) (b l : List ℕ) → Progress
at t n v b l = record { torn = t; done = n; venue = v; bytes = b; left = l }

same_at : (t u : Bool) (m n : ℕ) (v : Venue) (b c l k : List ℕ) → t ≡ u → m ≡ n → b ≡ c → l ≡ k → at t m v b l ≡ at u n v c k
same_at t u m n v b c l k p q r s = rw (p, q, r, s)

-- one message more, which went so and leaves l
abbrev moved : StepOutcome → (l : List ℕ) → Progress → Progress
moved a l p = at (eqb a.refused 1) (suc p.done) a.effect.venue (p.bytes ++ encode_all a.effect.reports) l

-- the message in front done, whatever memory there is
unfoldable next : Progress → Progress
next p = moved (step p.venue (suc p.done) p.left) (drop (length_field p.left) p.left) p

unfoldable steps : ℕ → Progress → Progress
steps zero p = p
steps (suc j) p = steps j (next p)

steps-done : (j : ℕ) (p : Progress) → (steps j p).done ≡ p.done + j
unfolding steps next
steps-done zero p = omega arith
steps-done (suc j) p = let e = steps-done j (next p) in omega arith

steps-more : (i j : ℕ) (p : Progress) → steps j (steps i p) ≡ steps (i + j) p
unfolding steps
steps-more zero j p = rw (zero-add j)
steps-more (suc i) j p = rw (suc-add i j) (steps-more i j (next p))

-- A call ----------------------------------------------------------------------------------------

-- what a call wrote is its records' bytes
pub wrote-is : (room : ℕ) (o : Outcome) → wrote (called room o) ≡ encode_all o.reports
unfolding wrote called sheet
wrote-is room o = take-append_seam (encode_all o.reports) _

-- how a call went, onward
unfoldable went : Progress → Outcome → Progress
went p o =
    at (if eqb o.done 0 then p.torn else eqb o.number 1) (p.done + o.done) o.venue (p.bytes ++ encode_all o.reports) (left_after o.done p.left)

went-is : (p : Progress) (room : ℕ) (o : Outcome) → onward p (called room o) ≡ went p o
unfolding onward called went
went-is p room o =
    ap (λ (w : List ℕ). at (if eqb o.done 0 then p.torn else eqb o.number 1) (p.done + o.done) o.venue (p.bytes ++ w) (left_after o.done p.left))
    (wrote-is room o)

-- a call that does no message comes no further
idle : (p : Progress) (k : ℕ) → went p (ends k p.venue) ≡ p
unfolding went ends encode_all left_after
idle p k = rw (add-zero p.done, append-nil p.bytes)

-- a call that does a message, and then goes on as r does
went_then : (p : Progress) (a : StepOutcome) (l : List ℕ) → drop (length_field p.left) p.left ≡ l →
    (r : Outcome) → (eqb r.done 0 ≡ true → eqb r.number 1 ≡ eqb a.refused 1) → went p (after a.effect r) ≡ went (moved a l p) r
unfolding went after left_after
went_then p a l e r t =
    same_at (if eqb (suc r.done) 0 then p.torn else eqb r.number 1) _ _ _ _ _ _ _ _ (rw (eqb-suc-zero r.done) (go (eqb r.done 0) refl)) (omega arith)
    (rw (encode-append a.effect.reports r.reports) (sym (append_assoc p.bytes (encode_all a.effect.reports) (encode_all r.reports))))
    (ap (left_after r.done) e)
  where
    go : (b : Bool) → eqb r.done 0 ≡ b → eqb r.number 1 ≡ (if b then eqb a.refused 1 else eqb r.number 1)
    go true z = t z
    go false z = refl

-- the call comes as far as its messages do
abbrev Does : Progress → Outcome → Type 0
Does p o = went p o ≡ steps o.done p

does-idle : (p : Progress) (k : ℕ) → Does p (ends k p.venue)
unfolding steps ends
does-idle p k = idle p k

does-more : (p : Progress) (a : StepOutcome) (l : List ℕ) → step p.venue (suc p.done) p.left ≡ a → drop (length_field p.left) p.left ≡ l →
    (r : Outcome) → (eqb r.done 0 ≡ true → eqb r.number 1 ≡ eqb a.refused 1) → Does (moved a l p) r → Does p (after a.effect r)
unfolding steps next after
does-more p a l s e r t h = went_then p a l e r t ∙ h ∙ ap (λ (q : Progress). steps r.done q) (sym (rw (s, e)))

-- A list that is a part of what is left -------------------------------------------------------

torn-not-at : (v : Venue) (number : ℕ) (bs : List ℕ) → (step v number bs).refused ≢ 1 → torn bs ≡ false
unfolding step answered
torn-not-at v number bs h = not-torn v bs (ne_eqb (refusal v bs) 1 h)

-- the message in front of a part is the one in front of all that is left, unless it is torn by the cut
module _ (bs rest : List ℕ) (v : Venue) (number : ℕ) (w : (step v number bs).refused ≡ 1 → rest ≡ []) where
  front-both : (step v number (bs ++ rest) ≡ step v number bs) × (drop (length_field (bs ++ rest)) (bs ++ rest) ≡ drop (length_field bs) bs ++ rest)
  front-both = go (eqb (step v number bs).refused 1) refl
    where
      all : rest ≡ [] → (step v number (bs ++ rest) ≡ step v number bs) × (drop (length_field (bs ++ rest)) (bs ++ rest) ≡ drop (length_field bs) bs ++ rest)
      all e = rw (e, append-nil bs, append-nil (drop (length_field bs) bs)) (refl, refl)

      go : (b : Bool) → eqb (step v number bs).refused 1 ≡ b →
          (step v number (bs ++ rest) ≡ step v number bs) × (drop (length_field (bs ++ rest)) (bs ++ rest) ≡ drop (length_field bs) bs ++ rest)
      go true e = all (w (eqb-true (step v number bs).refused 1 e))
      go false e =
          let t = torn-not-at v number bs (eqb-false (step v number bs).refused 1 e) in
          let w = whole bs t in
          let a = w.0 in
          let b = w.1 in
          let f : length_field (bs ++ rest) ≡ length_field bs = length-same bs rest (omega arith) in
          (step_same bs rest w v number, rw f (drop-append-le (length_field bs) bs rest b))

-- The list of a run ---------------------------------------------------------------------------

-- a run that does no message does not end at a torn one
number-after : (e : Effect) (r : Outcome) → (after e r).number ≡ r.number
unfolding after
number-after e r = refl

number-ends : (k : ℕ) (v : Venue) → (ends k v).number ≡ k
unfolding ends
number-ends k v = refl

some-done : (e : Effect) (r : Outcome) → eqb (after e r).done 0 ≡ false
unfolding after
some-done e r = eqb-suc-zero r.done

idle-number : (fuel : ℕ) (v : Venue) (n room : ℕ) (bs : List ℕ) → eqb (run_from fuel v n room bs).done 0 ≡ true → eqb (run_from fuel v n room bs).number 1 ≡ false
unfolding ends
idle-number zero v n room bs = unfold run_from in (λ _. refl)
idle-number (suc fuel) v n room bs =
    run_from-by (λ o. eqb o.done 0 ≡ true → eqb o.number 1 ≡ false) v n room bs fuel (λ _ _. refl) (λ _ _ _. refl)
    (λ _ _ z. absurd (true≢false (sym z ∙ some-done _ _))) (λ _ _ z. absurd (true≢false (sym z ∙ some-done _ _)))

-- given bs, in front of what is left, a call does the messages in front, unless it ends at one that is torn by the cut
abbrev DoesFront : Progress → (bs rest : List ℕ) → Outcome → Type 0
DoesFront p bs rest o = p.left ≡ bs ++ rest → (o.number ≡ 1 → rest ≡ []) → Does p o

front-more : (p : Progress) (bs rest : List ℕ) → p.left ≡ bs ++ rest →
    let a = step p.venue (suc p.done) bs in
    (a.refused ≡ 1 → rest ≡ []) → (r : Outcome) → (eqb r.done 0 ≡ true → eqb r.number 1 ≡ eqb a.refused 1) →
    Does (moved a (drop (length_field bs) bs ++ rest) p) r → Does p (after a.effect r)
front-more p bs rest is w r =
    let f = front-both bs rest p.venue (suc p.done) w in
    does-more p (step p.venue (suc p.done) bs) (drop (length_field bs) bs ++ rest)
    (ap (step p.venue (suc p.done)) is ∙ f.0) (ap (λ (x : List ℕ). drop (length_field x) x) is ∙ f.1) r

run-does : (fuel : ℕ) (p : Progress) (room : ℕ) (bs rest : List ℕ) → DoesFront p bs rest (run_from fuel p.venue p.done room bs)
run-does zero p room bs rest = unfold run_from in (λ _ _. does-idle p 0)
run-does (suc fuel) p room bs rest =
    run_from-by (DoesFront p bs rest) p.venue p.done room bs fuel (λ _ _ _. does-idle p 0) (λ _ _ _ _. does-idle p 10)
    (λ _ t is w. front-more p bs rest is (λ _. w (number-after _ _ ∙ number-ends 1 _)) _ (λ _. ap (λ (k : ℕ). eqb k 1) (number-ends 1 _ ∙ sym t)) (does-idle _ 1))
    (λ _ t is w. front-more p bs rest is (λ e. absurd (t e)) _ (λ z. idle-number fuel _ _ _ _ z ∙ sym (ne_eqb _ 1 t))
    (run-does fuel _ _ _ rest refl (λ e. w (number-after _ _ ∙ e))))

upon-does : (p : Progress) (room : ℕ) (bs rest : List ℕ) → DoesFront p bs rest (run_upon_from p.venue p.done room bs)
upon-does p room bs rest =
    run_upon_from-by (DoesFront p bs rest) p.venue p.done room bs (λ _ _ _. does-idle p 9) (λ _. run-does (length bs) p room bs rest)

one-does : (p : Progress) (room : ℕ) (bs rest : List ℕ) → DoesFront p bs rest (one_from p.venue p.done room bs)
one-does p room bs rest =
    one_from-by (DoesFront p bs rest) p.venue p.done room bs (λ _ _ _. does-idle p 9) (λ _ _ _ _. does-idle p 10)
    (λ _ _ is w. front-more p bs rest is (λ e. w (number-after _ _ ∙ number-ends _ _ ∙ e)) _ (λ _. ap (λ (k : ℕ). eqb k 1) (number-ends _ _)) (does-idle _ _))

-- Calls one after another ---------------------------------------------------------------------

call-does : (c : Later) (p : Progress) → InFront c p →
    let r = call_upon c p.venue p.done in
    onward p r ≡ steps r.returned.done p
unfolding call_upon given_to one run_upon called
call-does (by_message g) p f = went-is p g.room (one_from p.venue p.done g.room g.bytes) ∙ one-does p g.room g.bytes f.rest f.is f.whole
call-does (by_list g) p f = went-is p g.room (run_upon_from p.venue p.done g.room g.bytes) ∙ upon-does p g.room g.bytes f.rest f.is f.whole

-- so many messages done
record Stepped (p q : Progress) : Type 0 where
  count : ℕ
  is : q ≡ steps count p

calls-do : (cs : List Later) (p : Progress) → OfList cs p → Stepped p (by_calls cs p)
unfolding by_calls
calls-do [] p f = record { count = 0; is = unfold steps in refl }
calls-do (c ∷ cs) p f =
    let r = call_upon c p.venue p.done in
    let s = calls-do cs (onward p r) f.1 in
    let d = r.returned.done in
    record { count = d + s.count; is = s.is ∙ ap (steps s.count) (call-does c p f.0) ∙ steps-more d s.count p }

pub agree : Agree
unfolding run_upon called
agree p room cs f e =
    let o = run_upon_from p.venue p.done room p.left in
    let s = calls-do cs p f in
    let r = went-is p room o ∙ upon-does p room p.left [] (sym (append-nil p.left)) (λ _. refl) in
    let a = ap (λ (q : Progress). q.done) s.is ∙ steps-done s.count p in
    let b = ap (λ (q : Progress). q.done) r ∙ steps-done o.done p in
    let c : s.count ≡ o.done = omega arith in
    s.is ∙ ap (λ (j : ℕ). steps j p) c ∙ sym r

-- How a run ends ------------------------------------------------------------------------------

pub from-fresh : FromFresh
unfolding run run_upon run_upon_from
from-fresh room bs = rw (fresh-sound.venue.is, fresh-sound.next)

-- what ends a run ends the next one-message call too
one-nine : (v : Venue) (n room : ℕ) (bs : List ℕ) → is_taken v n ≡ false → (one v n room bs).returned.number ≡ 9
unfolding one one_from called ends
one-nine v n room bs e = rw e

one-full : (v : Venue) (n room : ℕ) (bs : List ℕ) → SoundAt (suc n) v → exceeds (suc n) room (step v (suc n) bs).effect.reports ≡ true →
    (one v n room bs).returned.number ≡ 10
unfolding one one_from called ends
one-full v n room bs s e = rw (s.venue.is, s.next, e)

-- what is left is shorter
pub shorter : (fuel : ℕ) (bs : List ℕ) → length bs ≤ suc fuel → torn bs ≡ false → length (drop (length_field bs) bs) ≤ fuel
shorter fuel bs le t = let w = whole bs t in rw (length-drop (length_field bs) bs) (omega arith)

back : (a b : ℕ) → a + b - b ≡ a
back a b = omega arith

module _ (p : Progress) (room : ℕ) where
  -- the end of a call that went so
  abbrev EndedBy : Outcome → Type 0
  EndedBy o = Ended (room + length p.bytes) (went p o) o.number

  ended_here : (k : ℕ) → Ended (room + length p.bytes) p k → EndedBy (ends k p.venue)
  unfolding ends
  ended_here k e = subst (λ (q : Progress). Ended (room + length p.bytes) q k) (sym (idle p k)) e

run-ends-at : (fuel : ℕ) (p : Progress) (room : ℕ) → SoundAt (suc p.done) p.venue → length p.left ≤ fuel → p.torn ≡ false →
    EndedBy p room (run_from fuel p.venue p.done room p.left)
unfolding after ends went
run-ends-at zero p room s le t = unfold run_from in ended_here p room 0 (at_end t (no_bytes p.left (omega arith)))
run-ends-at (suc fuel) p room s le t =
    run_from-by (EndedBy p room) p.venue p.done room p.left fuel
    (λ e. ended_here p room 0 (at_end t (no_bytes p.left e)))
    (λ _ e. ended_here p room 10 (at_full t (rw (back room (length p.bytes)) (one-full p.venue p.done room p.left s e))))
    (λ _ _. at_torn refl)
    (λ d x. more d.1 x (run-ends-at fuel (moved a l p) (room - size) (stays-sound p.venue (suc p.done) d.0 s p.left) (shorter fuel p.left le
    (torn-not p.venue p.done p.left x))
    (ne_eqb _ 1 x)))
  where
    a : StepOutcome
    a = step p.venue (suc p.done) p.left

    l : List ℕ
    l = drop (length_field p.left) p.left

    size : ℕ
    size = length (encode_all a.effect.reports)

    r : Outcome
    r = run_from fuel a.effect.venue (suc p.done) (room - size) l

    more : size ≤ room → a.refused ≢ 1 → EndedBy (moved a l p) (room - size) r → EndedBy p room (after a.effect r)
    more le x e =
        let n = length-append p.bytes (encode_all a.effect.reports) in
        let m : room - size + length (p.bytes ++ encode_all a.effect.reports) ≡ room + length p.bytes = omega arith in
        subst (λ (q : Progress). Ended (room + length p.bytes) q r.number)
        (sym (went_then p a l refl r (λ z. idle-number fuel a.effect.venue (suc p.done) (room - size) l z ∙ sym (ne_eqb a.refused 1 x)))) (rw m at e)

pub run_ends : RunEnds
unfolding run_upon called fresh_progress
run_ends v n room bs shaped =
    let p = fresh_progress v n bs in
    let o = run_upon_from v n room bs in
    subst (λ (q : Progress). Ended room q o.number) (sym (went-is p room o))
    (rw (add-zero room) at (run_upon_from-by (EndedBy p room) v n room bs (λ u. ended_here p room 9 (at_unsound (one-nine v n _ bs u)))
    (λ t. run-ends-at (length bs) p room (record { venue = record { shaped = shaped; is = and_l (sound v) _ t }; next = and_r (sound v) _ t }) (omega arith) refl)))

-- Room for all --------------------------------------------------------------------------------

-- each message takes a byte of the list at least, and writes no more than the most
abbrev Roomy : (fuel : ℕ) → Type 0
Roomy fuel = (v : Venue) (n room : ℕ) (bs : List ℕ) → SoundAt (suc n) v → n + length bs ≤ 4294967295 → most_report_bytes * length bs ≤ room → (run_from fuel v n room bs).number ≢ 10

roomy : (fuel : ℕ) → Roomy fuel
unfolding ends after
roomy zero v n room bs s few enough = unfold run_from in (λ e. omega arith)
roomy (suc fuel) v n room bs s few enough =
    let rs = (step v (suc n) bs).effect.reports in
    let w = writes-at-most v s.venue (suc n) bs in
    run_from-by (λ o. o.number ≢ 10) v n room bs fuel (λ _ h. omega arith)
    (λ some e. absurd (true≢false (sym e ∙ not-exceeds (suc n) room rs (omega arith) (omega arith))))
    (λ _ _ h. omega arith)
    (λ d t.
    let f = whole bs (torn-not v n bs t) in
    let l = f.0 in
    let g = f.1 in
    let q = length-drop (length_field bs) bs in
    roomy fuel _ (suc n) _ _ (stays-sound v (suc n) d.0 s bs) (omega arith) (omega arith))

pub never-fills : NeverFills
unfolding run_upon called ends
never-fills v n room bs s few enough =
    run_upon_from-by (λ o. o.number ≢ 10) v n room bs (λ _ e. omega arith) (λ _. roomy (length bs) v n room bs s few enough)
