-- The text of a run, message by message: it does not depend on the report memory, while that is large enough.
use mathlib.Core.Path.{◌≡◌, refl, sym, ap, ◌∙◌}
use mathlib.Core.Bool.{Bool, true, false}
use mathlib.Core.Logic.{◌≢◌}
use mathlib.Core.List.{List, [], ◌∷◌, ◌++◌, append_assoc, append-nil}
use Prim.Native.Nat.{ℕ, zero, suc, ◌+◌, ◌-◌, ◌*◌, ◌≤◌}
use native.Mathlib.Omega.{arith}
use lib.Dec.{eqb}
use lib.ListN.{length, drop, length-drop}
use borrow.Author.Tests.{eqb-true, eqb-false, ne_eqb}
use Rattle.rules.specs.declared.Venue.{Venue}
use Rattle.rules.specs.Words.{fresh_venue}
use Rattle.rules.specs.Bytes.{length_field}
use Rattle.rules.specs.Records.{ForAll, Fits, Report, encode_all, records}
use Rattle.rules.specs.Step.{step}
use Rattle.rules.specs.Calls.{Outcome, after, called, ends, run, run_from}
use Rattle.rules.proofs.CallsLaws.{not-exceeds, run_room, run_from-by, torn-not}
use Rattle.rules.proofs.Reading.{reads-back}
use Rattle.rules.proofs.RefusalsLaws.{whole}
use Rattle.rules.proofs.Widths.{each_append}
use Rattle.demands.specs.Soundness.{SoundAt}
use Rattle.demands.specs.Most.{most_report_bytes}
use Rattle.demands.proofs.Calls.{fresh-sound, stays-sound, step_fits}
use Rattle.demands.proofs.Most.{writes-at-most}
use Rattle.text.specs.Lines.{line_of, text_of}
use Rattle.sheet.specs.Sheet.{AnyMemory, left, sheet_text, started, text_from}

pub text-append : (a b : List Report) → text_of (a ++ b) ≡ text_of a ++ text_of b
unfolding text_of
text-append [] b = refl
text-append (r ∷ a) b = ap (λ (x : List ℕ). line_of r ++ x) (text-append a b) ∙ sym (append_assoc (line_of r) (text_of a) (text_of b))

-- One message of a run ------------------------------------------------------------------------

-- no message is left
none : (fuel : ℕ) (v : Venue) (n room : ℕ) (bs : List ℕ) → length bs ≡ 0 → (run_from fuel v n room bs).reports ≡ []
unfolding run_from ends
none zero v n room bs h = refl
none (suc fuel) v n room bs h = rw (h, run_from)

module _ (v : Venue) (n : ℕ) (bs : List ℕ) (s : SoundAt (suc n) v) (some : length bs ≢ 0) (few : n + length bs ≤ 4294967295) where
  abbrev reports : List Report
  reports = (step v (suc n) bs).effect.reports

  abbrev next : Venue
  next = (step v (suc n) bs).effect.venue

  fits_in : (room : ℕ) → most_report_bytes * length bs ≤ room → length (encode_all reports) ≤ room
  fits_in room enough = let w = writes-at-most v s.venue (suc n) bs in omega arith

  -- the message is torn, and the run ends
  run-last : (fuel room : ℕ) → most_report_bytes * length bs ≤ room → (step v (suc n) bs).refused ≡ 1 → (run_from (suc fuel) v n room bs).reports ≡ reports
  unfolding run_from after ends
  run-last fuel room enough t = rw (ne_eqb (length bs) 0 some, not-exceeds (suc n) room reports (omega arith) (fits_in room enough), t, run_from) (append-nil reports)

  -- or it goes on
  run_on : (fuel room : ℕ) → most_report_bytes * length bs ≤ room → (step v (suc n) bs).refused ≢ 1 →
      (run_from (suc fuel) v n room bs).reports ≡ reports ++ (run_from fuel next (suc n) (room - length (encode_all reports)) (drop (length_field bs) bs)).reports
  unfolding run_from after
  run_on fuel room enough t = rw (ne_eqb (length bs) 0 some, not-exceeds (suc n) room reports (omega arith) (fits_in room enough), ne_eqb (step v (suc n) bs).refused 1 t, run_from)

  -- then what is left is shorter, and so is the room that it needs
  shorter : (step v (suc n) bs).refused ≢ 1 → (fuel : ℕ) → length bs ≤ suc fuel → length (drop (length_field bs) bs) ≤ fuel
  shorter t fuel le = let w = whole bs (torn-not v n bs t) in let q = length-drop (length_field bs) bs in omega arith

  fewer : (step v (suc n) bs).refused ≢ 1 → suc n + length (drop (length_field bs) bs) ≤ 4294967295
  fewer t = let q = shorter t (length bs - 1) (omega arith) in omega arith

  roomy : (step v (suc n) bs).refused ≢ 1 → (room : ℕ) → most_report_bytes * length bs ≤ room → most_report_bytes * length (drop (length_field bs) bs) ≤ room - length (encode_all reports)
  roomy t room enough =
      let q = shorter t (length bs - 1) (omega arith) in
      let w = writes-at-most v s.venue (suc n) bs in
      omega arith

-- The room and the fuel make no difference ----------------------------------------------------

same : (f g : ℕ) (v : Venue) (n r s : ℕ) (bs : List ℕ) → SoundAt (suc n) v → n + length bs ≤ 4294967295 → length bs ≤ f → length bs ≤ g →
    most_report_bytes * length bs ≤ r → most_report_bytes * length bs ≤ s → (run_from f v n r bs).reports ≡ (run_from g v n s bs).reports
same zero g v n r s bs is few a b c d = none zero v n r bs (omega arith) ∙ sym (none g v n s bs (omega arith))
same (suc f) zero v n r s bs is few a b c d = none (suc f) v n r bs (omega arith) ∙ sym (none zero v n s bs (omega arith))
same (suc f) (suc g) v n r s bs is few a b c d =
    go (eqb (length bs) 0) refl (eqb (step v (suc n) bs).refused 1) refl
    (λ some t.
    same f g (step v (suc n) bs).effect.venue (suc n) _ _ (drop (length_field bs) bs) (stays-sound v (suc n) (omega arith) is bs)
    (fewer v n bs is some few t) (shorter v n bs is some few t f a) (shorter v n bs is some few t g b)
    (roomy v n bs is some few t r c) (roomy v n bs is some few t s d))
  where
    rest : (fuel room : ℕ) → List Report
    rest fuel room = (run_from fuel (step v (suc n) bs).effect.venue (suc n) (room - length (encode_all (step v (suc n) bs).effect.reports)) (drop (length_field bs) bs)).reports

    go : (p : Bool) → eqb (length bs) 0 ≡ p → (q : Bool) → eqb (step v (suc n) bs).refused 1 ≡ q →
        (length bs ≢ 0 → (step v (suc n) bs).refused ≢ 1 → rest f r ≡ rest g s) → (run_from (suc f) v n r bs).reports ≡ (run_from (suc g) v n s bs).reports
    go true x q y on = let z = eqb-true (length bs) 0 x in none (suc f) v n r bs z ∙ sym (none (suc g) v n s bs z)
    go false x true y on =
        let some = eqb-false (length bs) 0 x in
        let t = eqb-true (step v (suc n) bs).refused 1 y in
        run-last v n bs is some few f r c t ∙ sym (run-last v n bs is some few g s d t)
    go false x false y on =
        let some = eqb-false (length bs) 0 x in
        let t = eqb-false (step v (suc n) bs).refused 1 y in
        run_on v n bs is some few f r c t ∙ ap (λ (l : List Report). (step v (suc n) bs).effect.reports ++ l) (on some t) ∙ sym (run_on v n bs is some few g s d t)

-- a run that was not ended by 10 has the records of one that is lent enough
filled-not : (fuel : ℕ) (v : Venue) (n r s : ℕ) (bs : List ℕ) → SoundAt (suc n) v → n + length bs ≤ 4294967295 → length bs ≤ fuel → most_report_bytes * length bs ≤ s →
    (run_from fuel v n r bs).number ≢ 10 → (run_from fuel v n r bs).reports ≡ (run_from fuel v n s bs).reports
unfolding ends after
filled-not zero v n r s bs is few le enough = unfold run_from in (λ _. refl)
filled-not (suc fuel) v n r s bs is few le enough =
    go (eqb (length bs) 0) refl
    (λ some t h.
    filled-not fuel (step v (suc n) bs).effect.venue (suc n) _ _ (drop (length_field bs) bs)
    (stays-sound v (suc n) (omega arith) is bs) (fewer v n bs is some few t) (shorter v n bs is some few t fuel le)
    (roomy v n bs is some few t s enough) h)
  where
    rest : (room : ℕ) → Outcome
    rest room = run_from fuel (step v (suc n) bs).effect.venue (suc n) (room - length (encode_all (step v (suc n) bs).effect.reports)) (drop (length_field bs) bs)

    go : (p : Bool) → eqb (length bs) 0 ≡ p → (length bs ≢ 0 → (step v (suc n) bs).refused ≢ 1 → (rest r).number ≢ 10 → (rest r).reports ≡ (rest s).reports) →
        (run_from (suc fuel) v n r bs).number ≢ 10 → (run_from (suc fuel) v n r bs).reports ≡ (run_from (suc fuel) v n s bs).reports
    go true x on = λ _. let z = eqb-true (length bs) 0 x in none (suc fuel) v n r bs z ∙ sym (none (suc fuel) v n s bs z)
    go false x on =
        let some = eqb-false (length bs) 0 x in
        let rs = (step v (suc n) bs).effect.reports in
        run_from-by (λ (o : Outcome). o.number ≢ 10 → o.reports ≡ (run_from (suc fuel) v n s bs).reports) v n r bs fuel
        (λ z _. absurd (some z))
        (λ _ _ h. absurd (h refl))
        (λ d t _. append-nil rs ∙ sym (run-last v n bs is some few fuel s enough t))
        (λ d t h. ap (λ (l : List Report). rs ++ l) (on some t h) ∙ sym (run_on v n bs is some few fuel s enough t))

-- The text ------------------------------------------------------------------------------------

module _ (v : Venue) (n : ℕ) (bs : List ℕ) (s : SoundAt (suc n) v) (some : length bs ≢ 0) (few : n + length bs ≤ 4294967295) where
  more-fuel : text_from v n bs ≡ text_of (run_from (suc (length bs)) v n (most_report_bytes * length bs) bs).reports
  unfolding text_from
  more-fuel = ap text_of (same (length bs) (suc (length bs)) v n _ _ bs s few (omega arith) (omega arith) (omega arith) (omega arith))

  pub text-last : (step v (suc n) bs).refused ≡ 1 → text_from v n bs ≡ text_of (step v (suc n) bs).effect.reports
  text-last t = more-fuel ∙ ap text_of (run-last v n bs s some few (length bs) _ (omega arith) t)

  pub text-on : (step v (suc n) bs).refused ≢ 1 →
      text_from v n bs ≡ text_of (step v (suc n) bs).effect.reports ++ text_from (step v (suc n) bs).effect.venue (suc n) (drop (length_field bs) bs)
  unfolding text_from
  text-on t =
      let l = drop (length_field bs) bs in
      more-fuel ∙ ap text_of (run_on v n bs s some few (length bs) _ (omega arith) t)
      ∙ text-append (step v (suc n) bs).effect.reports _
      ∙ ap (λ (rs : List Report). text_of (step v (suc n) bs).effect.reports ++ text_of rs)
      (same (length bs) (length l) _ (suc n) _ _ l (stays-sound v (suc n) (omega arith) s bs) (fewer v n bs s some few t) (shorter v n bs s some few t (length bs) (omega arith)) (omega arith)
      (roomy v n bs s some few t _ (omega arith)) (omega arith))

pub text-none : (v : Venue) (n : ℕ) (bs : List ℕ) → length bs ≡ 0 → text_from v n bs ≡ []
unfolding text_from text_of
text-none v n bs h = ap text_of (none (length bs) v n _ bs h)

-- Before the first message --------------------------------------------------------------------

-- every record of a run upon a sound venue fits its widths
run_fits : (fuel : ℕ) (v : Venue) (n room : ℕ) (bs : List ℕ) → SoundAt (suc n) v → ForAll Fits (run_from fuel v n room bs).reports
unfolding ends after
run_fits zero v n room bs s = unfold run_from in tt
run_fits (suc fuel) v n room bs s =
    let rs = (step v (suc n) bs).effect.reports in
    let more = (run_from fuel (step v (suc n) bs).effect.venue (suc n) (room - length (encode_all rs)) (drop (length_field bs) bs)).reports in
    run_from-by (λ (o : Outcome). ForAll Fits o.reports) v n room bs fuel (λ _. tt) (λ _ _. tt)
    (λ d _. each_append Fits rs [] (step_fits v s.venue (suc n) d.0 bs) tt)
    (λ d _. each_append Fits rs more (step_fits v s.venue (suc n) d.0 bs) (run_fits fuel _ (suc n) _ (drop (length_field bs) bs) (stays-sound v (suc n) d.0 s bs)))

-- a run's report memory reads back
read_back : (room : ℕ) (m : List ℕ) → records (run room m).report ≡ (run_from (length m) fresh_venue 0 room m).reports
unfolding run called
read_back room m = reads-back room _ (run_fits (length m) fresh_venue 0 room m fresh-sound) (run_room (length m) fresh_venue 0 room m)

pub begins : (m : List ℕ) → left m started ≡ sheet_text m
unfolding left text_from sheet_text
begins m = ap text_of (sym (read_back (most_report_bytes * length m) m))

pub any_memory : AnyMemory
unfolding sheet_text run called
any_memory room m few h =
    ap text_of (read_back room m ∙ filled-not (length m) fresh_venue 0 room (most_report_bytes * length m) m fresh-sound (omega arith) (omega arith) (omega arith) h
    ∙ sym (read_back (most_report_bytes * length m) m))
