-- The laws of a one-message call, by the ways that it ends.
use mathlib.Core.Path.{◌≡◌, refl, sym, ap, ap₂, ◌∙◌}
use mathlib.Core.Bool.{true, false, ◌&&◌}
use mathlib.Core.List.{List, ◌++◌, append-nil}
use Prim.Native.Nat.{ℕ, suc, ◌+◌, ◌-◌, ◌≤◌, ◌<◌}
use native.Mathlib.Omega.{arith}
use native.Mathlib.Numerals.{add-one}
use lib.ListN.{length, take, replicate}
use Rattle.rules.specs.declared.Venue.{Venue}
use Rattle.rules.specs.Records.{Report, encode_all, sheet}
use Rattle.rules.specs.Step.{StepOutcome, step}
use Rattle.rules.specs.Sound.{sound, follows}
use Rattle.rules.specs.Calls.{called, exceeds, ends, after, one_from, one}
use Rattle.rules.proofs.CallsLaws.{no_number, no_room, not-exceeds}
use Rattle.records.proofs.StageLaws.{stage-venue, stage-written}
use Rattle.records.specs.Seen.{seen, ◌writes◌}
use Rattle.records.proofs.SeenLaws.{wrote, overflowed, seen-room, sheet-left}
use Rattle.places.specs.Layout.{venue_of}
use Rattle.places.proofs.Generations.{generations-twenty}
use Rattle.places.proofs.Parts.{regulars-few, complexes-few}
use Rattle.places.proofs.Tables.{upto-length, used-length}
use Rattle.demands.specs.Soundness.{Shaped, SoundVenue}
use Rattle.answers.specs.declared.Stepped.{Stepped}
use Rattle.answers.specs.Steps.{Steps}
use Rattle.engine.specs.Runs.{call_of}

-- numbers stand for a venue of the declared type
shaped : (b : List ℕ) → Shaped (venue_of b)
unfolding venue_of
shaped b =
    record {
      regular = used-length _ _ _ 128 (regulars-few b);
      complex = used-length _ _ _ 32 (complexes-few b);
      legging = upto-length _ 0 16;
      series = upto-length _ 0 8;
      editions = upto-length _ 0 32;
      generations = upto-length _ 0 8;
      twenty = generations-twenty b;
    }

-- the numbers of a venue that is sound
pub laid-sound : (v : Venue) (b : List ℕ) → sound v ≡ true → venue_of b ≡ v → SoundVenue (venue_of b)
laid-sound v b fine stands = record { shaped = shaped b; is = ap sound stands ∙ fine }

-- the report zeroed from its start
pub call_ends : (l z : List ℕ) (number : ℕ) (v : Venue) → z ≡ take 0 l ++ replicate (length l - 0) 0 →
    call_of (record { number = number; done = 0; written = 0; venue = v }) z ≡ called (length l) (ends number v)
unfolding called ends sheet encode_all
call_ends l z number v e = ap (call_of (record { number = number; done = 0; written = 0; venue = v })) e

module _ (v : Venue) (n room : ℕ) (m : List ℕ) where
  pub one-unready : (sound v && follows (suc n) v) ≡ false → called room (ends 9 v) ≡ one v n room m
  unfolding one one_from
  one-unready e = rw e

  module _ (fine : (sound v && follows (suc n) v) ≡ true) where
    pub one-ends : exceeds (suc n) room (step v (suc n) m).effect.reports ≡ true → called room (ends 10 v) ≡ one v n room m
    unfolding one one_from
    one-ends e = rw (fine, e)

    pub one-no-number : n ≡ 4294967295 → called room (ends 10 v) ≡ one v n room m
    one-no-number e = one-ends (no_number (suc n) room _ (omega arith))

    pub one-does : exceeds (suc n) room (step v (suc n) m).effect.reports ≡ false →
        called room (after (step v (suc n) m).effect (ends (step v (suc n) m).refused (step v (suc n) m).effect.venue)) ≡ one v n room m
    unfolding one one_from
    one-does e = rw (fine, e)

-- the message was done upon b₀, which stands for v: r is what its step returned, b and o what it left
module _ (v : Venue) (n : ℕ) (m b₀ b l o : List ℕ) (r : Stepped) (fine : (sound v && follows (suc n) v) ≡ true) (stands : venue_of b₀ ≡ v) (few : n < 4294967295)
    (steps : Steps (step (venue_of b₀) (n + 1) m) l r b o) where
  abbrev a : StepOutcome
  a = step v (suc n) m

  abbrev rs : List Report
  rs = a.effect.reports

  stepped : Steps a l r b o
  stepped = rw (ap₂ (λ (x : Venue) (k : ℕ). step x k m) stands (add-one n)) at steps

  written : seen o r.written ≡ seen l 0 writes rs
  written = stage-written (venue_of b) o l r.written 0 a.effect stepped.staged

  -- its records do not fit
  pub one-no-room : length l < r.written → called (length o) (ends 10 v) ≡ one v n (length l) m
  one-no-room h =
      let over = overflowed l o 0 r.written rs written h in
      ap (λ (k : ℕ). called k (ends 10 v)) (seen-room l o 0 r.written rs written)
      ∙ one-ends v n (length l) m fine (no_room (suc n) (length l) rs (omega arith) (omega arith))

  -- they do: the rest of the report is zeroed, and the venue read
  pub one-done : (z : List ℕ) (w : Venue) → r.written ≤ length l → z ≡ take r.written o ++ replicate (length o - r.written) 0 → w ≡ venue_of b →
      call_of (record { number = r.refused; done = 1; written = r.written; venue = w }) z ≡ one v n (length l) m
  unfolding called after ends
  one-done z w h e u =
      let end : r.written ≡ length (encode_all rs) = (wrote l o 0 r.written rs written h).end_is ∙ omega arith in
      let venue : w ≡ a.effect.venue = u ∙ stage-venue (venue_of b) o l r.written 0 a.effect stepped.staged in
      let memory : z ≡ sheet (length l) rs = e ∙ sheet-left l o o r.written rs written h refl refl in
      ap₂ (λ (x : ℕ) (y : Venue). call_of (record { number = x; done = 1; written = r.written; venue = y }) z) stepped.refused venue
      ∙ ap₂ (λ (k : ℕ) (y : List ℕ). call_of (record { number = a.refused; done = 1; written = k; venue = a.effect.venue }) y) end memory
      ∙ ap (λ (x : List Report). call_of (record { number = a.refused; done = 1; written = length (encode_all x); venue = a.effect.venue }) (sheet (length l) x)) (sym (append-nil rs))
      ∙ one-does v n (length l) m fine (not-exceeds (suc n) (length l) rs (omega arith) (omega arith))
