-- A step tried where its records may not fit: the numbers kept beside it, and what is left of it.
use mathlib.Core.Path.{◌≡◌, sym, ap, ap₂, ◌∙◌}
use mathlib.Core.List.{List, ◌++◌, append-nil}
use Prim.Native.Nat.{ℕ, ◌+◌, ◌≤◌, ◌<◌}
use native.Mathlib.Omega.{arith}
use native.Mathlib.Numerals.{add-one}
use lib.ListN.{length, get_or, set, drop_of_length-le}
use lib.Seq.{paste, paste-suc, take_all}
use Rattle.rules.specs.declared.Venue.{Venue}
use Rattle.rules.specs.Records.{Report, encode_all}
use Rattle.rules.specs.Step.{StepOutcome, step}
use Rattle.demands.specs.Soundness.{SoundVenue}
use Rattle.demands.proofs.Most.{writes-at-most}
use Rattle.records.specs.Seen.{Seen, seen}
use Rattle.records.proofs.StageLaws.{stage-venue, stage-written}
use Rattle.records.proofs.SeenLaws.{writes-in}
use Rattle.places.specs.Layout.{venue_of, Dense}
use Rattle.answers.specs.declared.Stepped.{Stepped}
use Rattle.answers.specs.Steps.{Steps}
use Rattle.messages.specs.Tries.{Tries}

-- Numbers copied ------------------------------------------------------------------------------

pub copied : (l from : List ℕ) (i : ℕ) → length l ≡ length from → length from ≤ i → i ≤ length from → paste l 0 from i ≡ from
copied l from i e h k =
    let z : 0 + i ≡ i = omega arith in
    ap₂ (λ (x y : List ℕ). x ++ y) (take_all i from h) (drop_of_length-le l {i = 0 + i} (omega arith)) ∙ append-nil from

pub copy-next : (l from : List ℕ) (i : ℕ) → length l ≡ length from → i < length from → set (paste l 0 from i) i (get_or from i 0) ≡ paste l 0 from (i + 1)
copy-next l from i e h =
    let z : i ≡ 0 + i = omega arith in
    ap (λ (k : ℕ). set (paste l 0 from i) k (get_or from i 0)) z ∙ paste-suc l 0 from i 0 (omega arith) h ∙ ap (paste l 0 from) (sym (add-one i))

-- A step tried --------------------------------------------------------------------------------

module _ (a : StepOutcome) (b₀ l : List ℕ) (r : Stepped) (b o : List ℕ) (s : Steps a l r b o) where
  pub tries-done : r.written ≤ length l → Tries a b₀ l r b o
  tries-done h =
      record {
        refused = s.refused;
        written = stage-written (venue_of b) o l r.written 0 a.effect s.staged;
        done = λ _. stage-venue (venue_of b) o l r.written 0 a.effect s.staged;
        left = λ k. absurd (omega arith);
        dense = s.dense;
      }

  pub tries_left : (b' : List ℕ) → length l < r.written → b' ≡ b₀ → Dense b₀ → Tries a b₀ l r b' o
  tries_left b' h e d =
      record {
        refused = s.refused;
        written = stage-written (venue_of b) o l r.written 0 a.effect s.staged;
        done = λ k. absurd (omega arith);
        left = λ _. ap venue_of e;
        dense = rw e d;
      }

-- with room for the most that a message upon a sound venue writes
pub tries-roomy : (v : Venue) (number : ℕ) (m b₀ l : List ℕ) (r : Stepped) (b o : List ℕ) → SoundVenue v → 10433 ≤ length l →
    Steps (step v number m) l r b o → Tries (step v number m) b₀ l r b o
unfolding seen
tries-roomy v number m b₀ l r b o s h g =
    let most = writes-at-most v s number m in
    let rs : List Report = (step v number m).effect.reports in
    let e = stage-written (venue_of b) o l r.written 0 (step v number m).effect g.staged in
    let k : r.written ≡ 0 + length (encode_all rs) = ap (λ (w : Seen). w.at) (e ∙ writes-in l 0 rs (omega arith)) in
    tries-done (step v number m) b₀ l r b o g (omega arith)
