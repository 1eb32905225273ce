-- The settings tell what held when: by the induction over calls, beside the truth of the sheet.
use mathlib.Core.Path.{◌∙◌, ◌≡◌, ap, refl, sym}
use mathlib.Core.Bool.{true}
use mathlib.Core.List.{List, [], ◌++◌, ◌∷◌}
use Prim.Native.Nat.{◌≤◌, suc, zero, ℕ}
use native.Mathlib.Decide.{dec_le}
use native.Mathlib.Omega.{arith}
use lib.ListN.{length, take}
use Rattle.rules.specs.declared.Venue.{Venue}
use Rattle.rules.specs.Words.{fresh_venue}
use Rattle.rules.specs.Records.{FourBytes}
use Rattle.rules.specs.Settings.{figure_now, in_force}
use Rattle.rules.specs.Calls.{settings}
use Rattle.rules.specs.Sound.{sound}
use Rattle.rules.specs.Step.{step}
use Rattle.demands.specs.Dates.{settings_now, Dates}
use Rattle.demands.specs.Demand.{Seen, start}
use Rattle.demands.specs.Truth.{leaves}
use Rattle.rules.proofs.Dating.{step_past}
use Rattle.rules.proofs.Editions.{in-force-now}
use Rattle.demands.proofs.Account.{onto}
use Rattle.demands.proofs.Induction.{all_keep}
use Rattle.demands.proofs.SoundnessLaws.{sound-out}
use Rattle.demands.proofs.Truth.{Told, more-told, start-told}

-- the first k of a list, which is at least as long, and of all of it
take-front : {A : Type 0} (k : ℕ) (a b : List A) → k ≤ length a → take k (a ++ b) ≡ take k a
take-front zero a b h = refl
take-front (suc k) [] b h = absurd (omega arith)
take-front (suc k) (x ∷ a) b h = ap (λ (l : List _). x ∷ l) (take-front k a b (omega arith))

take_whole : {A : Type 0} (k : ℕ) (a : List A) → length a ≡ k → take k a ≡ a
take_whole zero [] h = refl
take_whole zero (x ∷ a) h = absurd (omega arith)
take_whole (suc k) [] h = refl
take_whole (suc k) (x ∷ a) h = ap (λ (l : List _). x ∷ l) (take_whole k a (omega arith))

-- at each number so far
abbrev Known : Seen → Type 0
Known s = (k f : ℕ) → k ≤ s.done → in_force s.venue k f ≡ figure_now (leaves fresh_venue 0 (take k s.messages)) f

record Dated (s : Seen) : Type 0 where
  told : Told s
  known : Known s

-- at the number of the last message it is what the venue has now
known-now : (s : Seen) → Told s → (f : ℕ) → in_force s.venue s.done f ≡ figure_now (leaves fresh_venue 0 (take s.done s.messages)) f
known-now s t f =
    in-force-now s.venue s.done f t.sound.next
    ∙ ap (λ v. figure_now v f) (t.venue ∙ ap (leaves fresh_venue 0) (sym (take_whole s.done s.messages t.messages)))

known_more : (s : Seen) (bs : List ℕ) → Dated s → FourBytes (suc s.done) → Known (onto s bs (step s.venue (suc s.done) bs).effect)
unfolding onto
known_more s bs d few k f h = elim (dec_le k s.done) [
  | yes p ↦
      let t = d.told in
      let m = t.messages in
      step_past s.venue (suc s.done) bs t.sound.venue.shaped.editions k f (omega arith)
      ∙ d.known k f p ∙ ap (λ ms. figure_now (leaves fresh_venue 0 ms) f) (sym (take-front k s.messages (bs ∷ []) (omega arith)))
  | no p ↦
      let e : k ≡ suc s.done = omega arith in
      rw e (known-now (onto s bs (step s.venue (suc s.done) bs).effect) (more-told s bs d.told few) f)
]

more-dated : (s : Seen) (bs : List ℕ) → Dated s → FourBytes (suc s.done) → Dated (onto s bs (step s.venue (suc s.done) bs).effect)
more-dated s bs d few = record { told = more-told s bs d.told few; known = known_more s bs d few }

start-dated : Dated start
start-dated = record { told = start-told; known = start-known }
  where
    start-known : Known start
    start-known k f h = at k (start-done k h)
      where
        start-done : (k : ℕ) → k ≤ start.done → k ≡ start.done
        start-done k h = unfold start in (omega arith)

        at : (k : ℕ) → k ≡ start.done → in_force start.venue k f ≡ figure_now (leaves fresh_venue 0 (take k start.messages)) f
        at k e = rw e (known-now start start-told f)

-- the settings from each figure
all-figures : (v w : Venue) (n : ℕ) → sound v ≡ true → ((f : ℕ) → in_force v n f ≡ figure_now w f) → settings v n ≡ settings_now w
unfolding settings settings_now
all-figures v w n fine f = rw (fine, f 0, f 1, f 2, f 3, f 4, f 5, f 6, f 7, f 8)

pub dates : Dates
dates o cs k h =
    let d = all_keep Dated (λ s d. (sound-out s.venue d.told.sound.venue).ranged) start-dated more-dated o cs in
    all-figures _ _ k d.told.sound.venue.is (λ f. d.known k f h)
