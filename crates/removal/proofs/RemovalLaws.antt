-- Laws of removal, for the loops that do it place by place.
use Rattle.std.specs.Prelude.{if◌then◌else◌}
use mathlib.Core.Path.{◌≡◌, refl, sym, ap, subst, ◌∙◌}
use mathlib.Core.Bool.{Bool, true, false, not, ◌||◌}
use mathlib.Core.List.{List, [], ◌∷◌, ◌++◌, append_assoc, append-nil}
use Prim.Native.Nat.{ℕ, zero, suc, ◌+◌, ◌*◌, ◌-◌, ◌≤◌, ◌<◌, ◌/◌, ◌%◌, ◌^◌}
use native.Mathlib.Omega.{arith}
use native.Mathlib.Numerals.{add-one}
use native.Mathlib.Decide.{ℕ_discrete}
use lib.Dec.{eqb}
use lib.ListN.{length, get_or, set, take, drop, take-append-drop, drop_of_length-le}
use lib.Seq.{drop-cons, take-suc-set, drop-set-lt, take_all, set-get_or}
use borrow.Author.Tests.{eq-eqb, ne_eqb, eqb-true}
use Rattle.rules.specs.declared.Legging.{Legging}
use Rattle.rules.specs.declared.Venue.{Venue}
use Rattle.rules.specs.declared.Cause.{Cause}
use Rattle.rules.specs.declared.Cause.TheVariants.{Worse, Unpaired, Executed, Withdrawn, OutOfBand, NotOpen, Replaced, Touched, NoUnit}
use Rattle.rules.specs.declared.Verdict.{Verdict}
use Rattle.rules.specs.declared.Verdict.TheVariants.{Stands, Fails}
use Rattle.rules.specs.Words.{no_legging, with_legging}
use Rattle.rules.specs.Records.{removed}
use Rattle.rules.specs.Effects.{Effect, nothing, report, ◌⟫◌}
use Rattle.rules.specs.Removal.{stay, goes, stayers, leavers, remove, fail_if}
use Rattle.rules.specs.Standing.{verdict_number}
use Rattle.rules.specs.Generation.{placed}
use Rattle.rules.specs.Step.{mask}
use Rattle.records.specs.Seen.{Seen, seen}
use Rattle.records.specs.Stage.{stage, ◌does◌}
use Rattle.records.proofs.StageLaws.{onward, does-nothing}
use Rattle.places.specs.Layout.{size, legging_in, venue_of, SameCounts}
use Rattle.removal.specs.Causes.{remove_place, verdict_by, cause_at, verdict_in}
use Rattle.places.proofs.Beside.{counts-on}
use Rattle.places.proofs.Parts.{legging-at, leggings-length}

-- One place -----------------------------------------------------------------------------------

-- a verdict that leaves a place as it is
module _ (n : ℕ) (v : Venue) (l : Legging) (e : get_or v.legging n no_legging ≡ l) where
  pub remove-place-free : (c : Cause) → l.quantity ≡ 0 → nothing v ≡ remove_place n (Fails c) v
  unfolding remove_place nothing placed with_legging stay goes
  remove-place-free c h = simp (e, eq-eqb _ _ h)
      (ap (λ (ls : List Legging). record { venue = with_legging v ls; reports = [] })
      (sym (ap (λ (x : Legging). set v.legging n x) (sym e) ∙ set-get_or v.legging n no_legging)))

  pub remove-place-held : (c : Cause) → (l.quantity ≡ 0 → ⊥) → report (removed l.parent (n / 2) (n % 2) c) (placed n no_legging v) ≡ remove_place n (Fails c) v
  unfolding remove_place report stay goes
  remove-place-held c h = simp (e, ne_eqb _ _ h)

-- The places from n on ------------------------------------------------------------------------

pub remove_from : (ℕ → Legging → Verdict) → ℕ → Venue → Effect
remove_from f n v = record {
  venue = with_legging v (take n v.legging ++ stayers f n (drop n v.legging));
  reports = leavers f n (drop n v.legging);
}

module _ (f : ℕ → Legging → Verdict) (v : Venue) where
  pub remove-start : (w : Seen) → w does remove_from f 0 v ≡ w does remove f v
  unfolding remove_from remove
  remove-start w = refl

  pub remove-end : (n : ℕ) → length v.legging ≤ n → nothing v ≡ remove_from f n v
  unfolding remove_from nothing stayers leavers with_legging
  remove-end n h =
      let a : drop n v.legging ≡ [] = drop_of_length-le v.legging {i = n} h in
      let b : take n v.legging ≡ v.legging = take_all n v.legging h in
      rw (a, b, append-nil)

  -- nor is there anything to do where each of them stands
  all-stand : (n : ℕ) (ls : List Legging) → ((k : ℕ) (l : Legging) → n ≤ k → f k l ≡ Stands) → (stayers f n ls ≡ ls) × (leavers f n ls ≡ [])
  unfolding stayers leavers stay goes
  all-stand n [] h = (refl, refl)
  all-stand n (l ∷ ls) h =
      let e = h n l (omega arith) in
      let r = all-stand (suc n) ls (λ k x q. h k x (omega arith)) in
      (rw (e, r.0), rw (e, r.1))

  pub remove-over : (n : ℕ) → ((k : ℕ) (l : Legging) → n ≤ k → f k l ≡ Stands) → nothing v ≡ remove_from f n v
  unfolding remove_from nothing with_legging
  remove-over n h =
      let r = all-stand n (drop n v.legging) h in
      rw (r.0, r.1, take-append-drop n v.legging)

  -- one place, and then the rest
  module _ (n : ℕ) (x : Legging) (h : n < length v.legging) (e : get_or v.legging n no_legging ≡ x) where
    one_place : remove_from f n v ≡ (remove_place n (f n x) v ⟫ remove_from f (n + 1))
    unfolding remove_from ◌⟫◌ stayers leavers with_legging remove_place placed
    one_place =
        let ls = v.legging in
        let y = stay (f n x) x in
        let d : drop n ls ≡ x ∷ drop (suc n) ls = drop-cons ls n no_legging h ∙ ap (λ (z : Legging). z ∷ drop (suc n) ls) e in
        let t : take (suc n) (set ls n y) ≡ take n ls ++ (y ∷ []) = take-suc-set ls n y h in
        let u : drop (suc n) (set ls n y) ≡ drop (suc n) ls = drop-set-lt (suc n) ls n y (omega arith) in
        rw (add-one, d, e, t, u, append_assoc)

    -- a turn of the loop: the place is cleared by its verdict
    pub remove-turn : (y : Verdict) (w : Venue) (l m : List ℕ) (at j : ℕ) → f n x ≡ y → stage w l at ≡ seen m j does remove_place n y v →
        seen l at does remove_from f (n + 1) w ≡ seen m j does remove_from f n v
    remove-turn y w l m at j q p =
        sym (onward (seen m j) (remove_place n y v) (remove_from f (n + 1)) w l at p)
        ∙ ap (λ (z : Verdict). seen m j does (remove_place n z v ⟫ remove_from f (n + 1))) (sym q)
        ∙ ap (λ (z : Effect). seen m j does z) (sym one_place)

    -- or it stands
    stood : remove_place n Stands v ≡ nothing v
    unfolding remove_place nothing placed with_legging stay goes
    stood = ap (λ (ls : List Legging). record { venue = with_legging v ls; reports = [] }) (set-get_or v.legging n no_legging)

    pub remove-past : (l : List ℕ) (at : ℕ) → f n x ≡ Stands → seen l at does remove_from f (n + 1) v ≡ seen l at does remove_from f n v
    remove-past l at q = remove-turn Stands v l l at at q (does-nothing v l at ∙ ap (λ (z : Effect). seen l at does z) (sym stood))

-- The loop ------------------------------------------------------------------------------------

-- its invariant: what is left to do from place n on is what there was to do
pub record Removing (f : ℕ → Legging → Verdict) (b₀ out₀ : List ℕ) (at : ℕ) (b out : List ℕ) (pos n : ℕ) : Type 0 where
  pub few : n ≤ 16
  pub whole : length b ≡ size
  pub counts : SameCounts b₀ b
  pub left : seen out pos does remove_from f n (venue_of b) ≡ seen out₀ at does remove f (venue_of b₀)

pub removing-start : (f : ℕ → Legging → Verdict) (b out : List ℕ) (at : ℕ) → length b ≡ size → Removing f b out at b out at 0
removing-start f b out at h = record { few = omega arith; whole = h; counts = record { regulars = refl; complexes = refl; right = λ h. h }; left = remove-start f (venue_of b) (seen out at) }

module _ (f : ℕ → Legging → Verdict) {b₀ out₀ b out : List ℕ} {at pos n : ℕ} (i : Removing f b₀ out₀ at b out pos n) where
  -- the order at place n goes
  pub removing-turn : (c : Cause) (b₁ out₁ : List ℕ) (r : ℕ) → n < 16 → f n (legging_in b n) ≡ Fails c → length b₁ ≡ length b →
      (stage (venue_of b₁) out₁ r ≡ seen out pos does remove_place n (Fails c) (venue_of b)) × SameCounts b b₁ → Removing f b₀ out₀ at b₁ out₁ r (n + 1)
  removing-turn c b₁ out₁ r h e k q = record {
    few = omega arith;
    whole = k ∙ i.whole;
    counts = counts-on b₀ b b₁ i.counts q.1;
    left = remove-turn f (venue_of b) n (legging_in b n) (omega (arith, leggings-length b)) (legging-at b n h) (Fails c) (venue_of b₁) out₁ out r pos e q.0 ∙ i.left;
  }

  -- it stands
  pub removing-past : n < 16 → f n (legging_in b n) ≡ Stands → Removing f b₀ out₀ at b out pos (n + 1)
  removing-past h e = record {
    few = omega arith;
    whole = i.whole;
    counts = i.counts;
    left = remove-past f (venue_of b) n (legging_in b n) (omega (arith, leggings-length b)) (legging-at b n h) out pos e ∙ i.left;
  }

  -- nothing is left
  ended : nothing (venue_of b) ≡ remove_from f n (venue_of b) → (stage (venue_of b) out pos ≡ seen out₀ at does remove f (venue_of b₀)) × SameCounts b₀ b
  ended e = (does-nothing (venue_of b) out pos ∙ ap (λ (z : Effect). seen out pos does z) e ∙ i.left, i.counts)

  pub removing-end : 16 ≤ n → (stage (venue_of b) out pos ≡ seen out₀ at does remove f (venue_of b₀)) × SameCounts b₀ b
  removing-end h = ended (remove-end f (venue_of b) n (omega (arith, leggings-length b)))

  pub removing-over : ((k : ℕ) (l : Legging) → n ≤ k → f k l ≡ Stands) → (stage (venue_of b) out pos ≡ seen out₀ at does remove f (venue_of b₀)) × SameCounts b₀ b
  removing-over h = ended (remove-over f (venue_of b) n h)

-- Two places ----------------------------------------------------------------------------------

-- on to a later place, where those between stand
removing-to : (f : ℕ → Legging → Verdict) (b₀ out₀ b out : List ℕ) (at pos n : ℕ) → Removing f b₀ out₀ at b out pos n → (k m : ℕ) → m ≡ n + k → m ≤ 16 →
    ((j : ℕ) (l : Legging) → n ≤ j → j < m → f j l ≡ Stands) → Removing f b₀ out₀ at b out pos m
removing-to f b₀ out₀ b out at pos n i zero m e h g = let z : n ≡ m = omega arith in subst (λ (x : ℕ). Removing f b₀ out₀ at b out pos x) z i
removing-to f b₀ out₀ b out at pos n i (suc k) m e h g =
    removing-to f b₀ out₀ b out at pos (n + 1) (removing-past f i (omega arith) (g n (legging_in b n) (omega arith) (omega arith))) k m (omega arith) h
    (λ j l p q. g j l (omega arith) q)

module _ (f : ℕ → Legging → Verdict) (c : Cause) (b out : List ℕ) (at : ℕ) (w : length b ≡ size) (b₁ out₁ : List ℕ) (r : ℕ) (k : length b₁ ≡ length b) where
  pub one-gone : (n : ℕ) → n < 16 → ((l : Legging) → f n l ≡ Fails c) → ((m : ℕ) (l : Legging) → (m ≡ n → ⊥) → f m l ≡ Stands) →
      (stage (venue_of b₁) out₁ r ≡ seen out at does remove_place n (Fails c) (venue_of b)) × SameCounts b b₁ →
      (stage (venue_of b₁) out₁ r ≡ seen out at does remove f (venue_of b)) × SameCounts b b₁
  one-gone n h x s q =
      let i = removing-to f b out b out at at 0 (removing-start f b out at w) n n (omega arith) (omega arith) (λ j l _ p. s j l (λ e. omega arith)) in
      let j = removing-turn f i c b₁ out₁ r h (x (legging_in b n)) k q in
      removing-over f j (λ m l p. s m l (λ e. omega arith))

  pub two_gone : (n m : ℕ) → n < m → m < 16 → ((l : Legging) → f n l ≡ Fails c) → ((l : Legging) → f m l ≡ Fails c) →
      ((j : ℕ) (l : Legging) → (j ≡ n → ⊥) → (j ≡ m → ⊥) → f j l ≡ Stands) →
      (stage (venue_of b₁) out₁ r ≡ seen out at does remove_place n (Fails c) (venue_of b)) × SameCounts b b₁ →
      (b₂ out₂ : List ℕ) (t : ℕ) → length b₂ ≡ length b₁ → (stage (venue_of b₂) out₂ t ≡ seen out₁ r does remove_place m (Fails c)
      (venue_of b₁)) × SameCounts b₁ b₂ →
      (stage (venue_of b₂) out₂ t ≡ seen out at does remove f (venue_of b)) × SameCounts b b₂
  two_gone n m h g x y s q b₂ out₂ t k₂ q₂ =
      let i = removing-to f b out b out at at 0 (removing-start f b out at w) n n (omega arith) (omega arith) (λ j l _ p. s j l (λ e. omega arith)
      (λ e. omega arith)) in
      let i₁ = removing-turn f i c b₁ out₁ r (omega arith) (x (legging_in b n)) k q in
      let i₂ = removing-to f b out b₁ out₁ at r (n + 1) i₁ (m - (n + 1)) m (omega arith) (omega arith) (λ j l p u. s j l (λ e. omega arith)
      (λ e. omega arith)) in
      let i₃ = removing-turn f i₂ c b₂ out₂ t g (y (legging_in b₁ m)) k₂ q₂ in
      removing-over f i₃ (λ j l p. s j l (λ e. omega arith) (λ e. omega arith))

-- Verdicts ------------------------------------------------------------------------------------

-- by parent, of what is read at a place
module _ (id : ℕ) (c : Cause) {l x : Legging} (e : l ≡ x) where
  pub by-parent : l.parent ≡ id → fail_if (eqb x.parent id) c ≡ Fails c
  unfolding fail_if
  by-parent h = rw (← e) (simp (eq-eqb _ _ h))

  pub not-parent : (l.parent ≡ id → ⊥) → fail_if (eqb x.parent id) c ≡ Stands
  unfolding fail_if
  not-parent h = rw (← e) (simp (ne_eqb _ _ h))

-- by place
module _ (a n : ℕ) (c : Cause) where
  pub at_place : n ≡ a → fail_if (eqb n a) c ≡ Fails c
  unfolding fail_if
  at_place h = simp (eq-eqb _ _ h)

  pub at_other : (n ≡ a → ⊥) → fail_if (eqb n a) c ≡ Stands
  unfolding fail_if
  at_other h = simp (ne_eqb _ _ h)

module _ (a b n : ℕ) (c : Cause) where
  pub at_one : n ≡ a → fail_if (eqb n a || eqb n b) c ≡ Fails c
  unfolding fail_if
  at_one h = simp (eq-eqb _ _ h)

  pub at-two : n ≡ b → fail_if (eqb n a || eqb n b) c ≡ Fails c
  unfolding fail_if
  at-two h = go (eqb n a)
    where
      go : (t : Bool) → fail_if (t || eqb n b) c ≡ Fails c
      go true = refl
      go false = simp (eq-eqb _ _ h)

  pub at-neither : (n ≡ a → ⊥) → (n ≡ b → ⊥) → fail_if (eqb n a || eqb n b) c ≡ Stands
  unfolding fail_if
  at-neither h k = simp (ne_eqb _ _ h, ne_eqb _ _ k)

-- the number of a verdict, read back
pub verdict-back : (x : Verdict) → verdict_by (verdict_number x) ≡ x
unfolding verdict_by
verdict-back Stands = refl
verdict-back (Fails Worse) = refl
verdict-back (Fails Unpaired) = refl
verdict-back (Fails Executed) = refl
verdict-back (Fails Withdrawn) = refl
verdict-back (Fails OutOfBand) = refl
verdict-back (Fails NotOpen) = refl
verdict-back (Fails Replaced) = refl
verdict-back (Fails Touched) = refl
verdict-back (Fails NoUnit) = refl

-- The same verdicts, the same removal ---------------------------------------------------------

module _ (f g : ℕ → Legging → Verdict) where
  same_from : (n : ℕ) (ls : List Legging) → ((i : ℕ) → i < length ls → f (n + i) (get_or ls i no_legging) ≡ g (n + i) (get_or ls i no_legging)) →
      (stayers f n ls ≡ stayers g n ls) × (leavers f n ls ≡ leavers g n ls)
  unfolding stayers leavers
  same_from n [] h = (refl, refl)
  same_from n (l ∷ ls) h =
      let z : n + 0 ≡ n = omega arith in
      let e : f n l ≡ g n l = rw z at (h 0 (omega arith)) in
      let r = same_from (suc n) ls (λ i q. let y : n + suc i ≡ suc n + i = omega arith in rw y at (h (suc i) (omega arith))) in
      (rw (e, r.0), rw (e, r.1))

  -- verdicts that agree on what stands at each place
  remove-same : (v : Venue) → ((n : ℕ) → n < length v.legging → f n (get_or v.legging n no_legging) ≡ g n (get_or v.legging n no_legging)) → remove f v ≡ remove g v
  unfolding remove
  remove-same v h =
      let r = same_from 0 v.legging (λ i q. let z : 0 + i ≡ i = omega arith in rw z (h i q)) in
      rw (r.0, r.1)

-- Causes ---------------------------------------------------------------------------------------

no-cause : (rest n : ℕ) → rest ≡ 0 → cause_at rest n ≡ 0
unfolding cause_at
no-cause rest zero h = omega arith
no-cause rest (suc n) h = no-cause (rest / 16) n (omega arith)

-- what is left of the causes at place n: those of the places from n on
pub record Left (causes rest n : ℕ) : Type 0 where
  pub small : rest < 16 ^ (16 - n)
  pub same : (k : ℕ) → cause_at rest k ≡ cause_at causes (n + k)

pub left-start : (causes : ℕ) → causes < 18446744073709551616 → Left causes causes 0
left-start causes h = record { small = h; same = λ k. let y : k ≡ 0 + k = omega arith in ap (cause_at causes) y }

module _ {causes rest n : ℕ} (i : Left causes rest n) where
  pub left-few : n ≤ 16 → 0 < rest → n < 16
  left-few h q = go (ℕ_discrete n 16)
    where
      go : Dec (n ≡ 16) → n < 16
      go (yes e) = let z : rest < 16 ^ (16 - 16) = rw e at i.small in absurd (omega arith)
      go (no e) = omega arith

  pub left-on : n < 16 → Left causes (rest / 16) (n + 1)
  unfolding cause_at
  left-on h =
      let z : 16 - n ≡ suc (16 - (n + 1)) = omega arith in
      let s : rest < 16 ^ suc (16 - (n + 1)) = rw z at i.small in
      record { small = omega arith; same = λ k. let y : n + suc k ≡ n + 1 + k = omega arith in i.same (suc k) ∙ ap (cause_at causes) y }

  -- the verdict of place n
  pub left_here : (l : Legging) → verdict_in causes n l ≡ verdict_by (rest % 16)
  unfolding verdict_in cause_at
  left_here l =
      let z : n + 0 ≡ n = omega arith in
      ap verdict_by (sym (i.same 0 ∙ ap (cause_at causes) z))

  -- where nothing is left, the places from n on stand
  pub left_over : rest ≡ 0 → (k : ℕ) (l : Legging) → n ≤ k → verdict_in causes k l ≡ Stands
  unfolding verdict_in verdict_by
  left_over h k l q =
      let z : k ≡ n + (k - n) = omega arith in
      ap verdict_by (ap (cause_at causes) z ∙ sym (i.same (k - n)) ∙ no-cause rest (k - n) h)

-- no causes remove nothing
pub no-causes : (causes : ℕ) (v : Venue) → causes ≡ 0 → nothing v ≡ remove (verdict_in causes) v
unfolding verdict_in verdict_by remove_from remove
no-causes causes v h = remove-over (verdict_in causes) v 0 (λ k l q. ap verdict_by (no-cause causes k h))

-- causes that are the numbers of f's verdicts remove by f
pub causes-are : (f : ℕ → Legging → Verdict) (causes : ℕ) (b : List ℕ) → ((n : ℕ) → n < 16 → cause_at causes n ≡ verdict_number (f n (legging_in b n))) →
    remove (verdict_in causes) (venue_of b) ≡ remove f (venue_of b)
unfolding verdict_in
causes-are f causes b h = remove-same (verdict_in causes) f (venue_of b) (λ n q. go n (omega (arith, leggings-length b)))
  where
    go : (n : ℕ) → n < 16 → verdict_in causes n (get_or (venue_of b).legging n no_legging) ≡ f n (get_or (venue_of b).legging n no_legging)
    go n q = ap verdict_by (h n q) ∙ verdict-back (f n (legging_in b n)) ∙ ap (f n) (sym (legging-at b n q))

-- Where nothing is held, nothing goes ---------------------------------------------------------

module _ (f : ℕ → Legging → Verdict) where
  free_stays : (x : Verdict) (l : Legging) (n : ℕ) → l.quantity ≡ 0 → (stay x l ≡ l) × (goes n x l ≡ [])
  unfolding stay goes
  free_stays Stands l n h = (refl, refl)
  free_stays (Fails c) l n h = (simp (eq-eqb _ _ h), simp (eq-eqb _ _ h))

  empty-from : (n : ℕ) (ls : List Legging) → mask ls ≡ 0 → (stayers f n ls ≡ ls) × (leavers f n ls ≡ [])
  unfolding stayers leavers mask
  empty-from n [] h = (refl, refl)
  empty-from n (l ∷ ls) h = go (eqb l.quantity 0) refl h (λ e. empty-from (suc n) ls e)
    where
      go : (t : Bool) → eqb l.quantity 0 ≡ t → (if not t then 1 else 0) + 2 * mask ls ≡ 0 →
          (mask ls ≡ 0 → (stayers f (suc n) ls ≡ ls) × (leavers f (suc n) ls ≡ [])) →
          (stay (f n l) l ∷ stayers f (suc n) ls ≡ l ∷ ls) × (goes n (f n l) l ++ leavers f (suc n) ls ≡ [])
      go true e k rest =
          let s = free_stays (f n l) l n (eqb-true _ _ e) in
          let r = rest (omega arith) in
          (rw (s.0, r.0), rw (s.1, r.1))
      go false e k rest = absurd (omega arith)

  -- a removal from no legging orders does nothing
  pub remove-none : (v : Venue) → mask v.legging ≡ 0 → remove f v ≡ nothing v
  unfolding remove nothing with_legging
  remove-none v h =
      let r = empty-from 0 v.legging h in
      rw (r.0, r.1)
