-- A limited sweep by place: where ids rise with the places and all in use are held, going round by id is going on from the first place above the id
-- reached to the last in use, and then from place 0 on.
use mathlib.Core.Path.{◌≡◌, refl, sym, ap, ap₂, ◌∙◌}
use mathlib.Core.Bool.{Bool, true, false, not, ◌&&◌, false≢true}
use mathlib.Core.List.{List, [], ◌∷◌, ◌++◌, append_assoc, append-nil}
use Prim.Native.Nat.{ℕ, zero, suc, ◌+◌, ◌-◌, ◌≤◌, ◌<◌}
use native.Mathlib.Omega.{arith}
use native.Mathlib.Decide.{dec_lt}
use lib.Dec.{ltb}
use lib.ListN.{get_or, length, length-append, take}
use borrow.Author.Tests.{lt-ltb, le-ltb}
use Rattle.rules.specs.declared.Complex.{Complex}
use Rattle.rules.specs.declared.Venue.{Venue}
use Rattle.rules.specs.Base.{held}
use Rattle.rules.specs.Words.{no_complex, complex_at, with_reached}
use Rattle.rules.specs.Records.{Report, looked}
use Rattle.rules.specs.Effects.{Effect, nothing, report, ◌⟫◌}
use Rattle.rules.specs.Standing.{settle}
use Rattle.rules.specs.Generation.{generate}
use Rattle.rules.specs.Complex.{work, places_of, going_round, examined, id_reached, each_of, limited_sweep}
use Rattle.rules.proofs.Sweeping.{then_same}
use Rattle.rules.proofs.Traffic.{looked-count}
use Rattle.records.specs.Seen.{seen, ◌writes◌}
use Rattle.records.specs.Stage.{stage, ◌does◌}
use Rattle.records.proofs.StageLaws.{follow, does-report}
use Rattle.places.specs.Layout.{complexes_used, complex_in, venue_of, Dense}
use Rattle.places.proofs.Parts.{complex-at, complex-past}
use Rattle.sweeps.specs.declared.Round.{Round}
use Rattle.sweeps.specs.Rising.{Rising}
use Rattle.sweeps.specs.Round.{places_from, round_places}

-- The places of a test ------------------------------------------------------------------------

-- where the orders that rest and pass a test are those from place `low` up to `high`
pub places-within : (f : Complex → Bool) (n low high : ℕ) (l : List Complex) → low ≤ high →
    ((i : ℕ) → i < low → (held (get_or l i no_complex).quantity && f (get_or l i no_complex)) ≡ false) →
    ((i : ℕ) → low ≤ i → i < high → (held (get_or l i no_complex).quantity && f (get_or l i no_complex)) ≡ true) →
    ((i : ℕ) → high ≤ i → (held (get_or l i no_complex).quantity && f (get_or l i no_complex)) ≡ false) →
    places_from (n + low) (high - low) ≡ places_of f n l
unfolding places_of places_from
places-within f n low high [] h a m z = go (dec_lt low high)
  where
    go : Dec (low < high) → places_from (n + low) (high - low) ≡ []
    go (yes y) = absurd (false≢true (m low (omega arith) y))
    go (no y) = let e : high - low ≡ 0 = omega arith in ap (places_from (n + low)) e
places-within f n zero zero (c ∷ l) h a m z =
    rw (z 0 (omega arith)) (places-within f (suc n) 0 0 l h (λ i q. absurd (omega arith)) (λ i p q. absurd (omega arith)) (λ i q. z (suc i) (omega arith)))
places-within f n zero (suc high) (c ∷ l) h a m z =
    let e : n + 0 ≡ n = omega arith in
    let r : suc high - 0 ≡ suc high = omega arith in
    let s : suc n ≡ suc n + 0 = omega arith in
    let t : high ≡ high - 0 = omega arith in
    rw (m 0 (omega arith) (omega arith))
    (ap₂ places_from e r ∙ ap (λ (x : List ℕ). n ∷ x)
    (ap₂ places_from s t ∙ places-within f (suc n) 0 high l (omega arith) (λ i q. absurd (omega arith)) (λ i p q. m (suc i) (omega arith) (omega arith)) (λ i q. z (suc i) (omega arith))))
places-within f n (suc low) zero (c ∷ l) h a m z = absurd (omega arith)
places-within f n (suc low) (suc high) (c ∷ l) h a m z =
    let e : n + suc low ≡ suc n + low = omega arith in
    let r : suc high - suc low ≡ high - low = omega arith in
    rw (a 0 (omega arith))
    (ap₂ places_from e r ∙ places-within f (suc n) low high l (omega arith) (λ i q. a (suc i) (omega arith)) (λ i p q. m (suc i) (omega arith) (omega arith)) (λ i q. z (suc i) (omega arith)))

module _ (b : List ℕ) (d : Dense b) (s : Rising (venue_of b).complex) (k : ℕ) (within : k ≤ complexes_used b)
    (low : (i : ℕ) → i < k → (complex_in b i).id ≤ (venue_of b).reached) (next : k < complexes_used b → (venue_of b).reached < (complex_in b k).id) where
  -- what stands at a place in use, and at one past them
  here : (i : ℕ) → i < complexes_used b → get_or (venue_of b).complex i no_complex ≡ complex_in b i
  here i h = unfold complex_at in (complex-at b i h)

  past : (i : ℕ) → complexes_used b ≤ i → get_or (venue_of b).complex i no_complex ≡ no_complex
  past i h = unfold complex_at in (complex-past b i h)

  holds : (i : ℕ) → i < complexes_used b → held (get_or (venue_of b).complex i no_complex).quantity ≡ true
  holds i h = rw (here i h) (d.complexes i h)

  high : (i : ℕ) → k ≤ i → i < complexes_used b → (venue_of b).reached < (complex_in b i).id
  high i p q = go (dec_lt k i)
    where
      go : Dec (k < i) → (venue_of b).reached < (complex_in b i).id
      go (yes y) =
          let n = next (omega arith) in
          let r = s.rises k i y (holds k (omega arith)) (holds i q) in
          let e = ap (λ (c : Complex). c.id) (here k (omega arith)) in
          let f = ap (λ (c : Complex). c.id) (here i q) in
          omega arith
      go (no y) = let e : k ≡ i = omega arith in rw (← e) (next (omega arith))

  low-not : (i : ℕ) → i < k → ltb (venue_of b).reached (get_or (venue_of b).complex i no_complex).id ≡ false
  low-not i h = rw (here i (omega arith)) (le-ltb (venue_of b).reached (complex_in b i).id (low i h))

  high_is : (i : ℕ) → k ≤ i → i < complexes_used b → ltb (venue_of b).reached (get_or (venue_of b).complex i no_complex).id ≡ true
  high_is i p q = rw (here i q) (lt-ltb (venue_of b).reached (complex_in b i).id (high i p q))

  pub going-round : places_from k (complexes_used b - k) ++ places_from 0 k ≡ going_round (venue_of b)
  unfolding going_round
  going-round =
      let e : k ≡ 0 + k = omega arith in
      let r : k ≡ k - 0 = omega arith in
      ap₂ (λ (x y : List ℕ). x ++ y)
      (ap (λ (j : ℕ). places_from j (complexes_used b - k)) e
      ∙ places-within (λ c. ltb (venue_of b).reached c.id) 0 k (complexes_used b) (venue_of b).complex within
      (λ i h. rw (holds i (omega arith), low-not i h))
      (λ i p q. rw (holds i q, high_is i p q))
      (λ i h. rw (past i h)))
      (ap (places_from 0) r
      ∙ places-within (λ c. not (ltb (venue_of b).reached c.id)) 0 0 k (venue_of b).complex (omega arith)
      (λ i h. absurd (omega arith))
      (λ i p q. rw (holds i (omega arith), low-not i q))
      (λ i p. others i p (dec_lt i (complexes_used b))))
    where
      others : (i : ℕ) → k ≤ i → Dec (i < complexes_used b) →
          (held (get_or (venue_of b).complex i no_complex).quantity && not (ltb (venue_of b).reached (get_or (venue_of b).complex i no_complex).id)) ≡ false
      others i p (yes q) = rw (holds i q, high_is i p q)
      others i p (no q) = rw (past i (omega arith))

-- The first n of them -------------------------------------------------------------------------

-- n is within the first places
pub round-within : (n k a : ℕ) (rest : List ℕ) → n ≤ a → places_from k n ++ places_from 0 0 ≡ take n (places_from k a ++ rest)
unfolding places_from
round-within zero k a rest h = refl
round-within (suc n) k zero rest h = absurd (omega arith)
round-within (suc n) k (suc a) rest h = ap (λ (l : List ℕ). k ∷ l) (round-within n (suc k) a rest (omega arith))

first-few : (n k a : ℕ) → n ≤ a → places_from k n ≡ take n (places_from k a)
unfolding places_from
first-few zero k a h = refl
first-few (suc n) k zero h = absurd (omega arith)
first-few (suc n) k (suc a) h = ap (λ (l : List ℕ). k ∷ l) (first-few n (suc k) a (omega arith))

first-all : (n k a : ℕ) → a ≤ n → places_from k a ≡ take n (places_from k a)
unfolding places_from
first-all zero k zero h = refl
first-all (suc n) k zero h = refl
first-all zero k (suc a) h = absurd (omega arith)
first-all (suc n) k (suc a) h = ap (λ (l : List ℕ). k ∷ l) (first-all n (suc k) a (omega arith))

first_past : (n m k a : ℕ) (rest : List ℕ) → n ≡ m + a → places_from k a ++ take m rest ≡ take n (places_from k a ++ rest)
unfolding places_from
first_past n m k zero rest e = let h : m ≡ n = omega arith in ap (λ (j : ℕ). take j rest) h
first_past zero m k (suc a) rest e = absurd (omega arith)
first_past (suc n) m k (suc a) rest e = ap (λ (l : List ℕ). k ∷ l) (first_past n m (suc k) a rest (omega arith))

-- the round goes on at place 0, to `m` places or to all that are left
pub round-on : (n m k a o : ℕ) → n ≡ m + a → m ≤ o → places_from k a ++ places_from 0 m ≡ take n (places_from k a ++ places_from 0 o)
round-on n m k a o e h = ap (λ (l : List ℕ). places_from k a ++ l) (first-few m 0 o h) ∙ first_past n m k a (places_from 0 o) e

pub round_whole : (n m k a o : ℕ) → n ≡ m + a → o ≤ m → places_from k a ++ places_from 0 o ≡ take n (places_from k a ++ places_from 0 o)
round_whole n m k a o e h = ap (λ (l : List ℕ). places_from k a ++ l) (first-all m 0 o h) ∙ first_past n m k a (places_from 0 o) e

-- How many, and the last ----------------------------------------------------------------------

from-length : (k n : ℕ) → length (places_from k n) ≡ n
unfolding places_from
from-length k zero = refl
from-length k (suc n) = ap (λ (j : ℕ). suc j) (from-length (suc k) n)

pub round-examined : (n : ℕ) (v : Venue) (r : Round) → round_places r ≡ take n (going_round v) → r.above + r.others ≡ examined n v
unfolding round_places
round-examined n v r e =
    let a = from-length r.first r.above in
    let o = from-length 0 r.others in
    let l = length-append (places_from r.first r.above) (places_from 0 r.others) in
    let x = ap length e in
    let y = looked-count n v in
    omega arith

last-after : (v : Venue) (a : List ℕ) (j : ℕ) (l : List ℕ) → id_reached v (a ++ (j ∷ l)) ≡ id_reached v (j ∷ l)
unfolding id_reached
last-after v [] j l = refl
last-after v (i ∷ []) j l = refl
last-after v (i ∷ k ∷ a) j l = last-after v (k ∷ a) j l

last-from : (v : Venue) (k n : ℕ) → (complex_at v (k + n)).id ≡ id_reached v (places_from k (suc n))
unfolding id_reached places_from
last-from v k zero = let e : k + 0 ≡ k = omega arith in ap (λ (j : ℕ). (complex_at v j).id) e
last-from v k (suc n) = let e : k + suc n ≡ suc k + n = omega arith in ap (λ (j : ℕ). (complex_at v j).id) e ∙ last-from v (suc k) n

module _ (b : List ℕ) (r : Round) (i : ℕ) (c : Complex) (e : c ≡ complex_in b i) (h : i < complexes_used b) where
  at_place : c.id ≡ (complex_at (venue_of b) i).id
  at_place = ap (λ (x : Complex). x.id) (e ∙ sym (complex-at b i h))

  pub last-other : suc i ≡ r.others → c.id ≡ id_reached (venue_of b) (round_places r)
  unfolding round_places places_from
  last-other o =
      let z : i ≡ 0 + i = omega arith in
      at_place ∙ ap (λ (j : ℕ). (complex_at (venue_of b) j).id) z ∙ last-from (venue_of b) 0 i
      ∙ sym (last-after (venue_of b) (places_from r.first r.above) 0 (places_from 1 i))
      ∙ ap (λ (n : ℕ). id_reached (venue_of b) (places_from r.first r.above ++ places_from 0 n)) o

  pub last-above : (n : ℕ) → suc n ≡ r.above → i ≡ r.first + n → r.others ≡ 0 → c.id ≡ id_reached (venue_of b) (round_places r)
  unfolding round_places places_from
  last-above n a f o =
      at_place ∙ ap (λ (j : ℕ). (complex_at (venue_of b) j).id) f ∙ last-from (venue_of b) r.first n
      ∙ ap (λ (m : ℕ). id_reached (venue_of b) (places_from r.first m)) a
      ∙ ap (id_reached (venue_of b)) (sym (append-nil (places_from r.first r.above)))
      ∙ ap (λ (m : ℕ). id_reached (venue_of b) (places_from r.first r.above ++ places_from 0 m)) (sym o)

pub last_none : (v : Venue) (r : Round) → r.above ≡ 0 → r.others ≡ 0 → v.reached ≡ id_reached v (round_places r)
unfolding round_places places_from id_reached
last_none v r a o = rw (a, o)

-- One place after the other -------------------------------------------------------------------

module _ (f : ℕ → Venue → Effect) where
  pub each_of-none : (v : Venue) (k n : ℕ) → n ≡ 0 → nothing v ≡ each_of f (places_from k n) v
  unfolding each_of places_from
  each_of-none v k n e = rw e

  pub each_of-turn : (v : Venue) (s n k j : ℕ) → suc n ≡ s → suc k ≡ j → each_of f (places_from k s) v ≡ (f k v ⟫ each_of f (places_from j n))
  unfolding each_of places_from
  each_of-turn v s n k j e h = rw (← e, ← h)

  then-then : (e : Effect) (g h : Venue → Effect) → (e ⟫ (λ w. g w ⟫ h)) ≡ (e ⟫ g ⟫ h)
  unfolding ◌⟫◌
  then-then e g h =
      let w = (g e.venue).venue in
      ap (λ (rs : List Report). record { venue = (h w).venue; reports = rs }) (sym (append_assoc e.reports (g e.venue).reports (h w).reports))

  -- some places and then others
  pub each_of-join : (a l : List ℕ) (v : Venue) → (each_of f a v ⟫ each_of f l) ≡ each_of f (a ++ l) v
  unfolding each_of
  each_of-join [] l v = unfold nothing ◌⟫◌ in refl
  each_of-join (i ∷ a) l v =
      sym (then-then (f i v) (each_of f a) (each_of f l)) ∙ then_same (f i v) (λ w. each_of f a w ⟫ each_of f l) (each_of f (a ++ l)) (each_of-join a l (f i v).venue)

-- The whole -----------------------------------------------------------------------------------

-- the count is told, the orders at its places are worked, settling is done once, and then they generate
pub limited-law : (number n x id : ℕ) (places : List ℕ) (v v₁ v₂ v₃ v₄ : Venue) (l₀ l₁ l₂ l₃ l₄ : List ℕ) (a₀ a₁ a₂ a₃ a₄ : ℕ) →
    places ≡ take n (going_round v) → x ≡ examined n v → id ≡ id_reached v places → v₁ ≡ with_reached v id →
    seen l₁ a₁ ≡ seen l₀ a₀ writes (looked x ∷ []) →
    stage v₂ l₂ a₂ ≡ seen l₁ a₁ does each_of work places v₁ →
    stage v₃ l₃ a₃ ≡ seen l₂ a₂ does settle v₂ →
    stage v₄ l₄ a₄ ≡ seen l₃ a₃ does each_of (generate number) places v₃ →
    stage v₄ l₄ a₄ ≡ seen l₀ a₀ does limited_sweep number n v
unfolding limited_sweep
limited-law number n x id places v v₁ v₂ v₃ v₄ l₀ l₁ l₂ l₃ l₄ a₀ a₁ a₂ a₃ a₄ ep ex ei ev t w s g =
    let tells : List ℕ → Effect = λ ps. report (looked (examined n v)) (with_reached v (id_reached v ps)) in
    let told : stage v₁ l₁ a₁ ≡ seen l₀ a₀ does tells places =
    does-report v₁ l₁ l₀ a₁ a₀ (looked x) t ∙ ap₂ (λ (k : ℕ) (u : Venue). seen l₀ a₀ does report (looked k) u) ex (ev ∙ ap (with_reached v) ei) in
    follow (seen l₀ a₀) (tells places ⟫ each_of work places ⟫ settle) (each_of (generate number) places) v₃ v₄ l₃ l₄ a₃ a₄
    (follow (seen l₀ a₀) (tells places ⟫ each_of work places) settle v₂ v₃ l₂ l₃ a₂ a₃
    (follow (seen l₀ a₀) (tells places) (each_of work places) v₁ v₂ l₁ l₂ a₁ a₂ told w) s) g
    ∙ ap (λ (ps : List ℕ). seen l₀ a₀ does (tells ps ⟫ each_of work ps ⟫ settle ⟫ each_of (generate number) ps)) ep
