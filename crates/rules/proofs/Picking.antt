-- What `first` picks: a candidate at its place before which no candidate ranks, or nobody where no element is a candidate.
use Rattle.std.specs.Prelude.{if◌then◌else◌}
use mathlib.Core.Path.{◌≡◌, refl, sym, subst, ◌∙◌}
use mathlib.Core.Bool.{Bool, true, false, true≢false}
use mathlib.Core.List.{List, [], ◌∷◌}
use Prim.Native.Nat.{ℕ, zero, suc, ◌+◌, ◌<◌}
use native.Mathlib.Nat.{zero-add}
use native.Mathlib.Omega.{arith}
use lib.ListN.{get_or, length, set}
use Rattle.rules.specs.Base.{Choice, nobody, picked, ranked, first_from, first}

module _ {A : Type 0} (d : A) (candidate : A → Bool) where
  -- a is the candidate at place i of l
  pub record At (l : List A) (i : ℕ) (a : A) : Type 0 where
    pub fits : i < length l
    pub at : get_or l i d ≡ a
    pub is : candidate a ≡ true

  -- what is picked from l, the places of which begin at n
  ChosenFrom : ℕ → List A → Choice A → Type 0
  ChosenFrom n l nobody = (i : ℕ) → i < length l → candidate (get_or l i d) ≡ false
  ChosenFrom n l (picked j a) = (i : ℕ) × (j ≡ n + i) × At l i a

  abbrev pub Chosen : List A → Choice A → Type 0
  Chosen l nobody = (i : ℕ) → i < length l → candidate (get_or l i d) ≡ false
  Chosen l (picked i a) = At l i a

  module _ (before : A → A → Bool) where
    past : (n : ℕ) (a : A) (l : List A) (x : Choice A) → candidate a ≡ false → ChosenFrom (suc n) l x → ChosenFrom n (a ∷ l) x
    unfolding ChosenFrom
    past n a l nobody e h = λ i. elim i as (λ k. k < length (a ∷ l) → candidate (get_or (a ∷ l) k d) ≡ false) [ zero ↦ λ _. e | suc j ↦ λ q. h j (omega arith) ]
    past n a l (picked j b) e h =
        let z = h.1 in
        (suc h.0, omega arith, record { fits = let f = h.2.fits in omega arith; at = h.2.at; is = h.2.is })

    onto : (n : ℕ) (a : A) (l : List A) (x : Choice A) → candidate a ≡ true → ChosenFrom (suc n) l x → ChosenFrom n (a ∷ l) (ranked before n a x)
    unfolding ranked ChosenFrom
    onto n a l nobody e h = (0, omega arith, record { fits = omega arith; at = refl; is = e })
    onto n a l (picked j b) e h = go (before b a)
      where
        go : (t : Bool) → ChosenFrom n (a ∷ l) (if t then picked j b else picked n a)
        go true =
            let z = h.1 in
            (suc h.0, omega arith, record { fits = let f = h.2.fits in omega arith; at = h.2.at; is = h.2.is })
        go false = (0, omega arith, record { fits = omega arith; at = refl; is = e })

    first-from : (n : ℕ) (l : List A) → ChosenFrom n l (first_from candidate before n l)
    unfolding first_from ChosenFrom
    first-from n [] = λ i q. absurd (omega arith)
    first-from n (a ∷ l) = go (candidate a) refl (first-from (suc n) l)
      where
        go : (t : Bool) → candidate a ≡ t → ChosenFrom (suc n) l (first_from candidate before (suc n) l) →
            ChosenFrom n (a ∷ l) (if t then ranked before n a (first_from candidate before (suc n) l) else first_from candidate before (suc n) l)
        go true e h = onto n a l (first_from candidate before (suc n) l) e h
        go false e h = past n a l (first_from candidate before (suc n) l) e h

    whole : (l : List A) (x : Choice A) → ChosenFrom 0 l x → Chosen l x
    unfolding ChosenFrom
    whole l nobody h = h
    whole l (picked j a) h = rw (h.1, zero-add) h.2

    -- the pick is a candidate, and where there is none no element is one
    pub first-chosen : (l : List A) → Chosen l (first candidate before l)
    first-chosen l = whole l _ (first-from 0 l)

-- Rank, among candidates: of two none ranks before the other both ways, and what ranks before a candidate ranks before any third or that third before it.
module _ {A : Type 0} (candidate : A → Bool) (before : A → A → Bool) where
  pub record Ranks : Type 0 where
    pub asym : (a b : A) → candidate a ≡ true → candidate b ≡ true → before a b ≡ true → before b a ≡ false
    pub cotrans : (a b c : A) → candidate a ≡ true → candidate b ≡ true → candidate c ≡ true →
        before a b ≡ true → before a c ≡ false → before c b ≡ true

module _ {A : Type 0} (d : A) (candidate : A → Bool) (before : A → A → Bool) (ranks : Ranks candidate before) where
  -- no candidate of l ranks before what is picked
  Least : List A → Choice A → Type 0
  Least l nobody = Unit {0}
  Least l (picked j a) = (candidate a ≡ true) × ((i : ℕ) → i < length l → candidate (get_or l i d) ≡ true → before (get_or l i d) a ≡ false)

  self : (a : A) → candidate a ≡ true → before a a ≡ false
  self a c = go (before a a) refl
    where
      go : (t : Bool) → before a a ≡ t → before a a ≡ false
      go true e = ranks.asym a a c c e
      go false e = e

  least-past : (a : A) (l : List A) (x : Choice A) → candidate a ≡ false → Least l x → Least (a ∷ l) x
  unfolding Least
  least-past a l nobody e h = tt
  least-past a l (picked j b) e h = (h.0, λ i. elim i as (λ j. j < length (a ∷ l) → candidate (get_or (a ∷ l) j d) ≡ true → before (get_or (a ∷ l) j d) b ≡ false) [ zero ↦ λ _ c. absurd (true≢false (sym c ∙ e)) | suc k ↦ λ q c. h.1 k (omega arith) c ])

  least-onto : (n : ℕ) (a : A) (l : List A) (x : Choice A) → candidate a ≡ true → ((i : ℕ) → i < length l → candidate (get_or l i d) ≡ true → x ≡ nobody → ⊥) →
      Least l x → Least (a ∷ l) (ranked before n a x)
  unfolding Least ranked
  least-onto n a l nobody e some h = (e, λ i. elim i as (λ j. j < length (a ∷ l) → candidate (get_or (a ∷ l) j d) ≡ true → before (get_or (a ∷ l) j d) a ≡ false) [ zero ↦ λ _ _. self a e | suc k ↦ λ q c. absurd (some k (omega arith) c refl) ])
  least-onto n a l (picked j b) e some h = go (before b a) refl
    where
      kept : before b a ≡ true → Least (a ∷ l) (picked j b)
      kept t = (h.0, λ i. elim i as (λ j. j < length (a ∷ l) → candidate (get_or (a ∷ l) j d) ≡ true → before (get_or (a ∷ l) j d) b ≡ false) [ zero ↦ λ _ _. ranks.asym b a h.0 e t | suc k ↦ λ q c. h.1 k (omega arith) c ])

      other : before b a ≡ false → (k : ℕ) → k < length l → candidate (get_or l k d) ≡ true → (u : Bool) → before (get_or l k d) a ≡ u → before (get_or l k d) a ≡ false
      other t k q c true w = absurd (true≢false (sym (ranks.cotrans (get_or l k d) a b c e h.0 w (h.1 k q c)) ∙ t))
      other t k q c false w = w

      go : (t : Bool) → before b a ≡ t → Least (a ∷ l) (if t then picked j b else picked n a)
      go true t = kept t
      go false t = (e, λ i. elim i as (λ j. j < length (a ∷ l) → candidate (get_or (a ∷ l) j d) ≡ true → before (get_or (a ∷ l) j d) a ≡ false) [ zero ↦ λ _ _. self a e | suc k ↦ λ q c. other t k (omega arith) c (before (get_or l k d) a) refl ])

  least-from : (n : ℕ) (l : List A) → Least l (first_from candidate before n l)
  unfolding first_from Least ChosenFrom
  least-from n [] = tt
  least-from n (a ∷ l) = go (candidate a) refl (least-from (suc n) l) (first-from d candidate before (suc n) l)
    where
      some : (x : Choice A) → ChosenFrom d candidate (suc n) l x → (i : ℕ) → i < length l → candidate (get_or l i d) ≡ true → x ≡ nobody → ⊥
      some nobody h i q c r = true≢false (sym c ∙ h i q)
      some (picked j b) h i q c r = let z : ◌≡◌ {A = ℕ} 0 1 = cc in omega arith

      go : (t : Bool) → candidate a ≡ t → Least l (first_from candidate before (suc n) l) → ChosenFrom d candidate (suc n) l (first_from candidate before (suc n) l) →
          Least (a ∷ l) (if t then ranked before n a (first_from candidate before (suc n) l) else first_from candidate before (suc n) l)
      go true e h k = least-onto n a l (first_from candidate before (suc n) l) e (some (first_from candidate before (suc n) l) k) h
      go false e h k = least-past a l (first_from candidate before (suc n) l) e h

  -- the pick is the first in rank
  pub first-least : (l : List A) (j : ℕ) (a : A) → first candidate before l ≡ picked j a →
      (i : ℕ) → i < length l → candidate (get_or l i d) ≡ true → before (get_or l i d) a ≡ false
  unfolding Least
  first-least l j a e = (subst (λ (x : Choice A). Least l x) e (least-from 0 l)).1

-- a place whose old and new element are no candidates is passed over
module _ {A : Type 0} (d : A) (candidate : A → Bool) (before : A → A → Bool) where
  pub first-set : (n : ℕ) (l : List A) (i : ℕ) (x : A) → candidate (get_or l i d) ≡ false → candidate x ≡ false →
      first_from candidate before n (set l i x) ≡ first_from candidate before n l
  unfolding first_from
  first-set n [] i x a b = refl
  first-set n (y ∷ l) zero x a b = rw (a, b)
  first-set n (y ∷ l) (suc i) x a b = rw (first-set (suc n) l i x a b)
