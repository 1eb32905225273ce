-- Laws of a search for the first place that passes a test, among the places in use.
use Rattle.std.specs.Prelude.{if◌then◌else◌, Option, Some, None, is_some}
use mathlib.Core.Path.{◌≡◌, refl, ap, ◌∙◌}
use mathlib.Core.Bool.{Bool, true, false}
use mathlib.Core.List.{List, [], ◌∷◌}
use Prim.Native.Nat.{ℕ, zero, suc, ◌+◌, ◌≤◌, ◌<◌}
use native.Mathlib.Omega.{arith}
use native.Mathlib.Decide.{dec_lt, ℕ_discrete}
use lib.ListN.{length, get_or}
use Rattle.rules.specs.Base.{place_where}
use Rattle.rules.specs.declared.Venue.{Venue}
use Rattle.rules.specs.Words.{no_regular, no_complex, is_regular_of, is_complex_of}
use Rattle.rules.specs.Complex.{regular_place, complex_place, rests_regular, rests_complex}
use Rattle.places.specs.Layout.{in_use}
use Rattle.places.proofs.Tables.{used-at, used-free, used-length}
use Rattle.book.specs.Picks.{regular_found, complex_found}

module _ {A : Type 0} (f : A → Bool) (d : A) where
  -- the first place that passes
  pub place_is : (l : List A) (i : ℕ) → i < length l → f (get_or l i d) ≡ true → ((j : ℕ) → j < i → f (get_or l j d) ≡ false) → place_where f l ≡ i
  unfolding place_where
  place_is [] i h e k = absurd (omega arith)
  place_is (x ∷ l) zero h e k = rw e
  place_is (x ∷ l) (suc i) h e k = rw (k 0 (omega arith)) (ap suc (place_is l i (omega arith) e (λ j q. k (suc j) (omega arith))))

  -- none before it does
  pub where-first : (l : List A) (j : ℕ) → j < place_where f l → f (get_or l j d) ≡ false
  unfolding place_where
  where-first [] j h = absurd (omega arith)
  where-first (x ∷ l) j h = go (f x) refl j h (where-first l)
    where
      go : (t : Bool) → f x ≡ t → (j : ℕ) → j < (if t then 0 else suc (place_where f l)) → ((k : ℕ) → k < place_where f l → f (get_or l k d) ≡ false) → f (get_or (x ∷ l) j d) ≡ false
      go true e j q ih = absurd (omega arith)
      go false e zero q ih = e
      go false e (suc j) q ih = ih j (omega arith)

  -- the place as it is answered
  unfoldable pub found_in : List A → Option ℕ
  found_in l = if f (get_or l (place_where f l) d) then Some (place_where f l) else None

  module _ (off : f d ≡ false) (g : ℕ → A) (n all : ℕ) (few : n ≤ all) where
    pub found_at : (i : ℕ) → i < n → f (g i) ≡ true → ((j : ℕ) → j < i → f (g j) ≡ false) → Some i ≡ found_in (in_use g d n all)
    unfolding found_in
    found_at i h e k =
        let a : f (get_or (in_use g d n all) i d) ≡ true = ap f (used-at g d n all i h) ∙ e in
        let p : place_where f (in_use g d n all) ≡ i =
        place_is (in_use g d n all) i (omega (arith, used-length g d n all few)) a (λ j q. ap f (used-at g d n all j (omega arith)) ∙ k j q) in
        rw (p, a)

    free_or : ((j : ℕ) → j < n → f (g j) ≡ false) → (j : ℕ) → f (get_or (in_use g d n all) j d) ≡ false
    free_or k j = elim (dec_lt j n) [ yes q ↦ ap f (used-at g d n all j q) ∙ k j q | no q ↦ ap f (used-free g d n all j (omega arith)) ∙ off ]

    pub found_none : ((j : ℕ) → j < n → f (g j) ≡ false) → None ≡ found_in (in_use g d n all)
    unfolding found_in
    found_none k = rw (free_or k (place_where f (in_use g d n all)))

-- one place more was looked at
pub passed_on : {A : Type 0} (f : A → Bool) (g : ℕ → A) (i : ℕ) → ((j : ℕ) → j < i → f (g j) ≡ false) → f (g i) ≡ false → (j : ℕ) → j < i + 1 → f (g j) ≡ false
passed_on f g i k e j h = elim (ℕ_discrete j i) [ yes q ↦ ap (λ (x : ℕ). f (g x)) q ∙ e | no q ↦ k j (omega arith) ]

-- what is found, and what is not: for callers
module _ {A : Type 0} (f : A → Bool) (d : A) (l : List A) where
  pub found-is : (i : ℕ) → Some i ≡ found_in f d l → (place_where f l ≡ i) × (f (get_or l i d) ≡ true)
  unfolding found_in
  found-is i e = go (f (get_or l (place_where f l) d)) refl e
    where
      go : (t : Bool) → f (get_or l (place_where f l) d) ≡ t → Some i ≡ (if t then Some (place_where f l) else None) → (place_where f l ≡ i) × (f (get_or l i d) ≡ true)
      go true p q = let z : place_where f l ≡ i = cc in (z, rw z at p)
      go false p q = let z : ◌≡◌ {A = ℕ} 0 1 = cc in absurd (omega arith)

  pub found-not : None ≡ found_in f d l → f (get_or l (place_where f l) d) ≡ false
  unfolding found_in
  found-not e = go (f (get_or l (place_where f l) d)) refl e
    where
      go : (t : Bool) → f (get_or l (place_where f l) d) ≡ t → None ≡ (if t then Some (place_where f l) else None) → f (get_or l (place_where f l) d) ≡ false
      go true p q = let z : ◌≡◌ {A = ℕ} 0 1 = cc in absurd (omega arith)
      go false p q = p

-- a place is found where the order rests
some_if : (t : Bool) (i : ℕ) → is_some (if t then Some i else None) ≡ t
some_if true i = refl
some_if false i = refl

module _ (v : Venue) (id : ℕ) where
  pub regular-found : is_some (regular_found v id) ≡ rests_regular v id
  unfolding regular_found
  regular-found = some_if (rests_regular v id) (regular_place v id)

  pub complex-found : is_some (complex_found v id) ≡ rests_complex v id
  unfolding complex_found
  complex-found = some_if (rests_complex v id) (complex_place v id)

-- free places have no id
pub regular-free : (id : ℕ) → is_regular_of id no_regular ≡ false
unfolding is_regular_of
regular-free id = refl

pub complex-free : (id : ℕ) → is_complex_of id no_complex ≡ false
unfolding is_complex_of
complex-free id = refl
