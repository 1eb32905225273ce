-- Lists given by a function of the place: their lengths, their elements, and one element anew.
use mathlib.Core.Path.{◌≡◌, refl, sym, ap, ap₂, ◌∙◌}
use mathlib.Core.Logic.{◌≢◌}
use mathlib.Core.List.{List, [], ◌∷◌, ◌++◌}
use Prim.Native.Nat.{ℕ, zero, suc, ◌+◌, ◌-◌, ◌≤◌, ◌<◌}
use native.Mathlib.Omega.{arith}
use native.Mathlib.Decide.{dec_lt, ℕ_discrete}
use native.Mathlib.Numerals.{add-one}
use lib.ListN.{length, get_or, set, replicate, length-append, length-replicate, length-set, get_or-replicate, get_or-eq_default, get_or-append}
use lib.Seq.{ext_get_or, get_or-append-add, get_or-set_same, get_or-set_other}
use Rattle.places.specs.Layout.{upto, in_use}

module _ {A : Type 0} where
  pub upto-length : (f : ℕ → A) (i k : ℕ) → length (upto f i k) ≡ k
  unfolding upto
  upto-length f i zero = refl
  upto-length f i (suc k) = ap suc (upto-length f (suc i) k)

  pub upto-at : (f : ℕ → A) (d : A) (i k j : ℕ) → j < k → get_or (upto f i k) j d ≡ f (i + j)
  unfolding upto
  upto-at f d i zero j h = absurd (omega arith)
  upto-at f d i (suc k) zero h = ap f (omega arith)
  upto-at f d i (suc k) (suc j) h =
      let e : suc i + j ≡ i + suc j = omega arith in
      upto-at f d (suc i) k j (omega arith) ∙ ap f e

  -- the same where the functions agree
  pub upto-same : (f g : ℕ → A) (i k : ℕ) → ((j : ℕ) → i ≤ j → j < i + k → f j ≡ g j) → upto f i k ≡ upto g i k
  unfolding upto
  upto-same f g i zero h = refl
  upto-same f g i (suc k) h = ap₂ (λ (x : A) (l : List A). x ∷ l) (h i (omega arith) (omega arith)) (upto-same f g (suc i) k (λ j p q. h j (omega arith) (omega arith)))

  -- wherever they start
  pub upto-along : (f g : ℕ → A) (i j k : ℕ) → ((x : ℕ) → x < k → f (i + x) ≡ g (j + x)) → upto f i k ≡ upto g j k
  unfolding upto
  upto-along f g i j zero h = refl
  upto-along f g i j (suc k) h =
      ap₂ (λ (x : A) (l : List A). x ∷ l)
      (ap f (omega arith) ∙ h 0 (omega arith) ∙ ap g (omega arith))
      (upto-along f g (suc i) (suc j) k (λ x w. ap f (omega arith) ∙ h (suc x) (omega arith) ∙ ap g (omega arith)))

  -- one more
  pub upto_from : (f : ℕ → A) (i k : ℕ) → upto f i (suc k) ≡ upto f i k ++ (f (i + k) ∷ [])
  unfolding upto
  upto_from f i zero = let e : i ≡ i + 0 = omega arith in ap (λ (j : ℕ). f j ∷ []) e
  upto_from f i (suc k) =
      let e : suc i + k ≡ i + suc k = omega arith in
      ap (λ (l : List A). f i ∷ l) (upto_from f (suc i) k ∙ ap (λ (j : ℕ). upto f (suc i) k ++ (f j ∷ [])) e)

  pub upto-more : (f : ℕ → A) (k : ℕ) → upto f 0 (suc k) ≡ upto f 0 k ++ (f k ∷ [])
  upto-more f k = let e : 0 + k ≡ k = omega arith in upto_from f 0 k ∙ ap (λ (j : ℕ). upto f 0 k ++ (f j ∷ [])) e

  pub used-length : (f : ℕ → A) (d : A) (n all : ℕ) → n ≤ all → length (in_use f d n all) ≡ all
  unfolding in_use
  used-length f d n all h = length-append (upto f 0 n) (replicate (all - n) d) ∙ omega (arith, upto-length f 0 n, length-replicate (all - n) d)

  pub used-at : (f : ℕ → A) (d : A) (n all i : ℕ) → i < n → get_or (in_use f d n all) i d ≡ f i
  unfolding in_use
  used-at f d n all i h =
      get_or-append (upto f 0 n) (replicate (all - n) d) d i (omega (arith, upto-length f 0 n))
      ∙ upto-at f d 0 n i h ∙ ap f (omega arith)

  pub free-get_d : (d : A) (k i : ℕ) → get_or (replicate k d) i d ≡ d
  free-get_d d k i =
      elim (dec_lt i k) [
        | yes q ↦ get_or-replicate k i d d q
        | no q ↦ get_or-eq_default (replicate k d) d {n = i} (omega (arith, length-replicate k d))
      ]

  pub used-free : (f : ℕ → A) (d : A) (n all i : ℕ) → n ≤ i → get_or (in_use f d n all) i d ≡ d
  unfolding in_use
  used-free f d n all i h =
      let e : length (upto f 0 n) + (i - n) ≡ i = omega (arith, upto-length f 0 n) in
      sym (ap (λ (j : ℕ). get_or (upto f 0 n ++ replicate (all - n) d) j d) e)
      ∙ get_or-append-add (upto f 0 n) (replicate (all - n) d) (i - n) d
      ∙ free-get_d d (all - n) (i - n)

  pub used-same : (f g : ℕ → A) (d : A) (n all : ℕ) → ((j : ℕ) → j < n → f j ≡ g j) → in_use f d n all ≡ in_use g d n all
  unfolding in_use
  used-same f g d n all h = ap (λ (l : List A). l ++ replicate (all - n) d) (upto-same f g 0 n (λ j p q. h j (omega arith)))

  -- one element anew, of places in use or of a whole table
  module _ (f g : ℕ → A) (d : A) (i : ℕ) where
    used-elem : (n all : ℕ) → i < n → n ≤ all → ((j : ℕ) → j < n → j ≢ i → f j ≡ g j) → (j : ℕ) →
        get_or (in_use g d n all) j d ≡ get_or (set (in_use f d n all) i (g i)) j d
    used-elem n all h m same j =
        elim (ℕ_discrete j i) [
          | yes e ↦ ap (λ (k : ℕ). get_or (in_use g d n all) k d) e ∙ used-at g d n all i h
              ∙ sym (ap (λ (k : ℕ). get_or (set (in_use f d n all) i (g i)) k d) e ∙ get_or-set_same (in_use f d n all) i (g i) d (omega (arith, used-length f d n all m)))
          | no e ↦ elim (dec_lt j n) [
            | yes q ↦ used-at g d n all j q ∙ sym (get_or-set_other (in_use f d n all) i j (g i) d e ∙ used-at f d n all j q ∙ same j q e)
            | no q ↦ used-free g d n all j (omega arith) ∙ sym (get_or-set_other (in_use f d n all) i j (g i) d e ∙ used-free f d n all j (omega arith))
          ]
        ]

    pub used-set : (n all : ℕ) → i < n → n ≤ all → ((j : ℕ) → j < n → j ≢ i → f j ≡ g j) →
        in_use g d n all ≡ set (in_use f d n all) i (g i)
    used-set n all h m same =
        ext_get_or d (in_use g d n all) (set (in_use f d n all) i (g i))
        (used-length g d n all m ∙ sym (length-set (in_use f d n all) i (g i) ∙ used-length f d n all m))
        (λ j q. used-elem n all h m same j)

  -- one place more in use
  pub used-more : (f : ℕ → A) (d : A) (n all : ℕ) → n < all → in_use f d (suc n) all ≡ set (in_use f d n all) n (f n)
  used-more f d n all h =
      ext_get_or d (in_use f d (suc n) all) (set (in_use f d n all) n (f n))
      (used-length f d (suc n) all (omega arith) ∙ sym (length-set (in_use f d n all) n (f n) ∙ used-length f d n all (omega arith)))
      (λ j q. elem j)
    where
      elem : (j : ℕ) → get_or (in_use f d (suc n) all) j d ≡ get_or (set (in_use f d n all) n (f n)) j d
      elem j =
          elim (ℕ_discrete j n) [
            | yes e ↦ ap (λ (k : ℕ). get_or (in_use f d (suc n) all) k d) e ∙ used-at f d (suc n) all n (omega arith)
                ∙ sym (ap (λ (k : ℕ). get_or (set (in_use f d n all) n (f n)) k d) e ∙ get_or-set_same (in_use f d n all) n (f n) d (omega (arith, used-length f d n all (omega arith))))
            | no e ↦ elim (dec_lt j n) [
              | yes q ↦ used-at f d (suc n) all j (omega arith) ∙ sym (get_or-set_other (in_use f d n all) n j (f n) d e ∙ used-at f d n all j q)
              | no q ↦ used-free f d (suc n) all j (omega arith) ∙ sym (get_or-set_other (in_use f d n all) n j (f n) d e ∙ used-free f d n all j (omega arith))
            ]
          ]

  -- the same, as a loop stores them
  pub used-next : (f : ℕ → A) (d : A) (i all : ℕ) (r : List A) (x : A) → i < all → r ≡ in_use f d i all → x ≡ f i → set r i x ≡ in_use f d (i + 1) all
  used-next f d i all r x h e p = rw (e, p, add-one i) (sym (used-more f d i all h))

  pub used-done : (f : ℕ → A) (d : A) (i n all : ℕ) (r : List A) → i ≡ n → r ≡ in_use f d i all → r ≡ in_use f d n all
  used-done f d i n all r h e = e ∙ ap (λ (k : ℕ). in_use f d k all) h

  -- a table is all in use
  pub whole : (f : ℕ → A) (d : A) (n : ℕ) → in_use f d n n ≡ upto f 0 n
  unfolding in_use
  whole f d n = ext_get_or d (upto f 0 n ++ replicate (n - n) d) (upto f 0 n)
      (length-append (upto f 0 n) (replicate (n - n) d) ∙ omega (arith, length-replicate (n - n) d))
      (λ i q. get_or-append (upto f 0 n) (replicate (n - n) d) d i (omega (arith, length-append (upto f 0 n) (replicate (n - n) d), length-replicate (n - n) d)))

  pub upto-set : (f g : ℕ → A) (d : A) (i n : ℕ) → i < n → ((j : ℕ) → j < n → j ≢ i → f j ≡ g j) → upto g 0 n ≡ set (upto f 0 n) i (g i)
  upto-set f g d i n h same =
      sym (whole g d n) ∙ used-set f g d i n n h (omega arith) same ∙ ap (λ (l : List A). set l i (g i)) (whole f d n)
