-- Closing gaps: of places given by a function, those read and those kept; then of rows of numbers.
use Rattle.std.specs.Prelude.{if◌then◌else◌}
use mathlib.Core.Path.{◌≡◌, refl, sym, ap, ap₂, ◌∙◌}
use mathlib.Core.Bool.{Bool, true, false, not}
use mathlib.Core.Logic.{◌⊎◌, inl, inr}
use mathlib.Core.List.{List, [], ◌∷◌, ◌++◌, append_assoc, append-nil}
use Prim.Native.Nat.{ℕ, zero, suc, ◌+◌, ◌-◌, ◌≤◌, ◌<◌}
use native.Mathlib.Omega.{arith}
use native.Mathlib.Decide.{dec_lt}
use native.Mathlib.Numerals.{add-one}
use lib.ListN.{length, replicate}
use lib.Seq.{sets}
use Rattle.rules.specs.Base.{place_where}
use Rattle.rules.specs.Base.{keep}
use Rattle.rules.specs.Places.{packed}
use Rattle.places.specs.Layout.{size, upto, in_use, Filled}
use Rattle.places.proofs.Tables.{upto-length, upto-same, upto-more, used-length}
use Rattle.places.proofs.Parts.{Outside, wider, joined, unmoved}
use Rattle.place_writes.specs.Moving.{Closing, Rows, Moving}
use Rattle.place_writes.proofs.Stores.{sets-outside, sets-length}

module _ {A : Type 0} (holds : A → Bool) where
  skip-one : (f : ℕ → A) (i k m : ℕ) → k ≡ suc m → holds (f i) ≡ false → keep holds (upto f i k) ≡ keep holds (upto f (i + 1) m)
  unfolding keep upto
  skip-one f i k m e h = rw (e, add-one i, h) refl

  keep_one : (f : ℕ → A) (i k m : ℕ) → k ≡ suc m → holds (f i) ≡ true → keep holds (upto f i k) ≡ f i ∷ keep holds (upto f (i + 1) m)
  unfolding keep upto
  keep_one f i k m e h = rw (e, add-one i, h) refl

  module _ (n : ℕ) (f g : ℕ → A) (i j : ℕ) (p : Closing holds n f g i j) (lt : i < n) where
    pub closing-skip : holds (f i) ≡ false → Closing holds n f g (i + 1) j
    closing-skip h = let q = p.fewer in record {
      read = omega arith;
      fewer = omega arith;
      front = ap (λ (l : List A). upto g 0 j ++ l) (sym (skip-one f i (n - i) (n - (i + 1)) (omega arith) h)) ∙ p.front;
      full = p.full;
    }

    pub closing-keep : (g' : ℕ → A) → holds (f i) ≡ true → ((k : ℕ) → k < j → g k ≡ g' k) → g' j ≡ f i → Closing holds n f g' (i + 1) (j + 1)
    closing-keep g' h same new = let q = p.fewer in record {
      read = omega arith;
      fewer = omega arith;
      front =
          ap (λ (l : List A). l ++ keep holds (upto f (i + 1) (n - (i + 1)))) (ap (upto g' 0) (add-one j) ∙ upto-more g' j)
          ∙ append_assoc (upto g' 0 j) (g' j ∷ []) (keep holds (upto f (i + 1) (n - (i + 1))))
          ∙ ap₂ (λ (l : List A) (x : A). l ++ (x ∷ keep holds (upto f (i + 1) (n - (i + 1))))) (sym (upto-same g g' 0 j (λ k a b. same k (omega arith)))) new
          ∙ ap (λ (l : List A). upto g 0 j ++ l) (sym (keep_one f i (n - i) (n - (i + 1)) (omega arith) h))
          ∙ p.front;
      full = λ k w. elim (dec_lt k j) [
        | yes r ↦ ap holds (sym (same k r)) ∙ p.full k r
        | no r ↦ (let e : k ≡ j = omega arith in ap (λ (x : ℕ). holds (g' x)) e ∙ ap holds new ∙ h)
      ];
    }

  -- held places are kept where they are
  pub closing-start : (n : ℕ) (f : ℕ → A) (r : ℕ) → r ≤ n → Filled holds f r → Closing holds n f f r r
  unfolding upto
  closing-start n f zero h full = record {
    read = omega arith;
    fewer = omega arith;
    front = let e : n - 0 ≡ n = omega arith in ap (λ (k : ℕ). keep holds (upto f 0 k)) e;
    full = λ k w. absurd (omega arith);
  }
  closing-start n f (suc r) h full =
      rw (← add-one r) (closing-keep n f f r r (closing-start n f r (omega arith) (λ k w. full k (omega arith))) (omega arith) f (full r (omega arith)) (λ k w. refl) refl)

  module _ (none : A) (free : holds none ≡ false) where
    keep-free : (l : List A) (m : ℕ) → keep holds (l ++ replicate m none) ≡ keep holds l
    unfolding keep
    keep-free [] zero = refl
    keep-free [] (suc m) = rw free (keep-free [] m)
    keep-free (x ∷ l) m = ap (λ (t : List A). if holds x then x ∷ t else t) (keep-free l m)

    module _ (n all : ℕ) (f g : ℕ → A) (j : ℕ) (p : Closing holds n f g n j) (h : n ≤ all) where
      kept-is : upto g 0 j ≡ keep holds (upto f 0 n)
      unfolding upto keep
      kept-is =
          let e : n - n ≡ 0 = omega arith in
          sym (append-nil (upto g 0 j)) ∙ sym (ap (λ (k : ℕ). upto g 0 j ++ keep holds (upto f n k)) e) ∙ p.front

      kept_in : keep holds (in_use f none n all) ≡ upto g 0 j
      unfolding in_use
      kept_in = keep-free (upto f 0 n) (all - n) ∙ sym kept-is

      -- the number of those that are held
      pub closed-count : length (keep holds (in_use f none n all)) ≡ j
      closed-count = ap length kept_in ∙ upto-length g 0 j

      in_use_packed : in_use g none j all ≡ upto g 0 j ++ replicate (all - j) none
      unfolding in_use
      in_use_packed = refl

      pub closed-part : in_use g none j all ≡ packed holds none (in_use f none n all)
      unfolding packed
      closed-part =
          let e : length (in_use f none n all) - length (keep holds (in_use f none n all)) ≡ all - j = omega (arith, used-length f none n all h, closed-count) in
          in_use_packed ∙ ap₂ (λ (l : List A) (k : ℕ). l ++ replicate k none) (sym kept_in) (sym e)

    -- the first free place is the one after those in use
    first-free : (f : ℕ → A) (i k m : ℕ) → ((x : ℕ) → i ≤ x → x < i + k → holds (f x) ≡ true) → place_where (λ o. not (holds o)) (upto f i k ++ replicate m none) ≡ k
    unfolding place_where upto
    first-free f i zero zero h = refl
    first-free f i zero (suc m) h = rw free refl
    first-free f i (suc k) m h =
        rw (h i (omega arith) (omega arith)) (ap suc (first-free f (suc i) k m (λ x p q. h x (omega arith) (omega arith))))

    pub free-place : (f : ℕ → A) (n all : ℕ) → Filled holds f n → place_where (λ o. not (holds o)) (in_use f none n all) ≡ n
    unfolding in_use
    free-place f n all full = first-free f 0 n (all - n) (λ x p q. full x (omega arith))

-- Rows of numbers ------------------------------------------------------------------------------

-- those from `low i` to below `low (i + 1)`
pub rows-between : {A : Type 0} (all : ℕ) (low : ℕ → ℕ) (row_in : List ℕ → ℕ → A) (row : A → List ℕ) → ((i j : ℕ) → i ≤ j → low i ≤ low j) →
    ((i : ℕ) (x : A) → low i + length (row x) ≡ low (i + 1)) →
    ((a b : List ℕ) (l h i : ℕ) → Outside l h a b → (low (i + 1) ≤ l) ⊎ (h ≤ low i) → row_in a i ≡ row_in b i) →
    Rows all row_in (λ a i x. sets a (low i) (row x)) (λ i j. Outside (low i) (low j))
rows-between all low row_in row rises width agree = record {
  long = λ a i x. sets-length a (low i) (row x);
  none = λ i j a. unmoved;
  wide = λ i j k l a b p q. wider (rises k i p) (rises j l q);
  join = λ i j a b c. joined;
  wrote = λ a i x. wider (omega arith) (let z = width i x in omega arith) (sets-outside a (low i) (row x));
  agree = λ a b i j k most few o h. agree a b (low i) (low j) k o (near i j k h);
}
  where
    near : (i j k : ℕ) → (k < i) ⊎ (j ≤ k) → (low (k + 1) ≤ low i) ⊎ (low j ≤ low k)
    near i j k (inl h) = inl (rises (k + 1) i (omega arith))
    near i j k (inr h) = inr (rises j k h)

module _ {A : Type 0} (holds : A → Bool) (all : ℕ) (row_in : List ℕ → ℕ → A) (write : List ℕ → ℕ → A → List ℕ) (Same : (i j : ℕ) (a b : List ℕ) → Type 0)
    (rows : Rows all row_in write Same) (back : (a c : List ℕ) (i k : ℕ) → length a ≡ size → i < all → row_in (write a i (row_in c k)) i ≡ row_in c k) where
  pub moving-start : (a : List ℕ) (n r : ℕ) → length a ≡ size → r ≤ n → Filled holds (row_in a) r → Moving holds row_in Same a a n r r
  moving-start a n r e h full = record {
    long = e;
    places = closing-start holds n (row_in a) r h full;
    outside = rows.none 0 r a;
  }

  module _ (a b : List ℕ) (n i j : ℕ) (m : Moving holds row_in Same a b n i j) (few : n ≤ all) (lt : i < n) (o : A) (is : o ≡ row_in b i) where
    same_row : row_in a i ≡ row_in b i
    same_row = rows.agree a b 0 i i (omega arith) (omega arith) m.outside (inr (omega arith))

    pub moving-skip : holds o ≡ false → Moving holds row_in Same a b n (i + 1) j
    moving-skip h = record {
      long = m.long;
      places = closing-skip holds n (row_in a) (row_in b) i j m.places lt (ap holds (same_row ∙ sym is) ∙ h);
      outside = rows.wide 0 i 0 (i + 1) a b (omega arith) (omega arith) m.outside;
    }

    pub moving-keep : (b' : List ℕ) → holds o ≡ true → b' ≡ write b j o → Moving holds row_in Same a b' n (i + 1) (j + 1)
    moving-keep b' h e =
        let q = m.places.fewer in
        let w = write b j (row_in b i) in
        rw (e, is) record {
          long = rows.long b j (row_in b i) ∙ m.long;
          places = closing-keep holds n (row_in a) (row_in b) i j m.places lt (row_in w) (ap holds (same_row ∙ sym is) ∙ h)
              (λ k f. rows.agree b w j (j + 1) k (omega arith) (omega arith) (rows.wrote b j (row_in b i)) (inl f))
              (back b b j i m.long (omega arith) ∙ sym same_row);
          outside = rows.join 0 (i + 1) a b w (rows.wide 0 i 0 (i + 1) a b (omega arith) (omega arith) m.outside)
              (rows.wide j (j + 1) 0 (i + 1) b w (omega arith) (omega arith) (rows.wrote b j (row_in b i)));
        }
