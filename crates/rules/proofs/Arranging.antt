-- The arrangement test, place by place; and that closing the gaps of an arranged book changes nothing.
use Rattle.std.specs.Prelude.{if◌then◌else◌}
use mathlib.Core.Path.{ap, ◌≡◌, refl, sym, ◌∙◌}
use mathlib.Core.Bool.{Bool, true, false, ◌&&◌, true≢false}
use mathlib.Core.List.{List, [], ◌∷◌}
use Prim.Native.Nat.{ℕ, zero, suc, ◌<◌}
use native.Mathlib.Omega.{arith}
use lib.Dec.{ltb}
use lib.ListN.{get_or}
use borrow.Author.Tests.{ltb-true, lt-ltb, eqb-true}
use Rattle.rules.specs.declared.Regular.{Regular}
use Rattle.rules.specs.declared.Complex.{Complex}
use Rattle.rules.specs.declared.Venue.{Venue}
use Rattle.rules.proofs.Closing.{packed-id}
use lib.IntN.{ℤ, pos, negsuc, nat_abs}
use Rattle.rules.proofs.Tests.{and_l, and_r, and_in}
use Rattle.rules.specs.Base.{held, all}
use Rattle.rules.specs.Words.{no_regular, no_complex, with_regular, with_complex}
use Rattle.rules.specs.Places.{holds_regular, holds_complex, blank_regular, blank_complex, arranged, close_gaps}
use Rattle.rules.specs.Sound.{regulars_sound, complexes_sound}

-- every element passes a test
pub all-at : {A : Type 0} (f : A → Bool) (d : A) (l : List A) → f d ≡ true → all f l ≡ true → (i : ℕ) → f (get_or l i d) ≡ true
unfolding all
all-at f d [] n h i = n
all-at f d (x ∷ l) n h zero = and_l (f x) (all f l) h
all-at f d (x ∷ l) n h (suc i) = all-at f d l n (and_r (f x) (all f l) h) i

pub all_in : {A : Type 0} (f : A → Bool) (d : A) (l : List A) → ((i : ℕ) → f (get_or l i d) ≡ true) → all f l ≡ true
unfolding all
all_in f d [] h = refl
all_in f d (x ∷ l) h = and_in (f x) (all f l) (h 0) (all_in f d l (λ i. h (suc i)))

module _ {A : Type 0} (none : A) (holds asked blank : A → Bool) (id : A → ℕ) where
  pub record Arranged (low : ℕ) (l : List A) : Type 0 where
    pub above : (i : ℕ) → holds (get_or l i none) ≡ true → low < id (get_or l i none)
    pub asks : (i : ℕ) → holds (get_or l i none) ≡ true → asked (get_or l i none) ≡ true
    pub rises : (i j : ℕ) → i < j → holds (get_or l i none) ≡ true → holds (get_or l j none) ≡ true → id (get_or l i none) < id (get_or l j none)
    pub dense : (i j : ℕ) → i < j → holds (get_or l j none) ≡ true → holds (get_or l i none) ≡ true
    pub blanks : (i : ℕ) → holds (get_or l i none) ≡ false → blank (get_or l i none) ≡ true

module _ {A : Type 0} (none : A) (holds asked blank : A → Bool) (id : A → ℕ)
    (free : (x : A) → blank x ≡ true → holds x ≡ false) (zeros : blank none ≡ true) where
  -- the same, over this section's tests
  abbrev Form : ℕ → List A → Type 0
  Form = Arranged none holds asked blank id

  -- no place is held
  all-free : {B : Type 0} (l : List A) → all blank l ≡ true → (i : ℕ) → holds (get_or l i none) ≡ true → B
  all-free l h i t = absurd (true≢false (sym t ∙ free _ (all-at blank none l zeros h i)))

  nothing-held : (low : ℕ) (l : List A) → all blank l ≡ true → Form low l
  nothing-held low l h = record {
    above = λ i t. all-free l h i t;
    asks = λ i t. all-free l h i t;
    rises = λ i j q t u. all-free l h i t;
    dense = λ i j q t. all-free l h j t;
    blanks = λ i t. all-at blank none l zeros h i;
  }

  one_more : (low : ℕ) (x : A) (l : List A) → holds x ≡ true → low < id x → asked x ≡ true → Form (id x) l → Form low (x ∷ l)
  one_more low x l h lt a r = record {
    above = above;
    asks = asks;
    rises = rises;
    dense = dense;
    blanks = blanks;
  }
    where
      above : (i : ℕ) → holds (get_or (x ∷ l) i none) ≡ true → low < id (get_or (x ∷ l) i none)
      above zero t = lt
      above (suc i) t = let z = r.above i t in omega arith

      asks : (i : ℕ) → holds (get_or (x ∷ l) i none) ≡ true → asked (get_or (x ∷ l) i none) ≡ true
      asks zero t = a
      asks (suc i) t = r.asks i t

      rises : (i j : ℕ) → i < j → holds (get_or (x ∷ l) i none) ≡ true → holds (get_or (x ∷ l) j none) ≡ true → id (get_or (x ∷ l) i none) < id (get_or (x ∷ l) j none)
      rises i zero q t u = absurd (omega arith)
      rises zero (suc j) q t u = r.above j u
      rises (suc i) (suc j) q t u = r.rises i j (omega arith) t u

      dense : (i j : ℕ) → i < j → holds (get_or (x ∷ l) j none) ≡ true → holds (get_or (x ∷ l) i none) ≡ true
      dense i zero q t = absurd (omega arith)
      dense zero (suc j) q t = h
      dense (suc i) (suc j) q t = r.dense i j (omega arith) t

      blanks : (i : ℕ) → holds (get_or (x ∷ l) i none) ≡ false → blank (get_or (x ∷ l) i none) ≡ true
      blanks zero t = absurd (true≢false (sym h ∙ t))
      blanks (suc i) t = r.blanks i t

  pub arranged-out : (low : ℕ) (l : List A) → arranged holds asked blank id low l ≡ true → Arranged none holds asked blank id low l
  unfolding arranged all
  arranged-out low [] h = nothing-held low [] refl
  arranged-out low (x ∷ l) h = go (holds x) refl h (arranged-out (id x) l)
    where
      go : (b : Bool) → holds x ≡ b → (if b then ltb low (id x) && asked x && arranged holds asked blank id (id x) l else blank x && all blank l) ≡ true →
          (arranged holds asked blank id (id x) l ≡ true → Form (id x) l) → Form low (x ∷ l)
      go true e h ih =
          one_more low x l e (ltb-true low (id x) (and_l _ (asked x) (and_l _ (arranged holds asked blank id (id x) l) h)))
          (and_r (ltb low (id x)) _ (and_l _ (arranged holds asked blank id (id x) l) h)) (ih (and_r (ltb low (id x) && asked x) _ h))
      go false e h ih = nothing-held low (x ∷ l) h

  pub arranged-in : (low : ℕ) (l : List A) → Arranged none holds asked blank id low l → arranged holds asked blank id low l ≡ true
  unfolding arranged
  arranged-in low [] r = refl
  arranged-in low (x ∷ l) r = go (holds x) refl (arranged-in (id x) l)
    where
      rest : holds x ≡ true → Form (id x) l
      rest e = record {
        above = λ i t. r.rises 0 (suc i) (omega arith) e t;
        asks = λ i t. r.asks (suc i) t;
        rises = λ i j q t u. r.rises (suc i) (suc j) (omega arith) t u;
        dense = λ i j q t. r.dense (suc i) (suc j) (omega arith) t;
        blanks = λ i t. r.blanks (suc i) t;
      }

      free-rest : holds x ≡ false → (i : ℕ) → blank (get_or l i none) ≡ true
      free-rest e i = case (holds (get_or l i none)) refl
        where
          case : (b : Bool) → holds (get_or l i none) ≡ b → blank (get_or l i none) ≡ true
          case true t = absurd (true≢false (sym (r.dense 0 (suc i) (omega arith) t) ∙ e))
          case false t = r.blanks (suc i) t

      go : (b : Bool) → holds x ≡ b → (Form (id x) l → arranged holds asked blank id (id x) l ≡ true) →
          (if b then ltb low (id x) && asked x && arranged holds asked blank id (id x) l else blank x && all blank l) ≡ true
      go true e ih = and_in _ _ (and_in _ _ (lt-ltb low (id x) (r.above 0 e)) (r.asks 0 e)) (ih (rest e))
      go false e ih = and_in _ _ (r.blanks 0 e) (all_in blank none l (free-rest e))

-- Sound venues --------------------------------------------------------------------------------

pub blank-is : (o : Regular) → blank_regular o ≡ true → o ≡ no_regular
unfolding blank_regular
blank-is o z =
    let a = eqb-true o.id 0 (search (and_l, and_r, z) depth 8) in
    let b = eqb-true o.series 0 (search (and_l, and_r, z) depth 8) in
    let c = eqb-true o.side 0 (search (and_l, and_r, z) depth 8) in
    let d = eqb-true o.price 0 (search (and_l, and_r, z) depth 8) in
    let e = eqb-true o.quantity 0 (search (and_l, and_r, z) depth 8) in
    let f = eqb-true o.display 0 (search (and_l, and_r, z) depth 8) in
    let g = eqb-true o.reserve 0 (search (and_l, and_r, z) depth 8) in
    rw (a, b, c, d, e, f, g)

zero-abs : (z : ℤ) → nat_abs z ≡ 0 → z ≡ pos 0
zero-abs (pos n) h = ap pos h
zero-abs (negsuc n) h = absurd (omega arith)

blank-is_c : (c : Complex) → blank_complex c ≡ true → c ≡ no_complex
unfolding blank_complex
blank-is_c x z =
    let a = eqb-true x.id 0 (search (and_l, and_r, z) depth 12) in
    let b = eqb-true x.series1 0 (search (and_l, and_r, z) depth 12) in
    let c = eqb-true x.side1 0 (search (and_l, and_r, z) depth 12) in
    let d = eqb-true x.series2 0 (search (and_l, and_r, z) depth 12) in
    let e = eqb-true x.side2 0 (search (and_l, and_r, z) depth 12) in
    let f = eqb-true x.class 0 (search (and_l, and_r, z) depth 12) in
    let g = zero-abs x.limit (eqb-true (nat_abs x.limit) 0 (search (and_l, and_r, z) depth 12)) in
    let h = eqb-true x.quantity 0 (search (and_l, and_r, z) depth 12) in
    let i = eqb-true x.ratio1 0 (search (and_l, and_r, z) depth 12) in
    let j = eqb-true x.ratio2 0 (search (and_l, and_r, z) depth 12) in
    rw (a, b, c, d, e, f, g, h, i, j)

pub blank-free : (o : Regular) → blank_regular o ≡ true → held o.quantity ≡ false
blank-free o z = rw (blank-is o z)

pub blank-free_c : (c : Complex) → blank_complex c ≡ true → held c.quantity ≡ false
blank-free_c c z = rw (blank-is_c c z)

-- closing the gaps of a venue whose books are sound changes nothing
pub closed_same : (v : Venue) → regulars_sound v ≡ true → complexes_sound v ≡ true → close_gaps v ≡ v
unfolding close_gaps with_regular with_complex regulars_sound complexes_sound
closed_same v r c =
    let a = arranged-out no_regular holds_regular _ blank_regular (λ o. o.id) blank-free (unfold blank_regular in refl) 0 v.regular r in
    let b = arranged-out no_complex holds_complex _ blank_complex (λ c. c.id) blank-free_c (unfold blank_complex in refl) 0 v.complex c in
    rw (
      packed-id holds_regular no_regular refl v.regular a.dense (λ i h. blank-is _ (a.blanks i h)),
      packed-id holds_complex no_complex refl v.complex b.dense (λ i h. blank-is_c _ (b.blanks i h)),
    )
