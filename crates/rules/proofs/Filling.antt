-- Orders with less open than they had: each place of a book has what it had, or less of it.
use mathlib.Core.Path.{◌∙◌, ◌≡◌, ap, refl, sym}
use mathlib.Core.Bool.{false, true, true≢false}
use mathlib.Core.Logic.{◌≢◌}
use mathlib.Core.List.{List, [], ◌∷◌}
use Prim.Native.Nat.{◌<◌, ◌≤◌, suc, zero, ℕ}
use native.Mathlib.Omega.{arith}
use lib.ListN.{get_or, length, length-set, set}
use lib.Seq.{get_or-set_other, get_or-set_same}
use Rattle.rules.specs.declared.Complex.{Complex}
use Rattle.rules.specs.declared.Legging.{Legging}
use Rattle.rules.specs.declared.Regular.{Regular}
use Rattle.rules.specs.declared.Venue.{Venue}
use Rattle.rules.specs.Base.{held}
use Rattle.rules.specs.Words.{complex_at, no_complex, no_legging, no_regular, regular_at, with_complex, with_regular}
use Rattle.rules.specs.Trading.{fill_complex, fill_regular, less_complex, less_regular}
use Rattle.rules.proofs.Tests.{held-pos, pos-held}

-- Place by place ------------------------------------------------------------------------------

-- a and b have equally many places, and what stands at each is related
pub record Placewise {A : Type 0} (none : A) (R : A → A → Type 0) (a b : List A) : Type 0 where
  pub same : length a ≡ length b
  pub lesser : (i : ℕ) → R (get_or a i none) (get_or b i none)

module _ {A : Type 0} (none : A) (R : A → A → Type 0) where
  placewise-refl : ((x : A) → R x x) → (a : List A) → Placewise none R a a
  placewise-refl r a = record { same = refl; lesser = λ i. r _ }

  placewise-trans : ((x y z : A) → R x y → R y z → R x z) → {a b c : List A} → Placewise none R a b → Placewise none R b c → Placewise none R a c
  placewise-trans t h k = record { same = h.same ∙ k.same; lesser = λ i. t _ _ _ (h.lesser i) (k.lesser i) }

  -- one place written
  pub placewise-set : ((x : A) → R x x) → (l : List A) (i : ℕ) (x : A) → R x (get_or l i none) → Placewise none R (set l i x) l
  placewise-set r l i x h = record { same = length-set l i x; lesser = at l i x h }
    where
      at : (l : List A) (i : ℕ) (x : A) → R x (get_or l i none) → (j : ℕ) → R (get_or (set l i x) j none) (get_or l j none)
      at [] i x h j = r _
      at (y ∷ l) zero x h zero = h
      at (y ∷ l) zero x h (suc j) = r _
      at (y ∷ l) (suc i) x h zero = r _
      at (y ∷ l) (suc i) x h (suc j) = at l i x h j

-- a held place is there
pub held-there : {A : Type 0} (none : A) (quantity : A → ℕ) → held (quantity none) ≡ false → (l : List A) (i : ℕ) → held (quantity (get_or l i none)) ≡ true → i < length l
held-there none quantity n [] i h = absurd (true≢false (sym h ∙ n))
held-there none quantity n (o ∷ l) zero h = omega arith
held-there none quantity n (o ∷ l) (suc i) h = let z = held-there none quantity n l i h in omega arith

-- an order that has some left had some
still-some : (p q : ℕ) → p ≤ q → held p ≡ true → held q ≡ true
still-some p q le h = let z = held-pos p h in pos-held q (omega arith)

-- Regular orders ------------------------------------------------------------------------------

abbrev pub reg : Venue → ℕ → Regular
reg v i = get_or v.regular i no_regular

pub record Lesser (a b : Regular) : Type 0 where
  pub id : a.id ≡ b.id
  pub series : a.series ≡ b.series
  pub side : a.side ≡ b.side
  pub price : a.price ≡ b.price
  pub quantity : a.quantity ≤ b.quantity

pub lesser-refl : (o : Regular) → Lesser o o
lesser-refl o = record { id = refl; series = refl; side = refl; price = refl; quantity = omega arith }

pub lesser-trans : {a b c : Regular} → Lesser a b → Lesser b c → Lesser a c
lesser-trans h k = record {
  id = h.id ∙ k.id;
  series = h.series ∙ k.series;
  side = h.side ∙ k.side;
  price = h.price ∙ k.price;
  quantity = omega arith;
}

abbrev pub Fewer : List Regular → List Regular → Type 0
Fewer = Placewise no_regular Lesser

pub fewer-refl : (a : List Regular) → Fewer a a
fewer-refl = placewise-refl no_regular Lesser lesser-refl

pub fewer-trans : {a b c : List Regular} → Fewer a b → Fewer b c → Fewer a c
fewer-trans = placewise-trans no_regular Lesser (λ _ _ _. lesser-trans)

pub fill-fewer : (i k : ℕ) (v : Venue) → Fewer (fill_regular i k v).regular v.regular
unfolding fill_regular with_regular regular_at less_regular
fill-fewer i k v = placewise-set no_regular Lesser lesser-refl v.regular i _ (record { id = refl; series = refl; side = refl; price = refl; quantity = omega arith })

pub still-held : {a b : Regular} → Lesser a b → held a.quantity ≡ true → held b.quantity ≡ true
still-held {a} {b} h = still-some a.quantity b.quantity h.quantity

pub held_fits : (l : List Regular) (i : ℕ) → held (get_or l i no_regular).quantity ≡ true → i < length l
held_fits = held-there no_regular (λ o. o.quantity) refl

-- Complex orders ------------------------------------------------------------------------------

abbrev pub cx : Venue → ℕ → Complex
cx v i = get_or v.complex i no_complex

-- two complex orders have the same legs
pub record SameLegs (a b : Complex) : Type 0 where
  pub series1 : a.series1 ≡ b.series1
  pub side1 : a.side1 ≡ b.side1
  pub series2 : a.series2 ≡ b.series2
  pub side2 : a.side2 ≡ b.side2
  pub ratio1 : a.ratio1 ≡ b.ratio1
  pub ratio2 : a.ratio2 ≡ b.ratio2

pub same-legs : {a b : Complex} → a ≡ b → SameLegs a b
same-legs e = record {
  series1 = ap (λ (c : Complex). c.series1) e;
  side1 = ap (λ (c : Complex). c.side1) e;
  series2 = ap (λ (c : Complex). c.series2) e;
  side2 = ap (λ (c : Complex). c.side2) e;
  ratio1 = ap (λ (c : Complex). c.ratio1) e;
  ratio2 = ap (λ (c : Complex). c.ratio2) e;
}

pub legs-trans : {a b c : Complex} → SameLegs a b → SameLegs b c → SameLegs a c
legs-trans h k = record {
  series1 = h.series1 ∙ k.series1;
  side1 = h.side1 ∙ k.side1;
  series2 = h.series2 ∙ k.series2;
  side2 = h.side2 ∙ k.side2;
  ratio1 = h.ratio1 ∙ k.ratio1;
  ratio2 = h.ratio2 ∙ k.ratio2;
}

pub record LesserC (a b : Complex) : Type 0 where
  pub id : a.id ≡ b.id
  pub legs : SameLegs a b
  pub quantity : a.quantity ≤ b.quantity

lesser_c-refl : (c : Complex) → LesserC c c
lesser_c-refl c = record { id = refl; legs = same-legs refl; quantity = omega arith }

lesser_c-trans : {a b c : Complex} → LesserC a b → LesserC b c → LesserC a c
lesser_c-trans h k = record { id = h.id ∙ k.id; legs = legs-trans h.legs k.legs; quantity = omega arith }

abbrev pub FewerC : List Complex → List Complex → Type 0
FewerC = Placewise no_complex LesserC

pub fewer_c-refl : (a : List Complex) → FewerC a a
fewer_c-refl = placewise-refl no_complex LesserC lesser_c-refl

pub fewer_c-trans : {a b c : List Complex} → FewerC a b → FewerC b c → FewerC a c
fewer_c-trans = placewise-trans no_complex LesserC (λ _ _ _. lesser_c-trans)

pub less-lesser_c : (k : ℕ) (c : Complex) → LesserC (less_complex k c) c
unfolding less_complex
less-lesser_c k c = record {
  id = refl;
  legs = record { series1 = refl; side1 = refl; series2 = refl; side2 = refl; ratio1 = refl; ratio2 = refl };
  quantity = omega arith;
}

pub fill-fewer_c : (i k : ℕ) (v : Venue) → FewerC (fill_complex i k v).complex v.complex
unfolding fill_complex with_complex complex_at
fill-fewer_c i k v = placewise-set no_complex LesserC lesser_c-refl v.complex i _ (less-lesser_c k (cx v i))

pub still-held_c : {a b : Complex} → LesserC a b → held a.quantity ≡ true → held b.quantity ≡ true
still-held_c {a} {b} h = still-some a.quantity b.quantity h.quantity

pub held-fits_c : (l : List Complex) (i : ℕ) → held (get_or l i no_complex).quantity ≡ true → i < length l
held-fits_c = held-there no_complex (λ c. c.quantity) refl

-- Legging orders ------------------------------------------------------------------------------

abbrev pub lg : Venue → ℕ → Legging
lg v n = get_or v.legging n no_legging

-- What filling leaves as it was ---------------------------------------------------------------

module _ (i q : ℕ) (v : Venue) where
  -- every other place; and what is filled has less
  pub filled-other : (n : ℕ) → n ≢ i → reg (fill_regular i q v) n ≡ reg v n
  unfolding fill_regular with_regular
  filled-other n ne = get_or-set_other v.regular i n _ no_regular ne

  pub filled-same : i < length v.regular → reg (fill_regular i q v) i ≡ less_regular q (reg v i)
  unfolding fill_regular with_regular regular_at
  filled-same f = get_or-set_same v.regular i _ no_regular f

  pub fill-complex : (fill_regular i q v).complex ≡ v.complex
  unfolding fill_regular with_regular
  fill-complex = refl

  pub fill-legging : (fill_regular i q v).legging ≡ v.legging
  unfolding fill_regular with_regular
  fill-legging = refl

  pub fill-last : (fill_regular i q v).last ≡ v.last
  unfolding fill_regular with_regular
  fill-last = refl

  pub fill_c-regular : (fill_complex i q v).regular ≡ v.regular
  unfolding fill_complex with_complex
  fill_c-regular = refl

  pub fill_c-last : (fill_complex i q v).last ≡ v.last
  unfolding fill_complex with_complex
  fill_c-last = refl
