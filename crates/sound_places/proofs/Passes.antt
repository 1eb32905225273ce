-- Laws of a pass over a list: every element passes a test, and the test of the arrangement.
use Rattle.std.specs.Prelude.{if◌then◌else◌}
use mathlib.Core.Path.{◌≡◌, refl, sym, ap, ap₂, ◌∙◌}
use mathlib.Core.Bool.{Bool, true, false, not, ◌&&◌, ◌||◌}
use mathlib.Core.List.{List, [], ◌∷◌}
use Prim.Native.Nat.{ℕ, suc, ◌+◌, ◌-◌, ◌≤◌, ◌<◌}
use native.Mathlib.Omega.{arith}
use native.Mathlib.Numerals.{add-one}
use native.Mathlib.Decide.{ℕ_discrete}
use Rattle.std.specs.Cmp.{signed_Decides}
use Rattle.std.specs.Ordering.{int_eq}
use borrow.Author.Tests.{eq-eqb, ne_eqb, lt-ltb, le-ltb, leb-true, lt-leb, le-leb}
use lib.Dec.{eqb, leb, ltb}
use lib.IntN.{ℤ, pos, negsuc, nat_abs}
use lib.ListN.{length, get_or, take, drop, length-drop, drop_of_length-le}
use lib.Seq.{drop-cons, take_all}
use Rattle.rules.specs.Base.{all}
use Rattle.rules.specs.declared.Regular.{Regular}
use Rattle.rules.specs.declared.Complex.{Complex}
use Rattle.rules.specs.declared.Edition.{Edition}
use Rattle.rules.specs.Words.{no_edition, within}
use Rattle.rules.specs.Settings.{is_increment, is_percent, is_edition}
use Rattle.rules.specs.Places.{holds_edition, blank_regular, blank_complex, blank_edition, arranged}
use Rattle.rules.specs.Refusals.{regular_in_range}
use Rattle.rules.specs.Sound.{shows_fully, figure_in_range, edition_in_range, unfallen}
use Rattle.rules.proofs.Tests.{and_l, and_r, and_in, and-true, and-false}
use Rattle.sound_places.specs.Checked.{editions_from, numbers_from}
use Rattle.rules.proofs.Ranges.{inside, within-top}

drop-on : {A : Type 0} (l : List A) (d : A) (i : ℕ) → i < length l → drop i l ≡ get_or l i d ∷ drop (i + 1) l
drop-on l d i h = drop-cons l i d h ∙ ap (λ (k : ℕ). get_or l i d ∷ drop k l) (sym (add-one i))

-- the places from i on, lent
pub rest-all : {A : Type 0} (l : List A) (n i : ℕ) → length l ≡ n → take (n - i) (drop i l) ≡ drop i l
rest-all l n i h = take_all (n - i) (drop i l) (omega (arith, length-drop i l))

-- Every element passes a test -----------------------------------------------------------------

module _ {A : Type 0} (f : A → Bool) (l r : List A) (x : A) (is : l ≡ x ∷ r) where
  pub all_past : f x ≡ true → all f r ≡ all f l
  unfolding all
  all_past h = sym (ap (all f) is ∙ rw h)

  pub all-stop : f x ≡ false → false ≡ all f l
  unfolding all
  all-stop h = sym (ap (all f) is ∙ rw h)

pub all_none : {A : Type 0} (f : A → Bool) (l : List A) → l ≡ [] → true ≡ all f l
unfolding all
all_none f l is = sym (ap (all f) is)

-- from place i on
module _ {A : Type 0} (f : A → Bool) (d : A) (l : List A) (i : ℕ) where
  pub rest-past : i < length l → f (get_or l i d) ≡ true → all f (drop (i + 1) l) ≡ all f (drop i l)
  rest-past lt h = all_past f (drop i l) (drop (i + 1) l) (get_or l i d) (drop-on l d i lt) h

  pub rest-stop : i < length l → f (get_or l i d) ≡ false → false ≡ all f (drop i l)
  rest-stop lt h = all-stop f (drop i l) (drop (i + 1) l) (get_or l i d) (drop-on l d i lt) h

  pub rest-none : length l ≤ i → true ≡ all f (drop i l)
  rest-none le = all_none f (drop i l) (drop_of_length-le l {i = i} le)

-- The arrangement -----------------------------------------------------------------------------

module _ {A : Type 0} (holds asked blank : A → Bool) (id : A → ℕ) (d : A) (l : List A) (low i : ℕ) where
  pub arranged-none : length l ≤ i → true ≡ arranged holds asked blank id low (drop i l)
  unfolding arranged
  arranged-none le = sym (ap (arranged holds asked blank id low) (drop_of_length-le l {i = i} le))

  module _ (lt : i < length l) where
    arranged-on : arranged holds asked blank id low (drop i l) ≡
        (if holds (get_or l i d)
        then ltb low (id (get_or l i d)) && asked (get_or l i d) && arranged holds asked blank id (id (get_or l i d)) (drop (i + 1) l)
        else all blank (drop i l))
    unfolding arranged all
    arranged-on = ap (arranged holds asked blank id low) (drop-on l d i lt) ∙ ap (λ (t : List A).
        (if holds (get_or l i d)
        then ltb low (id (get_or l i d)) && asked (get_or l i d) && arranged holds asked blank id (id (get_or l i d)) (drop (i + 1) l)
        else all blank t)) (sym (drop-on l d i lt))

    -- after a free place all are zero
    pub arranged-free : holds (get_or l i d) ≡ false → all blank (drop i l) ≡ arranged holds asked blank id low (drop i l)
    arranged-free h = sym (arranged-on ∙ rw h)

    module _ (h : holds (get_or l i d) ≡ true) where
      pub arranged-low : id (get_or l i d) ≤ low → false ≡ arranged holds asked blank id low (drop i l)
      arranged-low q = sym (arranged-on ∙ rw (h, le-ltb low (id (get_or l i d)) q))

      pub arranged-out-of : asked (get_or l i d) ≡ false → false ≡ arranged holds asked blank id low (drop i l)
      arranged-out-of q = sym (arranged-on ∙ rw (h, q, and-false))

      pub arranged-past : low < id (get_or l i d) → asked (get_or l i d) ≡ true →
          arranged holds asked blank id (id (get_or l i d)) (drop (i + 1) l) ≡ arranged holds asked blank id low (drop i l)
      arranged-past q a = sym (arranged-on ∙ rw (h, lt-ltb low (id (get_or l i d)) q, a))

-- one more test of held places, apart from the arrangement
module _ {A : Type 0} (holds asked also both blank : A → Bool) (id : A → ℕ) (free : (x : A) → blank x ≡ true → holds x ≡ false)
    (same : (x : A) → both x ≡ (asked x && also x)) where
  -- the test, passed by a free place
  abbrev passes : A → Bool
  passes x = not (holds x) || also x

  blanks-pass : (l : List A) → all blank l ≡ true → all passes l ≡ true
  unfolding all
  blanks-pass [] h = refl
  blanks-pass (x ∷ l) h = and_in (passes x) (all passes l) (rw (free x (and_l (blank x) (all blank l) h))) (blanks-pass l (and_r (blank x) (all blank l) h))

  absorbs : (p q : Bool) → (p ≡ true → q ≡ true) → p ≡ (p && q)
  absorbs true q h = sym (h refl)
  absorbs false q h = refl

  moved : (t a s r q : Bool) → (t && (a && s) && (r && q)) ≡ ((t && a && r) && (s && q))
  moved true true true r q = refl
  moved true true false true q = refl
  moved true true false false q = refl
  moved true false s r q = refl
  moved false a s r q = refl

  pub arranged-split : (low : ℕ) (l : List A) → arranged holds both blank id low l ≡ (arranged holds asked blank id low l && all passes l)
  unfolding arranged all
  arranged-split low [] = refl
  arranged-split low (x ∷ l) = go (holds x) refl (arranged-split (id x) l)
    where
      go : (h : Bool) → holds x ≡ h → arranged holds both blank id (id x) l ≡ (arranged holds asked blank id (id x) l && all passes l) →
          (if h then ltb low (id x) && both x && arranged holds both blank id (id x) l else blank x && all blank l) ≡
          ((if h then ltb low (id x) && asked x && arranged holds asked blank id (id x) l else blank x && all blank l) && ((not h || also x) && all passes l))
      go true e ih = rw (same x, ih) (moved (ltb low (id x)) (asked x) (also x) (arranged holds asked blank id (id x) l) (all passes l))
      go false e ih = absorbs (blank x && all blank l) (all passes l) (λ h. blanks-pass l (and_r (blank x) (all blank l) h))

-- what is asked of a held place
pub out_of_range : (a b : Bool) → a ≡ false → (a && b) ≡ false
out_of_range a b h = rw h

pub out-of-last : (a b : Bool) → b ≡ false → (a && b) ≡ false
out-of-last a b h = rw h (and-false a)

pub above-last : (a : Bool) (x last : ℕ) → last < x → (a && leb x last) ≡ false
above-last a x last h = out-of-last a (leb x last) (lt-leb x last h)

pub in-range : (a : Bool) (x last : ℕ) → a ≡ true → x ≤ last → (a && leb x last) ≡ true
in-range a x last h q = rw (h, le-leb x last q)

-- an order in range shows no more than all of it
pub display-in : (o : Regular) → regular_in_range o ≡ true → o.display ≤ o.quantity
unfolding regular_in_range within
display-in o h = leb-true o.display o.quantity (search (and_l, and_r, h) depth 12)

pub shows-less : (o : Regular) → (o.reserve ≡ o.quantity - o.display → ⊥) → shows_fully o ≡ false
unfolding shows_fully
shows-less o h = ne_eqb o.reserve (o.quantity - o.display) h

pub shows-all : (o : Regular) → o.reserve ≡ o.quantity - o.display → shows_fully o ≡ true
unfolding shows_fully
shows-all o h = eq-eqb o.reserve (o.quantity - o.display) h

-- Editions, arranged in both numbers ----------------------------------------------------------

and_same : (a : Bool) → a ≡ (a && a)
and_same true = refl
and_same false = refl

module _ (l : List Edition) (low past i : ℕ) where
  pub editions-none : length l ≤ i → true ≡ editions_from low past (drop i l)
  unfolding editions_from
  editions-none le = ap₂ (λ (a b : Bool). a && b) (arranged-none holds_edition edition_in_range blank_edition (λ e. e.edition) no_edition l low i le)
      (arranged-none holds_edition (λ _. true) blank_edition (λ e. e.message) no_edition l past i le)

  module _ (lt : i < length l) where
    pub editions-free : holds_edition (get_or l i no_edition) ≡ false → all blank_edition (drop i l) ≡ editions_from low past (drop i l)
    unfolding editions_from
    editions-free h = and_same _ ∙ ap₂ (λ (a b : Bool). a && b)
        (arranged-free holds_edition edition_in_range blank_edition (λ e. e.edition) no_edition l low i lt h)
        (arranged-free holds_edition (λ _. true) blank_edition (λ e. e.message) no_edition l past i lt h)

    module _ (h : holds_edition (get_or l i no_edition) ≡ true) where
      pub editions-low : (get_or l i no_edition).edition ≤ low → false ≡ editions_from low past (drop i l)
      unfolding editions_from
      editions-low q = rw (sym (arranged-low holds_edition edition_in_range blank_edition (λ e. e.edition) no_edition l low i lt h q))

      pub editions-late : (get_or l i no_edition).message ≤ past → false ≡ editions_from low past (drop i l)
      unfolding editions_from
      editions-late q = rw (sym (arranged-low holds_edition (λ _. true) blank_edition (λ e. e.message) no_edition l past i lt h q))
          (sym (and-false (arranged holds_edition edition_in_range blank_edition (λ e. e.edition) low (drop i l))))

      pub editions-out : edition_in_range (get_or l i no_edition) ≡ false → false ≡ editions_from low past (drop i l)
      unfolding editions_from
      editions-out q = rw (sym (arranged-out-of holds_edition edition_in_range blank_edition (λ e. e.edition) no_edition l low i lt h q))

      pub editions-past : low < (get_or l i no_edition).edition → past < (get_or l i no_edition).message → edition_in_range (get_or l i no_edition) ≡ true →
          editions_from (get_or l i no_edition).edition (get_or l i no_edition).message (drop (i + 1) l) ≡ editions_from low past (drop i l)
      unfolding editions_from
      editions-past q k a = ap₂ (λ (a b : Bool). a && b)
          (arranged-past holds_edition edition_in_range blank_edition (λ e. e.edition) no_edition l low i lt h q a)
          (arranged-past holds_edition (λ _. true) blank_edition (λ e. e.message) no_edition l past i lt h k refl)

-- the figure that it sets
module _ (e : Edition) where
  pub figure-increment : e.figure ≤ 7 → is_increment e.value ≡ figure_in_range e
  unfolding figure_in_range
  figure-increment h = rw (le-leb e.figure 7 h)

  pub figure-none : 7 < e.figure → (e.figure ≡ 8 → ⊥) → false ≡ figure_in_range e
  unfolding figure_in_range
  figure-none h q = rw (lt-leb e.figure 7 h, ne_eqb e.figure 8 q)

  pub figure-percent : e.figure ≡ 8 → leb e.value 50 ≡ figure_in_range e
  unfolding figure_in_range is_percent
  figure-percent h = rw h (within-top 0 50 e.value (omega arith))

-- its numbers are in range
pub edition-range : (e : Edition) → e.edition ≤ 4294967295 → e.message ≤ 4294967295 → figure_in_range e ≡ edition_in_range e
unfolding edition_in_range is_edition
edition-range e a b = rw (inside 0 4294967295 e.edition (omega arith) a, le-leb e.message 4294967295 b) (sym (and-true _ ∙ and-true _))

-- Generations: numbers that do not fall -------------------------------------------------------

swapped : (a b c d : Bool) → ((a && b) && (c && d)) ≡ ((a && c) && (b && d))
swapped true b true d = refl
swapped true true false d = refl
swapped true false false d = refl
swapped false b c d = refl

module _ (l : List ℕ) (low i : ℕ) where
  pub numbers-none : length l ≤ i → true ≡ numbers_from low (drop i l)
  unfolding numbers_from unfallen all
  numbers-none le = sym (ap (numbers_from low) (drop_of_length-le l {i = i} le))

  module _ (lt : i < length l) where
    numbers_on : numbers_from low (drop i l) ≡ ((leb low (get_or l i 0) && leb (get_or l i 0) 4294967295) && numbers_from (get_or l i 0) (drop (i + 1) l))
    unfolding numbers_from unfallen all
    numbers_on = ap (numbers_from low) (drop-on l 0 i lt) ∙ swapped (leb low (get_or l i 0)) (unfallen (get_or l i 0) (drop (i + 1) l))
        (leb (get_or l i 0) 4294967295) (all (λ n. leb n 4294967295) (drop (i + 1) l))

    pub numbers-fall : (leb low (get_or l i 0) && leb (get_or l i 0) 4294967295) ≡ false → false ≡ numbers_from low (drop i l)
    numbers-fall h = sym (numbers_on ∙ rw h)

    pub numbers-past : (leb low (get_or l i 0) && leb (get_or l i 0) 4294967295) ≡ true → numbers_from (get_or l i 0) (drop (i + 1) l) ≡ numbers_from low (drop i l)
    numbers-past h = sym (numbers_on ∙ rw h)

-- A limit of zero -----------------------------------------------------------------------------

not_true : (b : Bool) → (b ≡ true → ⊥) → b ≡ false
not_true true h = absurd (h refl)
not_true false h = refl

int-zero : (z : ℤ) → int_eq z (pos 0) ≡ eqb (nat_abs z) 0
int-zero (pos n) =
    elim (ℕ_discrete n 0) [
      | yes e ↦ (signed_Decides (pos n) (pos 0)).1 (ap pos e) ∙ sym (eq-eqb n 0 e)
      | no k ↦ not_true _ (λ h. k (ap nat_abs ((signed_Decides (pos n) (pos 0)).0 h))) ∙ sym (ne_eqb n 0 k)
    ]
int-zero (negsuc n) =
    not_true _ (λ h. let e : suc n ≡ 0 = ap nat_abs ((signed_Decides (negsuc n) (pos 0)).0 h) in omega arith)
    ∙ sym (ne_eqb (suc n) 0 (λ e. omega arith))

-- A place that is equal to a free one ---------------------------------------------------------

and_3 : (a b c : Bool) → (a && (b && c)) ≡ (a && b && c)
and_3 true b c = refl
and_3 false b c = refl

and_4 : (a b c d : Bool) → (a && (b && (c && d))) ≡ (a && b && c && d)
and_4 true b c d = and_3 b c d
and_4 false b c d = refl

and_5 : (a b c d e : Bool) → (a && (b && (c && (d && e)))) ≡ (a && b && c && d && e)
and_5 true b c d e = and_4 b c d e
and_5 false b c d e = refl

and_6 : (a b c d e f : Bool) → (a && (b && (c && (d && (e && f))))) ≡ (a && b && c && d && e && f)
and_6 true b c d e f = and_5 b c d e f
and_6 false b c d e f = refl

and_7 : (a b c d e f g : Bool) → (a && (b && (c && (d && (e && (f && g)))))) ≡ (a && b && c && d && e && f && g)
and_7 true b c d e f g = and_6 b c d e f g
and_7 false b c d e f g = refl

and_8 : (a b c d e f g h : Bool) → (a && (b && (c && (d && (e && (f && (g && h))))))) ≡ (a && b && c && d && e && f && g && h)
and_8 true b c d e f g h = and_7 b c d e f g h
and_8 false b c d e f g h = refl

and_9 : (a b c d e f g h i : Bool) → (a && (b && (c && (d && (e && (f && (g && (h && i)))))))) ≡ (a && b && c && d && e && f && g && h && i)
and_9 true b c d e f g h i = and_8 b c d e f g h i
and_9 false b c d e f g h i = refl

and_10 : (a b c d e f g h i j : Bool) → (a && (b && (c && (d && (e && (f && (g && (h && (i && j))))))))) ≡ (a && b && c && d && e && f && g && h && i && j)
and_10 true b c d e f g h i j = and_9 b c d e f g h i j
and_10 false b c d e f g h i j = refl

pub regular-same : (o : Regular) → (eqb o.id 0 && (eqb o.series 0 && (eqb o.side 0 && (eqb o.price 0 && (eqb o.quantity 0 && (eqb o.display 0 && (eqb o.reserve 0))))))) ≡ blank_regular o
unfolding blank_regular
regular-same o = and_7 (eqb o.id 0) (eqb o.series 0) (eqb o.side 0) (eqb o.price 0) (eqb o.quantity 0) (eqb o.display 0) (eqb o.reserve 0)

pub complex-same : (c : Complex) → (eqb c.id 0 && (eqb c.series1 0 && (eqb c.side1 0 && (eqb c.series2 0 && (eqb c.side2 0 && (eqb c.class 0 && (int_eq c.limit (pos 0) && (eqb c.quantity 0 && (eqb c.ratio1 0 && (eqb c.ratio2 0)))))))))) ≡ blank_complex c
unfolding blank_complex
complex-same c =
    ap (λ (t : Bool). eqb c.id 0 && (eqb c.series1 0 && (eqb c.side1 0 && (eqb c.series2 0 && (eqb c.side2 0 && (eqb c.class 0 && (t && (eqb c.quantity 0 && (eqb c.ratio1 0 && (eqb c.ratio2 0)))))))))) (int-zero c.limit)
    ∙ and_10 (eqb c.id 0) (eqb c.series1 0) (eqb c.side1 0) (eqb c.series2 0) (eqb c.side2 0) (eqb c.class 0) (eqb (nat_abs c.limit) 0) (eqb c.quantity 0) (eqb c.ratio1 0) (eqb c.ratio2 0)

pub edition-same : (e : Edition) → (eqb e.edition 0 && (eqb e.message 0 && (eqb e.figure 0 && (eqb e.value 0)))) ≡ blank_edition e
unfolding blank_edition
edition-same e = and_4 (eqb e.edition 0) (eqb e.message 0) (eqb e.figure 0) (eqb e.value 0)

pub and_assoc : (a b c d : Bool) → (a && b && c && d) ≡ (a && (b && c && d))
and_assoc true b c d = refl
and_assoc false b c d = refl

-- Three tests, one after another --------------------------------------------------------------

module _ (a b c : Bool) where
  pub first-fails : a ≡ false → false ≡ (a && b && c)
  first-fails h = rw h

  pub second-fails : b ≡ false → false ≡ (a && b && c)
  second-fails h = rw (h, and-false a)

  pub third-fails : c ≡ false → false ≡ (a && b && c)
  third-fails h = rw (h, and-false (a && b))

  pub last-decides : a ≡ true → b ≡ true → c ≡ (a && b && c)
  last-decides h q = rw (h, q)
