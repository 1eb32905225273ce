-- Laws of what is asked of orders beside one another, as the code tests it.
use Rattle.std.specs.Prelude.{Option, is_some}
use mathlib.Core.Path.{◌≡◌, refl, sym, ap, ap₂, ◌∙◌}
use mathlib.Core.Bool.{Bool, true, false, not, ◌&&◌, ◌||◌}
use mathlib.Core.List.{List, [], ◌∷◌, ◌++◌}
use Prim.Native.Nat.{ℕ, zero, suc, ◌+◌, ◌-◌, ◌≤◌, ◌<◌, ◌/◌, ◌%◌}
use native.Mathlib.Omega.{arith}
use native.Mathlib.Numerals.{add-one}
use borrow.Author.Tests.{eq-eqb, ne_eqb}
use lib.Dec.{eqb, leb, ltb}
use lib.ListN.{replicate}
use Rattle.rules.specs.declared.Regular.{Regular}
use Rattle.rules.specs.declared.Complex.{Complex}
use Rattle.rules.specs.declared.Legging.{Legging}
use Rattle.rules.specs.declared.Edition.{Edition}
use Rattle.rules.specs.declared.Venue.{Venue}
use Rattle.rules.specs.Base.{held, all}
use Rattle.rules.specs.Words.{no_regular, is_id, is_price, is_quantity, one_to_one}
use Rattle.rules.specs.Settings.{increment}
use Rattle.rules.specs.Prices.{best_own}
use Rattle.rules.specs.Refusals.{on_increment}
use Rattle.rules.specs.Standing.{has_leg, parent_of, verdict, stands}
use Rattle.rules.specs.Complex.{rests_complex}
use Rattle.rules.specs.Places.{blank_legging}
use Rattle.rules.specs.Sound.{apart, legging_sound, leggings_sound, ids_distinct, follows}
use Rattle.places.specs.Layout.{upto, in_use, regular_in, regulars_used, legging_in, edition_in, venue_of}
use Rattle.levels.proofs.Scans.{upto-on, upto-end}
use Rattle.book.specs.Picks.{complex_found}
use Rattle.std.proofs.Math.Bool.{not-not}
use Rattle.book.proofs.FirstPlace.{complex-found}
use Rattle.soundness.specs.Checked.{priced_on, on_increments, is_alone, legging_in_range, has_home}
use Rattle.sound_places.proofs.Passes.{all_past, all-stop, all_none, and_assoc}

-- A pass over numbered places -----------------------------------------------------------------

module _ {A : Type 0} (f : A → Bool) (g : ℕ → A) (i n : ℕ) where
  pub scan-past : i < n → f (g i) ≡ true → all f (upto g (i + 1) (n - (i + 1))) ≡ all f (upto g i (n - i))
  scan-past lt h = all_past f (upto g i (n - i)) (upto g (i + 1) (n - (i + 1))) (g i) (upto-on g i n lt) h

  pub scan-stop : i < n → f (g i) ≡ false → false ≡ all f (upto g i (n - i))
  scan-stop lt h = all-stop f (upto g i (n - i)) (upto g (i + 1) (n - (i + 1))) (g i) (upto-on g i n lt) h

  pub scan-none : n ≤ i → true ≡ all f (upto g i (n - i))
  scan-none le = all_none f (upto g i (n - i)) (upto-end g i n le)

-- free places pass
all-free : {A : Type 0} (f : A → Bool) (none : A) → f none ≡ true → (l : List A) (k : ℕ) → all f (l ++ replicate k none) ≡ all f l
unfolding all
all-free f none h [] zero = refl
all-free f none h [] (suc k) = rw h (all-free f none h [] k)
all-free f none h (x ∷ l) k = ap (λ (t : Bool). f x && t) (all-free f none h l k)

regulars-are : (b : List ℕ) → (venue_of b).regular ≡ upto (regular_in b) 0 (regulars_used b) ++ replicate (128 - regulars_used b) no_regular
unfolding venue_of in_use
regulars-are b = refl

-- a pass over the regular places in use is one over all
regulars-scan : (b : List ℕ) (f : Regular → Bool) → f no_regular ≡ true → all f (upto (regular_in b) 0 (regulars_used b)) ≡ all f (venue_of b).regular
regulars-scan b f h = sym (all-free f no_regular h (upto (regular_in b) 0 (regulars_used b)) (128 - regulars_used b)) ∙ ap (all f) (sym (regulars-are b))

-- Prices --------------------------------------------------------------------------------------

pub series-in : (b : List ℕ) (i : ℕ) → (regular_in b i).series < 8
unfolding regular_in
series-in b i = omega arith

pub priced-free : (v : Venue) (o : Regular) → o.quantity ≡ 0 → true ≡ priced_on v o
unfolding priced_on
priced-free v o h = rw (eq-eqb o.quantity 0 h)

pub priced-held : (v : Venue) (o : Regular) (x : ℕ) → (o.quantity ≡ 0 → ⊥) → x ≡ increment v o.series → eqb (o.price % x) 0 ≡ priced_on v o
unfolding priced_on on_increment
priced-held v o x h e = rw (ne_eqb o.quantity 0 h, e)

pub prices-scan : (b : List ℕ) → all (priced_on (venue_of b)) (upto (regular_in b) 0 (regulars_used b)) ≡ on_increments (venue_of b)
unfolding on_increments
prices-scan b = regulars-scan b (priced_on (venue_of b)) (sym (priced-free (venue_of b) no_regular refl))

-- Ids -----------------------------------------------------------------------------------------

pub alone-free : (v : Venue) (o : Regular) → o.quantity ≡ 0 → true ≡ is_alone v o
unfolding is_alone
alone-free v o h = rw (eq-eqb o.quantity 0 h)

module _ (v : Venue) (o : Regular) (h : o.quantity ≡ 0 → ⊥) where
  alone-held : not (rests_complex v o.id) ≡ is_alone v o
  unfolding is_alone
  alone-held = rw (ne_eqb o.quantity 0 h)

  -- it is alone where no complex order has its id
  pub alone-none : (r : Option ℕ) → r ≡ complex_found v o.id → (t : Bool) → is_some r ≡ not t → t ≡ is_alone v o
  alone-none r e t n = sym (not-not t) ∙ ap not (sym n ∙ ap is_some e ∙ complex-found v o.id) ∙ alone-held

distinct-is : (v : Venue) → all (is_alone v) v.regular ≡ ids_distinct v
unfolding ids_distinct is_alone
distinct-is v = refl

pub ids-scan : (b : List ℕ) → all (is_alone (venue_of b)) (upto (regular_in b) 0 (regulars_used b)) ≡ ids_distinct (venue_of b)
ids-scan b = regulars-scan b (is_alone (venue_of b)) (sym (alone-free (venue_of b) no_regular refl)) ∙ distinct-is (venue_of b)

-- Series --------------------------------------------------------------------------------------

module _ (v : Venue) (s x y : ℕ) (e : x ≡ best_own v s 0) (q : y ≡ best_own v s 1) where
  apart_of : (not (held x) || not (held y) || ltb x y) ≡ apart v s
  unfolding apart
  apart_of = ap₂ (λ (a b : ℕ). not (held a) || not (held b) || ltb a b) e q

  pub apart-no-bid : x ≡ 0 → true ≡ apart v s
  apart-no-bid h = rw (eq-eqb x 0 h) at apart_of

  module _ (h : x ≡ 0 → ⊥) where
    pub apart-no-offer : y ≡ 0 → true ≡ apart v s
    apart-no-offer z = rw (ne_eqb x 0 h, eq-eqb y 0 z) at apart_of

    pub apart-both : (y ≡ 0 → ⊥) → ltb x y ≡ apart v s
    apart-both z = rw (ne_eqb x 0 h, ne_eqb y 0 z) at apart_of

-- Editions and generations --------------------------------------------------------------------

pub editions-scan : (b : List ℕ) (f : Edition → Bool) → all f (upto (edition_in b) 0 (32 - 0)) ≡ all f (venue_of b).editions
unfolding venue_of
editions-scan b f = refl

module _ (number : ℕ) (v : Venue) where
  pub follows-not : all (λ e. ltb e.message number) v.editions ≡ false → false ≡ follows number v
  unfolding follows
  follows-not h = rw h

  pub follows-rest : all (λ e. ltb e.message number) v.editions ≡ true → all (λ g. all (λ n. ltb n number) g.messages) v.generations ≡ follows number v
  unfolding follows
  follows-rest h = rw h

-- Legging orders ------------------------------------------------------------------------------

-- a legging place equals the free one where all of it is zero
pub legging-same : (l : Legging) → (eqb l.parent 0 && (eqb l.price 0 && eqb l.quantity 0)) ≡ blank_legging l
unfolding blank_legging
legging-same l = go (eqb l.parent 0)
  where
    go : (a : Bool) → (a && (eqb l.price 0 && eqb l.quantity 0)) ≡ ((a && eqb l.price 0) && eqb l.quantity 0)
    go true = refl
    go false = refl

module _ (v : Venue) (l : Legging) (s d : ℕ) (c : Complex) (e : c ≡ parent_of v l) where
  home-is : (has_leg c s d && one_to_one c && leb l.quantity c.quantity) ≡ has_home v l s d
  unfolding has_home
  home-is = ap (λ (x : Complex). has_leg x s d && one_to_one x && leb l.quantity x.quantity) e

  pub home-none : has_leg c s d ≡ false → false ≡ has_home v l s d
  home-none h = rw h at home-is

  module _ (h : has_leg c s d ≡ true) where
    pub home-uneven : one_to_one c ≡ false → false ≡ has_home v l s d
    home-uneven u = rw (h, u) at home-is

    pub home-open : one_to_one c ≡ true → leb l.quantity c.quantity ≡ has_home v l s d
    home-open u = rw (h, u) at home-is

pub sound-free : (v : Venue) (n : ℕ) (l : Legging) → l.quantity ≡ 0 → blank_legging l ≡ legging_sound v n l
unfolding legging_sound
sound-free v n l h = rw (eq-eqb l.quantity 0 h)

module _ (v : Venue) (n : ℕ) (l : Legging) (h : l.quantity ≡ 0 → ⊥) where
  pub sound-held : (legging_in_range l && has_home v l (n / 2) (n % 2) && stands (verdict v n l)) ≡ legging_sound v n l
  unfolding legging_sound legging_in_range has_home
  sound-held =
      rw (ne_eqb l.quantity 0 h)
      (ap (λ (t : Bool). t && stands (verdict v n l))
      (sym (and_assoc (is_id l.parent && is_price l.price && is_quantity l.quantity) (has_leg (parent_of v l) (n / 2) (n % 2))
      (one_to_one (parent_of v l)) (leb l.quantity (parent_of v l).quantity))))

leggings-on : (b : List ℕ) (v : Venue) (n : ℕ) → n < 16 → leggings_sound v n (upto (legging_in b) n (16 - n)) ≡
    (legging_sound v n (legging_in b n) && leggings_sound v (n + 1) (upto (legging_in b) (n + 1) (16 - (n + 1))))
unfolding leggings_sound
leggings-on b v n lt =
    ap (leggings_sound v n) (upto-on (legging_in b) n 16 lt)
    ∙ ap (λ (k : ℕ). legging_sound v n (legging_in b n) && leggings_sound v k (upto (legging_in b) (n + 1) (16 - (n + 1)))) (sym (add-one n))

module _ (b : List ℕ) (v : Venue) (n : ℕ) where
  pub leggings-past : n < 16 → legging_sound v n (legging_in b n) ≡ true →
      leggings_sound v (n + 1) (upto (legging_in b) (n + 1) (16 - (n + 1))) ≡ leggings_sound v n (upto (legging_in b) n (16 - n))
  leggings-past lt h = sym (leggings-on b v n lt ∙ rw h)

  pub leggings-stop : n < 16 → legging_sound v n (legging_in b n) ≡ false → false ≡ leggings_sound v n (upto (legging_in b) n (16 - n))
  leggings-stop lt h = sym (leggings-on b v n lt ∙ rw h)

  pub leggings-none : 16 ≤ n → true ≡ leggings_sound v n (upto (legging_in b) n (16 - n))
  unfolding leggings_sound
  leggings-none le = sym (ap (leggings_sound v n) (upto-end (legging_in b) n 16 le))

leggings-are : (b : List ℕ) → upto (legging_in b) 0 (16 - 0) ≡ (venue_of b).legging
unfolding venue_of
leggings-are b = refl

pub leggings-scan : (b : List ℕ) → leggings_sound (venue_of b) 0 (upto (legging_in b) 0 (16 - 0)) ≡ leggings_sound (venue_of b) 0 (venue_of b).legging
leggings-scan b = ap (leggings_sound (venue_of b) 0) (leggings-are b)
