-- What is picked of the regular book stands at a place in use; the tests by which the orders at a price and those that are met are told; and their rank.
use Rattle.std.specs.Prelude.{Option, Some, None}
use mathlib.Core.Path.{◌≡◌, refl, sym, ap, ap₂, ◌∙◌}
use mathlib.Core.Bool.{Bool, true, false, ◌&&◌, true≢false}
use mathlib.Core.List.{List}
use Prim.Native.Nat.{ℕ, ◌-◌, ◌<◌}
use native.Mathlib.Omega.{arith}
use native.Mathlib.Decide.{dec_lt}
use borrow.Author.Tests.{eqb-true, eq-eqb, ne_eqb}
use Rattle.rules.proofs.Tests.{and_l, and_r, held-pos, pos-held}
use Rattle.rules.proofs.Better.{is_false}
use lib.Dec.{eqb, ltb}
use Rattle.rules.specs.declared.Regular.{Regular}
use Rattle.rules.specs.Base.{held, Choice, nobody, picked, ranked, first}
use Rattle.rules.specs.Words.{opposite, place_of, no_regular, earlier}
use Rattle.rules.specs.Prices.{better, reaches, rests_at, shown_size, shows_at, shows_for}
use Rattle.rules.specs.Order.{is_met, shown_then_id, price_then_id}
use Rattle.rules.specs.Sound.{shows_fully}
use Rattle.rules.proofs.Picking.{At, Chosen, first-chosen}
use Rattle.places.specs.Layout.{in_use, regulars_used, regular_in, regular_key, venue_of}
use Rattle.places.proofs.Tables.{used-at, used-free}
use Rattle.prices.specs.Picks.{choice_of}
use Rattle.book.specs.Picks.{pick_of}

-- What is picked ------------------------------------------------------------------------------

pub picked-is : (x : Choice Regular) (i : ℕ) (o : Regular) → Some (i, o) ≡ pick_of x → x ≡ picked i o
unfolding pick_of
picked-is nobody i o e = let z : ◌≡◌ {A = ℕ} 0 1 = cc in absurd (omega arith)
picked-is (picked j m) i o e = let h : ◌≡◌ {A = ℕ × Regular} (j, m) (i, o) = cc in ap (λ (x : ℕ × Regular). picked x.0 x.1) h

pub nobody-is : (x : Choice Regular) → None ≡ pick_of x → x ≡ nobody
unfolding pick_of
nobody-is nobody e = refl
nobody-is (picked j m) e = let z : ◌≡◌ {A = ℕ} 0 1 = cc in absurd (omega arith)

-- of a table whose free places are no candidates
module _ {A : Type 0} (candidate : A → Bool) (before : A → A → Bool) (d : A) (off : candidate d ≡ false) where
  -- what is picked of a table stands at a place in use
  pub record Chooses (f : ℕ → A) (n : ℕ) (i : ℕ) (a : A) : Type 0 where
    pub used : i < n
    pub at : f i ≡ a
    pub is : candidate a ≡ true

  pub picked-used : (f : ℕ → A) (n all : ℕ) (i : ℕ) (a : A) → first candidate before (in_use f d n all) ≡ picked i a → Chooses f n i a
  picked-used f n all i a e = go (first candidate before (in_use f d n all)) e (first-chosen d candidate before (in_use f d n all))
    where
      inside : At d candidate (in_use f d n all) i a → Chooses f n i a
      inside x = elim (dec_lt i n) [
        | yes q ↦ record { used = q; at = sym (used-at f d n all i q) ∙ x.at; is = x.is }
        | no q ↦ absurd (true≢false (sym x.is ∙ ap candidate (sym (sym (used-free f d n all i (omega arith)) ∙ x.at)) ∙ off))
      ]

      go : (y : Choice A) → y ≡ picked i a → Chosen d candidate (in_use f d n all) y → Chooses f n i a
      go nobody r x = let z : ◌≡◌ {A = ℕ} 0 1 = cc in absurd (omega arith)
      go (picked j b) r x = let p : j ≡ i = cc in let q : b ≡ a = cc in inside (rw (p, q) at x)

-- of the regular book
module _ (candidate : Regular → Bool) (before : Regular → Regular → Bool) (off : candidate no_regular ≡ false) (b : List ℕ) where
  pub regular-used : (i : ℕ) (o : Regular) → first candidate before (venue_of b).regular ≡ picked i o → Chooses candidate before no_regular off (regular_in b) (regulars_used b) i o
  unfolding venue_of
  regular-used i o e = picked-used candidate before no_regular off (regular_in b) (regulars_used b) 128 i o e

-- The candidates ------------------------------------------------------------------------------

pub met-free : (s d p : ℕ) → is_met s d p no_regular ≡ false
unfolding is_met rests_at
met-free s d p = refl

pub for-free : (s d p : ℕ) → shows_for s d p no_regular ≡ false
unfolding shows_for shows_at shown_size
for-free s d p = refl

-- orders with another key are no candidates
other_key : (t : Bool) (s d : ℕ) (o : Regular) → (regular_key o ≡ place_of s d → ⊥) → (t && eqb o.series s && eqb o.side d) ≡ false
unfolding regular_key
other_key t s d o n = is_false _ (λ h. n (ap₂ place_of (series h) (side h)))
  where
    side : (t && eqb o.series s && eqb o.side d) ≡ true → o.side ≡ d
    side h = eqb-true _ _ (and_r (t && eqb o.series s) (eqb o.side d) h)

    series : (t && eqb o.series s && eqb o.side d) ≡ true → o.series ≡ s
    series h = eqb-true _ _ (and_r t (eqb o.series s) (and_l (t && eqb o.series s) (eqb o.side d) h))

pub for-key : (s d p : ℕ) (o : Regular) → (regular_key o ≡ place_of s d → ⊥) → shows_for s d p o ≡ false
unfolding shows_for shows_at
for-key s d p o n = rw (other_key (held (shown_size o)) s d o n)

pub met-key : (s d p : ℕ) (o : Regular) → (regular_key o ≡ place_of s (opposite d) → ⊥) → is_met s d p o ≡ false
unfolding is_met rests_at
met-key s d p o n = rw (other_key (held o.quantity) s (opposite d) o n)

-- an order with a shown quantity that shows what it should shows some size
pub fully-some : (o : Regular) → held o.quantity ≡ true → held o.display ≡ true → shows_fully o ≡ true → held (shown_size o) ≡ true
unfolding shows_fully shown_size
fully-some o h q z =
    let a = held-pos o.quantity h in
    let b = held-pos o.display q in
    let e = eqb-true o.reserve (o.quantity - o.display) z in
    pos-held (o.quantity - o.reserve) (omega arith)

-- an order that shows x, test by test
module _ (s d p : ℕ) (o : Regular) (x : ℕ) (e : x ≡ shown_size o) where
  pub shows-none : x ≡ 0 → false ≡ shows_for s d p o
  unfolding shows_for shows_at
  shows-none h = rw (← e, h)

  module _ (h : x ≡ 0 → ⊥) where
    pub shows-aside : (o.series ≡ s → ⊥) → false ≡ shows_for s d p o
    unfolding shows_for shows_at
    shows-aside q = rw (← e, ne_eqb x 0 h, ne_eqb o.series s q)

    pub shows-facing : o.series ≡ s → (o.side ≡ d → ⊥) → false ≡ shows_for s d p o
    unfolding shows_for shows_at
    shows-facing q r = rw (← e, ne_eqb x 0 h, eq-eqb o.series s q, ne_eqb o.side d r)

    pub shows-price : o.series ≡ s → o.side ≡ d → eqb o.price p ≡ shows_for s d p o
    unfolding shows_for shows_at
    shows-price q r = rw (← e, ne_eqb x 0 h, eq-eqb o.series s q, eq-eqb o.side d r)

-- an order that is met, test by test
module _ (s d p : ℕ) (o : Regular) where
  pub met-none : o.quantity ≡ 0 → false ≡ is_met s d p o
  unfolding is_met rests_at
  met-none h = rw (eq-eqb o.quantity 0 h)

  module _ (h : o.quantity ≡ 0 → ⊥) where
    pub met-aside : (o.series ≡ s → ⊥) → false ≡ is_met s d p o
    unfolding is_met rests_at
    met-aside q = rw (ne_eqb o.quantity 0 h, ne_eqb o.series s q)

    module _ (q : o.series ≡ s) (other : ℕ) (e : other ≡ opposite d) where
      pub met-own : (o.side ≡ other → ⊥) → false ≡ is_met s d p o
      unfolding is_met rests_at
      met-own r = rw (ne_eqb o.quantity 0 h, eq-eqb o.series s q, ne_eqb o.side (opposite d) (λ z. r (z ∙ sym e)))

      pub met-reached : o.side ≡ other → (t : Bool) → t ≡ reaches d p o.price → t ≡ is_met s d p o
      unfolding is_met rests_at
      met-reached r t w = rw (ne_eqb o.quantity 0 h, eq-eqb o.series s q, eq-eqb o.side (opposite d) (r ∙ e)) w

-- Rank ----------------------------------------------------------------------------------------

-- at one price, of orders that show x and y
module _ (a m : Regular) (x y : ℕ) (ex : x ≡ shown_size a) (ey : y ≡ shown_size m) where
  pub shown-alone : (x ≡ 0 → ⊥) → y ≡ 0 → true ≡ shown_then_id a m
  unfolding shown_then_id
  shown-alone p q = rw (← ex, ← ey, ne_eqb x 0 p, q)

  pub shown-after : x ≡ 0 → (y ≡ 0 → ⊥) → false ≡ shown_then_id a m
  unfolding shown_then_id
  shown-after p q = rw (← ex, ← ey, p, ne_eqb y 0 q)

  pub shown-neither : x ≡ 0 → y ≡ 0 → ltb a.id m.id ≡ shown_then_id a m
  unfolding shown_then_id earlier
  shown-neither p q = rw (← ex, ← ey, p, q)

  pub shown-both : (x ≡ 0 → ⊥) → (y ≡ 0 → ⊥) → ltb a.id m.id ≡ shown_then_id a m
  unfolding shown_then_id earlier
  shown-both p q = rw (← ex, ← ey, ne_eqb x 0 p, ne_eqb y 0 q)

module _ (a m : Regular) where
  pub rank-better : better a.side a.price m.price ≡ true → true ≡ price_then_id a m
  unfolding price_then_id
  rank-better h = rw h

  module _ (h : better a.side a.price m.price ≡ false) where
    pub rank-worse : (a.price ≡ m.price → ⊥) → false ≡ price_then_id a m
    unfolding price_then_id
    rank-worse n = rw (h, ne_eqb a.price m.price n)

    pub rank_same : a.price ≡ m.price → (t : Bool) → t ≡ shown_then_id a m → t ≡ price_then_id a m
    unfolding price_then_id
    rank_same q t e = rw (h, eq-eqb a.price m.price q) e

-- beside what was picked before
pick-choice : (x : Option (ℕ × Regular)) → pick_of (choice_of x) ≡ x
unfolding pick_of choice_of
pick-choice None = refl
pick-choice (Some x) = refl

choice-pick : (x : Choice Regular) → choice_of (pick_of x) ≡ x
unfolding pick_of choice_of
choice-pick nobody = refl
choice-pick (picked i o) = refl

pub pick-ranked : (best r : Option (ℕ × Regular)) (n : ℕ) (m : Regular) → choice_of r ≡ ranked price_then_id n m (choice_of best) →
    (x : Choice Regular) → best ≡ pick_of x → r ≡ pick_of (ranked price_then_id n m x)
pick-ranked best r n m e x p =
    sym (pick-choice r)
    ∙ ap pick_of (e ∙ ap (λ (b : Option (ℕ × Regular)). ranked price_then_id n m (choice_of b)) p ∙ ap (ranked price_then_id n m) (choice-pick x))
