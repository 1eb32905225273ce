-- Ids rise with the places, so the earliest order is the first of the list: who is taken and who is met first, and where an id stands.
use Rattle.std.specs.Prelude.{if◌then◌else◌, Some, None}
use mathlib.Core.Path.{◌≡◌, refl, sym, ap, ◌∙◌}
use mathlib.Core.Bool.{Bool, true, false, ◌&&◌, ◌||◌, true≢false}
use mathlib.Core.List.{List, [], ◌∷◌}
use Prim.Native.Nat.{ℕ, zero, suc, ◌+◌, ◌≤◌, ◌<◌}
use native.Mathlib.Nat.{zero-add}
use native.Mathlib.Omega.{arith}
use native.Mathlib.Decide.{dec_lt}
use borrow.Author.Tests.{eqb-true, eq-eqb, ne_eqb, le-ltb}
use lib.Dec.{eqb}
use lib.ListN.{length, get_or}
use Rattle.rules.specs.declared.Regular.{Regular}
use Rattle.rules.specs.Base.{held, Choice, nobody, picked, ranked, first_from, first, place_where}
use Rattle.rules.specs.Words.{opposite, no_regular, regular_at, earlier, is_regular_of}
use Rattle.rules.specs.Complex.{rests_regular, regular_place}
use Rattle.rules.specs.Prices.{better, reaches, rests_at, shown_size, shows_at, shows_for, best_in}
use Rattle.rules.specs.Order.{is_met, shown_then_id, price_then_id}
use Rattle.rules.specs.Generation.{reaches_any}
use Rattle.rules.proofs.Tests.{and_l, and_r, and-false}
use Rattle.rules.proofs.Better.{is_false, best-best, better-total}
use Rattle.rules.proofs.Sizes.{shows-held, shows-rests, rests-shows, rests-held, rests-side, best-is}
use Rattle.rules.proofs.Meeting.{both-show}
use Rattle.rules.proofs.Filling.{held_fits}
use Rattle.rules.proofs.Finding.{where-passes, where-fits}
use Rattle.places.specs.Layout.{regular_in, regulars_used, venue_of, Orderly, Right, Dense}
use Rattle.places.proofs.Parts.{regulars-few}
use Rattle.places.proofs.Tables.{used-at, used-free}
use Rattle.book.specs.Picks.{pick_of, regular_found}
use Rattle.book.proofs.FirstPlace.{where-first, found_in, found_at, found_none, regular-free}
use Rattle.book.proofs.PicksLaws.{for-free}

-- The pick, told by its place -----------------------------------------------------------------

module _ {A : Type 0} (d : A) (candidate : A → Bool) (before : A → A → Bool) where
  -- the candidate at place i ranks before those at the places before it, and none after it ranks before it
  record Foremost (l : List A) (i : ℕ) : Type 0 where
    fits : i < length l
    is : candidate (get_or l i d) ≡ true
    early : (j : ℕ) → j < i → candidate (get_or l j d) ≡ true → before (get_or l i d) (get_or l j d) ≡ true
    late : (j : ℕ) → i < j → candidate (get_or l j d) ≡ true → before (get_or l j d) (get_or l i d) ≡ false

  -- a candidate before which none of l ranks stays the pick
  stays : (n : ℕ) (a : A) (m : ℕ) (l : List A) → ((j : ℕ) → candidate (get_or l j d) ≡ true → before (get_or l j d) a ≡ false) →
      ranked before n a (first_from candidate before m l) ≡ picked n a
  unfolding ranked first_from
  stays n a m [] h = refl
  stays n a m (b ∷ l) h = go (candidate b) refl (first_from candidate before (suc m) l) (stays n a (suc m) l (λ j q. h (suc j) q))
    where
      two : (t : Bool) (j : ℕ) (c : A) → before b a ≡ false → ranked before n a (picked j c) ≡ picked n a → ranked before n a (if t then picked j c else picked m b) ≡ picked n a
      two true j c e g = g
      two false j c e g = rw e

      onto : (x : Choice A) → before b a ≡ false → ranked before n a x ≡ picked n a → ranked before n a (ranked before m b x) ≡ picked n a
      onto nobody e g = rw e
      onto (picked j c) e g = two (before c b) j c e g

      go : (t : Bool) → candidate b ≡ t → (x : Choice A) → ranked before n a x ≡ picked n a → ranked before n a (if t then ranked before m b x else x) ≡ picked n a
      go true e x g = onto x (h 0 e) g
      go false e x g = g

  foremost-from : (n : ℕ) (l : List A) (i : ℕ) → Foremost l i → first_from candidate before n l ≡ picked (n + i) (get_or l i d)
  unfolding ranked first_from
  foremost-from n [] i f = let z = f.fits in absurd (omega arith)
  foremost-from n (a ∷ l) zero f =
      let e : n + 0 ≡ n = omega arith in
      rw (f.is, e) (stays n a (suc n) l (λ j q. f.late (suc j) (omega arith) q))
  foremost-from n (a ∷ l) (suc i) f =
      let e : suc n + i ≡ n + suc i = omega arith in
      let z = f.fits in
      let p : first_from candidate before (suc n) l ≡ picked (n + suc i) (get_or l i d) =
      foremost-from (suc n) l i
      (record { fits = omega arith; is = f.is; early = λ j q. f.early (suc j) (omega arith); late = λ j q. f.late (suc j) (omega arith) })
      ∙ ap (λ (k : ℕ). picked k (get_or l i d)) e in
      rw p (go (candidate a) refl)
    where
      go : (t : Bool) → candidate a ≡ t → (if t then (if before (get_or l i d) a then picked (n + suc i) (get_or l i d) else picked n a) else picked
          (n + suc i) (get_or l i d)) ≡ picked (n + suc i) (get_or l i d)
      go true e = rw (f.early 0 (omega arith) e)
      go false e = refl

  -- it is the pick
  foremost : (l : List A) (i : ℕ) → Foremost l i → first candidate before l ≡ picked i (get_or l i d)
  foremost l i f = foremost-from 0 l i f ∙ ap (λ (k : ℕ). picked k (get_or l i d)) (zero-add i)

  -- where there is no candidate, nobody is picked
  none-picked : (n : ℕ) (l : List A) → ((j : ℕ) → candidate (get_or l j d) ≡ false) → first_from candidate before n l ≡ nobody
  unfolding first_from
  none-picked n [] h = refl
  none-picked n (a ∷ l) h = rw (h 0) (none-picked (suc n) l (λ j. h (suc j)))

-- Orders at one price -------------------------------------------------------------------------

for-shows : (s d p : ℕ) (o : Regular) → shows_for s d p o ≡ true → shows_at s d o ≡ true
unfolding shows_for
for-shows s d p o h = and_l (shows_at s d o) _ h

for-price : (s d p : ℕ) (o : Regular) → shows_for s d p o ≡ true → o.price ≡ p
unfolding shows_for
for-price s d p o h = eqb-true o.price p (and_r (shows_at s d o) _ h)

for-in : (s d p : ℕ) (o : Regular) → shows_at s d o ≡ true → o.price ≡ p → shows_for s d p o ≡ true
unfolding shows_for
for-in s d p o h e = rw (h, eq-eqb o.price p e)

module _ (s d p : ℕ) (os : List Regular) (orders : Orderly os) (i : ℕ)
    (shows : shows_for s d p (get_or os i no_regular) ≡ true) (none : (j : ℕ) → j < i → shows_for s d p (get_or os j no_regular) ≡ false) where
  -- the first of the list at a price is the earliest
  earliest-at : first (shows_for s d p) earlier os ≡ picked i (get_or os i no_regular)
  unfolding earlier
  earliest-at =
      foremost no_regular (shows_for s d p) earlier os i
      (record {
        fits = held_fits os i (holds i shows);
        is = shows;
        early = λ j q h. absurd (true≢false (sym h ∙ none j q));
        late = λ j q h. let z = orders.rises i j q (holds i shows) (holds j h) in le-ltb (get_or os j no_regular).id (get_or os i no_regular).id (omega arith);
      })
    where
      holds : (j : ℕ) → shows_for s d p (get_or os j no_regular) ≡ true → held (get_or os j no_regular).quantity ≡ true
      holds j h = shows-held s d (get_or os j no_regular) (for-shows s d p (get_or os j no_regular) h)

-- Orders met ----------------------------------------------------------------------------------

-- where every order shows some size
module _ (s d p : ℕ) (os : List Regular) (orders : Orderly os) (some : (i : ℕ) → held (get_or os i no_regular).quantity ≡ true → held (shown_size (get_or os i no_regular)) ≡ true) where
  abbrev best : ℕ
  best = best_in s (opposite d) os

  abbrev at : ℕ → Regular
  at i = get_or os i no_regular

  -- an order that is met shows at the other side
  met-rests : (j : ℕ) → is_met s d p (at j) ≡ true → rests_at s (opposite d) (at j) ≡ true
  unfolding is_met
  met-rests j h = and_l (rests_at s (opposite d) (at j)) _ h

  met-held : (j : ℕ) → is_met s d p (at j) ≡ true → held (at j).quantity ≡ true
  met-held j h = rests-held s (opposite d) (at j) (met-rests j h)

  met-shows : (j : ℕ) → is_met s d p (at j) ≡ true → shows_at s (opposite d) (at j) ≡ true
  met-shows j h = rests-shows s (opposite d) (at j) (some j (met-held j h)) (met-rests j h)

  -- no price that is met is better than the best
  not-better : (j : ℕ) → is_met s d p (at j) ≡ true → better (opposite d) (at j).price best ≡ false
  not-better j h = is_false _ (best-best s (opposite d) os j (met-shows j h))

  -- where the best price is reached
  module _ (on : reaches_any d p best ≡ true) where
    -- an order at the best price is met
    best-met : (o : Regular) → shows_for s (opposite d) best o ≡ true → is_met s d p o ≡ true
    unfolding is_met reaches_any
    best-met o h =
        rw (shows-rests s (opposite d) o (for-shows s (opposite d) best o h), for-price s (opposite d) best o h)
        (and_r (held best) (reaches d p best) on)

    -- the first of the list at the best price of the other side is met first
    met_at : (i : ℕ) → shows_for s (opposite d) best (at i) ≡ true → ((j : ℕ) → j < i → shows_for s (opposite d) best (at j) ≡ false) →
        first (is_met s d p) price_then_id os ≡ picked i (at i)
    unfolding price_then_id earlier
    met_at i shows none =
        foremost no_regular (is_met s d p) price_then_id os i (record { fits = held_fits os i (met-held i is); is = is; early = early; late = late })
      where
        is : is_met s d p (at i) ≡ true
        is = best-met (at i) shows

        price : (at i).price ≡ best
        price = for-price s (opposite d) best (at i) shows

        side : (j : ℕ) → is_met s d p (at j) ≡ true → (at j).side ≡ opposite d
        side j h = rests-side s (opposite d) (at j) (met-rests j h)

        worse : (j : ℕ) → j < i → is_met s d p (at j) ≡ true → (t : Bool) → better (opposite d) best (at j).price ≡ t → better (opposite d) best (at j).price ≡ true
        worse j q h true e = e
        worse j q h false e =
            let z : (at j).price ≡ best = better-total (opposite d) (at j).price best (not-better j h) e in
            absurd (true≢false (sym (for-in s (opposite d) best (at j) (met-shows j h) z) ∙ none j q))

        early : (j : ℕ) → j < i → is_met s d p (at j) ≡ true → (better (at i).side (at i).price (at j).price || (eqb (at i).price (at j).price && shown_then_id (at i) (at j))) ≡ true
        early j q h = rw (side i is, price, worse j q h (better (opposite d) best (at j).price) refl)

        later : (j : ℕ) → i < j → is_met s d p (at j) ≡ true → shown_then_id (at j) (at i) ≡ false
        later j q h =
            let z = orders.rises i j q (met-held i is) (met-held j h) in
            both-show (at j) (at i) (some j (met-held j h)) (some i (met-held i is)) ∙ le-ltb (at j).id (at i).id (omega arith)

        late : (j : ℕ) → i < j → is_met s d p (at j) ≡ true → (better (at j).side (at j).price (at i).price || (eqb (at j).price (at i).price && shown_then_id (at j) (at i))) ≡ false
        late j q h = rw (side j h, price, not-better j h, later j q h, and-false)

    -- so who is met first is the earliest at that price
    pub met-earliest : first (is_met s d p) price_then_id os ≡ first (shows_for s (opposite d) best) earlier os
    unfolding reaches_any
    met-earliest =
        let a = best-is s (opposite d) os (and_l (held best) (reaches d p best) on) in
        let test = shows_for s (opposite d) best in
        let f = held_fits os a.at (shows-held s (opposite d) (at a.at) a.shows) in
        let w = where-passes no_regular test os (where-fits no_regular test os a.at f (for-in s (opposite d) best (at a.at) a.shows a.price)) in
        met_at (place_where test os) w (where-first test no_regular os)
        ∙ sym (earliest-at s (opposite d) best os orders (place_where test os) w (where-first test no_regular os))

-- In the numbers ------------------------------------------------------------------------------

module _ (b : List ℕ) where
  -- a place in use
  regular-there : (i : ℕ) → i < regulars_used b → get_or (venue_of b).regular i no_regular ≡ regular_in b i
  unfolding venue_of
  regular-there i h = used-at (regular_in b) no_regular (regulars_used b) 128 i h

  -- a test that free places do not pass is told by the places in use
  used-none : (f : Regular → Bool) → f no_regular ≡ false → ((j : ℕ) → j < regulars_used b → f (regular_in b j) ≡ false) → (j : ℕ) → f (get_or (venue_of b).regular j no_regular) ≡ false
  unfolding venue_of
  used-none f off none j =
      elim (dec_lt j (regulars_used b)) [
        | yes q ↦ ap f (regular-there j q) ∙ none j q
        | no q ↦ ap f (used-free (regular_in b) no_regular (regulars_used b) 128 j (omega arith)) ∙ off
      ]

  -- who is taken first
  module _ (right : Right b) (s d p : ℕ) where
    pub for-at : (i : ℕ) (o : Regular) → i < regulars_used b → o ≡ regular_in b i → shows_for s d p o ≡ true → ((j : ℕ) → j < i → shows_for s d p (regular_in b j) ≡ false) →
        Some (i, o) ≡ pick_of (first (shows_for s d p) earlier (venue_of b).regular)
    unfolding pick_of
    for-at i o h e shows none =
        let w = regular-there i h in
        ap (λ (o : Regular). Some (i, o)) (e ∙ sym w)
        ∙ sym (ap pick_of (earliest-at s d p (venue_of b).regular right.orders i (ap (shows_for s d p) (w ∙ sym e) ∙ shows)
        (λ j q. ap (shows_for s d p) (regular-there j (omega arith)) ∙ none j q)))

    pub for-none : ((j : ℕ) → j < regulars_used b → shows_for s d p (regular_in b j) ≡ false) → None ≡ pick_of (first (shows_for s d p) earlier (venue_of b).regular)
    unfolding pick_of
    for-none none = sym (ap pick_of (none-picked no_regular (shows_for s d p) earlier 0 (venue_of b).regular (used-none (shows_for s d p) (for-free s d p) none)))

  -- where an id stands, if every place in use is held
  module _ (dense : Dense b) (id : ℕ) where
    holds-used : (i : ℕ) → i < regulars_used b → held (regular_in b i).quantity ≡ true
    holds-used i h = dense.regulars i h

    ids-rise : (i j : ℕ) → i < j → j < regulars_used b → (regular_in b i).id < (regular_in b j).id
    ids-rise i j q h =
        let x = regular-there i (omega arith) in
        let y = regular-there j h in
        rw (x, y) at (dense.right.orders.rises i j q (rw x (holds-used i (omega arith))) (rw y (holds-used j h)))

    other-id : (i : ℕ) → ((regular_in b i).id ≡ id → ⊥) → is_regular_of id (regular_in b i) ≡ false
    unfolding is_regular_of
    other-id i n = rw (ne_eqb (regular_in b i).id id n, and-false)

    -- the ids before a lower one are lower, and those after a higher one are higher
    pub lower-before : (i : ℕ) → i < regulars_used b → (regular_in b i).id < id → (j : ℕ) → j < i + 1 → (regular_in b j).id < id
    lower-before i h w j q = elim (dec_lt j i) [ yes r ↦ (let z = ids-rise j i r h in omega arith) | no r ↦ (let e : j ≡ i = omega arith in rw e w) ]

    pub higher-after : (i : ℕ) → id < (regular_in b i).id → (j : ℕ) → i ≤ j → j < regulars_used b → id < (regular_in b j).id
    higher-after i w j q h = elim (dec_lt i j) [ yes r ↦ (let z = ids-rise i j r h in omega arith) | no r ↦ (let e : j ≡ i = omega arith in rw e w) ]

    pub id-found : (i : ℕ) → i < regulars_used b → (regular_in b i).id ≡ id → Some i ≡ regular_found (venue_of b) id
    unfolding regular_found rests_regular regular_place regular_at venue_of found_in is_regular_of
    id-found i h e =
        found_at (is_regular_of id) no_regular (regular-free id) (regular_in b) (regulars_used b) 128 (regulars-few b) i h
        (rw (holds-used i h, eq-eqb (regular_in b i).id id e)) (λ j q. other-id j (λ z. let w = ids-rise j i q h in omega arith))

    pub id-none : ((j : ℕ) → j < regulars_used b → (regular_in b j).id ≡ id → ⊥) → None ≡ regular_found (venue_of b) id
    unfolding regular_found rests_regular regular_place regular_at venue_of found_in
    id-none none = found_none (is_regular_of id) no_regular (regular-free id) (regular_in b) (regulars_used b) 128 (regulars-few b) (λ j q. other-id j (none j q))
