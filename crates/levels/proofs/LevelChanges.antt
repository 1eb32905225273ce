-- How one order changes the level of a series and side: an order filled, and an order put at a free place.
use Rattle.std.specs.Prelude.{if◌then◌else◌}
use mathlib.Core.Path.{◌≡◌, refl, sym, ap, ap₂, ◌∙◌}
use mathlib.Core.Bool.{Bool, true, false, not, ◌&&◌, ◌||◌, true≢false}
use mathlib.Core.List.{List, [], ◌∷◌}
use Prim.Native.Nat.{ℕ, zero, suc, ◌+◌, ◌*◌, ◌-◌, ◌≤◌, ◌<◌, min}
use native.Mathlib.Omega.{arith}
use native.Mathlib.Nat.{sub-zero}
use native.Mathlib.Decide.{ℕ_discrete}
use borrow.Author.Tests.{eq-eqb, eqb-true, ltb-true}
use lib.Dec.{eqb, ltb}
use lib.ListN.{length, get_or, set}
use lib.Seq.{get_or-set_same, get_or-set_other}
use Rattle.rules.specs.declared.Regular.{Regular}
use Rattle.rules.specs.Base.{held}
use Rattle.rules.specs.Words.{buy, no_regular, place_of}
use Rattle.rules.specs.Prices.{better, better_of, shown_size, shows_at, shows_for, best_in, size_in}
use Rattle.rules.specs.Trading.{less_regular}
use Rattle.rules.proofs.Tests.{and_l, and_r, and-true, held-pos, pos-held}
use Rattle.rules.proofs.Better.{better-trans, better-irrefl, better-total, is_false, best-best}
use Rattle.rules.proofs.Sizes.{shown-most, shown-lessens, shows-rests, rests-series, rests-side, free-shows, no-price, elsewhere-shows, size-filled, size-set, ShowsAt, best-is}
use Rattle.places.specs.declared.Level.{Level}
use Rattle.places.specs.Layout.{upto, regulars_used, regular_in, regular_key, venue_of, level_of}
use Rattle.levels.specs.Grid.{no_level, with_order}
use Rattle.levels.proofs.Scans.{upto-back, upto-end}
use Rattle.levels.proofs.LevelWithOrder.{put_in, level-cons, put-size, side-in, level-used}

-- The best price of a side, told by its orders -------------------------------------------------

-- a better price is there
better-held : (d a b : ℕ) → better d a b ≡ true → held a ≡ true
unfolding better
better-held d a b = go (eqb d buy)
  where
    go : (t : Bool) → (if t then ltb b a else (held a && (not (held b) || ltb a b))) ≡ true → held a ≡ true
    go true h = let z = ltb-true b a h in pos-held a (omega arith)
    go false h = and_l (held a) _ h

-- a price than which no order is better, and which some order has if it is there, is the best
best-only : (s d p : ℕ) (os : List Regular) →
    ((i : ℕ) → shows_at s d (get_or os i no_regular) ≡ true → better d (get_or os i no_regular).price p ≡ true → ⊥) →
    (held p ≡ true → ShowsAt s d p os) → best_in s d os ≡ p
best-only s d p os none some =
    better-total d (best_in s d os) p
    (is_false _ (λ h. let a = best-is s d os (better-held d (best_in s d os) p h) in none a.at a.shows (rw a.price h)))
    (is_false _ (λ h. let a = some (better-held d p (best_in s d os) h) in best-best s d os a.at a.shows (rw a.price h)))

-- where there is size, an order shows it
size-at : (s d p : ℕ) (os : List Regular) → 0 < size_in s d p os → ShowsAt s d p os
unfolding size_in shows_for
size-at s d p [] h = absurd (omega arith)
size-at s d p (o ∷ os) h = go (shows_at s d o) refl (eqb o.price p) refl h (size-at s d p os)
  where
    later : ShowsAt s d p os → ShowsAt s d p (o ∷ os)
    later r = record { at = suc r.at; shows = r.shows; price = r.price }

    go : (a : Bool) → shows_at s d o ≡ a → (b : Bool) → eqb o.price p ≡ b → 0 < (if a && b then shown_size o + size_in s d p os else size_in s d p os) →
        (0 < size_in s d p os → ShowsAt s d p os) → ShowsAt s d p (o ∷ os)
    go true e true f h ih = record { at = 0; shows = e; price = eqb-true o.price p f }
    go true e false f h ih = later (ih h)
    go false e b f h ih = later (ih h)

-- two books with one best price, and one size there, have one level
level-same : (s d : ℕ) (a b : List Regular) → best_in s d a ≡ best_in s d b → size_in s d (best_in s d b) a ≡ size_in s d (best_in s d b) b → level_of s d a ≡ level_of s d b
unfolding level_of
level-same s d a b e f = rw (e, f)

-- An order filled -----------------------------------------------------------------------------

less-shows : (s d k : ℕ) (o : Regular) → shows_at s d (less_regular k o) ≡ true → shows_at s d o ≡ true
unfolding shows_at less_regular
less-shows s d k o h =
    let a = held-pos (shown_size (less_regular k o)) (search (and_l, and_r, h)) in
    let e = shown-lessens k o in
    let b : eqb o.series s ≡ true = search (and_l, and_r, h) in
    let c : eqb o.side d ≡ true = search (and_l, and_r, h) in
    rw (pos-held (shown_size o) (omega arith), b, c)

module _ (s d i k : ℕ) (os : List Regular) (fits : i < length os) where
  abbrev was : Regular
  was = get_or os i no_regular

  abbrev after : List Regular
  after = set os i (less_regular k was)

  -- the best price stays while some order has it
  best-stays : (held (best_in s d os) ≡ true → ShowsAt s d (best_in s d os) after) → best_in s d after ≡ best_in s d os
  unfolding less_regular
  best-stays = best-only s d (best_in s d os) after (λ j. none j (ℕ_discrete j i))
    where
      none : (j : ℕ) → Dec (j ≡ i) → shows_at s d (get_or after j no_regular) ≡ true → better d (get_or after j no_regular).price (best_in s d os) ≡ true → ⊥
      none j (yes q) r h =
          let e : get_or after j no_regular ≡ less_regular k was =
          ap (λ (x : ℕ). get_or after x no_regular) q ∙ get_or-set_same os i (less_regular k was) no_regular fits in
          best-best s d os i (less-shows s d k was (rw e at r)) (rw e at h)
      none j (no q) r h =
          let e : get_or after j no_regular ≡ get_or os j no_regular = get_or-set_other os i j (less_regular k was) no_regular q in
          best-best s d os j (rw e at r) (rw e at h)

  -- an order that is not at the best price of this side leaves the level as it is
  pub fill-other : (was.series ≡ s → was.side ≡ d → was.price ≡ best_in s d os → ⊥) → level_of s d after ≡ level_of s d os
  unfolding less_regular
  fill-other n =
      level-same s d after os (best-stays (λ h. let a = best-is s d os h in still a (ℕ_discrete a.at i)))
      (size-set s d (best_in s d os) os i (less_regular k was) (elsewhere-shows s d (best_in s d os) was n) (elsewhere-shows s d (best_in s d os) (less_regular k was) n))
    where
      still : (a : ShowsAt s d (best_in s d os) os) → Dec (a.at ≡ i) → ShowsAt s d (best_in s d os) after
      still a (yes q) =
          let r : shows_at s d was ≡ true = rw q at a.shows in
          let e : was.price ≡ best_in s d os = rw q at a.price in
          absurd (n (rests-series s d was (shows-rests s d was r)) (rests-side s d was (shows-rests s d was r)) e)
      still a (no q) =
          let e : get_or after a.at no_regular ≡ get_or os a.at no_regular = get_or-set_other os i a.at (less_regular k was) no_regular q in
          record { at = a.at; shows = rw e a.shows; price = rw e a.price }

  -- where what is taken of what it shows is not all at the best price, this stays the best
  pub fill-best : was.series ≡ s → was.side ≡ d → was.price ≡ best_in s d os → min k (shown_size was) < size_in s d (best_in s d os) os →
      level_of s d after ≡ record { price = best_in s d os; size = size_in s d (best_in s d os) os - min k (shown_size was) }
  unfolding level_of
  fill-best es ed ep h =
      let g = size-filled s d (best_in s d os) k os i fits es ed ep in
      let e : best_in s d after ≡ best_in s d os = best-stays (λ _. size-at s d (best_in s d os) after (omega arith)) in
      let f : size_in s d (best_in s d os) after ≡ size_in s d (best_in s d os) os - min k (shown_size was) = omega arith in
      rw (e, f)

-- An order put at a free place ----------------------------------------------------------------

-- the better of two prices, in either order
of-swap : (d a b c : ℕ) → better_of d a (better_of d b c) ≡ better_of d b (better_of d a c)
unfolding better_of
of-swap d a b c = go (better d a c) refl (better d b c) refl (better d a b) refl (better d b a) refl
  where
    go : (x : Bool) → better d a c ≡ x → (y : Bool) → better d b c ≡ y → (z : Bool) → better d a b ≡ z → (w : Bool) → better d b a ≡ w →
        (if better d a (if y then b else c) then a else if y then b else c) ≡ (if better d b (if x then a else c) then b else if x then a else c)
    go true ex true ey true ez true ew = absurd (better-irrefl d a (better-trans d a b a ez ew))
    go true ex true ey true ez false ew = rw (ez, ew)
    go true ex true ey false ez true ew = rw (ez, ew)
    go true ex true ey false ez false ew = rw (ez, ew) (sym (better-total d a b ez ew))
    go true ex false ey z ez true ew = absurd (true≢false (sym (better-trans d b a c ew ex) ∙ ey))
    go true ex false ey z ez false ew = rw (ex, ew)
    go false ex true ey true ez w ew = absurd (true≢false (sym (better-trans d a b c ez ey) ∙ ex))
    go false ex true ey false ez w ew = rw (ez, ey)
    go false ex false ey z ez w ew = rw (ex, ey)

module _ (s d : ℕ) (o : Regular) where
  -- the order counts as one in front of the others
  best-put : (os : List Regular) (i : ℕ) → i < length os → held (get_or os i no_regular).quantity ≡ false → best_in s d (set os i o) ≡ best_in s d (o ∷ os)
  unfolding best_in
  best-put [] i f h = absurd (omega arith)
  best-put (x ∷ os) zero f h = rw (free-shows s d x h)
  best-put (x ∷ os) (suc i) f h = rw (best-put os i (omega arith) h) (go (shows_at s d x) (shows_at s d o))
    where
      go : (a b : Bool) →
          (if a then better_of d x.price (if b then better_of d o.price (best_in s d os) else best_in s d os)
          else if b then better_of d o.price (best_in s d os) else best_in s d os)
          ≡ (if b then better_of d o.price (if a then better_of d x.price (best_in s d os) else best_in s d os)
          else if a then better_of d x.price (best_in s d os) else best_in s d os)
      go true true = of-swap d x.price o.price (best_in s d os)
      go true false = refl
      go false true = refl
      go false false = refl

  size-put : (p : ℕ) (os : List Regular) (i : ℕ) → i < length os → held (get_or os i no_regular).quantity ≡ false → size_in s d p (set os i o) ≡ size_in s d p (o ∷ os)
  unfolding size_in
  size-put p [] i f h = absurd (omega arith)
  size-put p (x ∷ os) zero f h = rw (no-price s d p x (free-shows s d x h))
  size-put p (x ∷ os) (suc i) f h = rw (size-put p os i (omega arith) h) (go (shows_for s d p x) (shows_for s d p o))
    where
      go : (a b : Bool) →
          (if a then shown_size x + (if b then shown_size o + size_in s d p os else size_in s d p os) else if b then shown_size o + size_in s d p os else size_in s d p os)
          ≡ (if b then shown_size o + (if a then shown_size x + size_in s d p os else size_in s d p os) else if a then shown_size x + size_in s d p os else size_in s d p os)
      go true true = omega arith
      go true false = refl
      go false true = refl
      go false false = refl

  pub level-put : (os : List Regular) (i : ℕ) → i < length os → held (get_or os i no_regular).quantity ≡ false → level_of s d (set os i o) ≡ put_in s d o (level_of s d os)
  level-put os i f h = level-same s d (set os i o) (o ∷ os) (best-put os i f h) (size-put (best_in s d (o ∷ os)) os i f h) ∙ level-cons s d o os

-- How large a level is ------------------------------------------------------------------------

size-bound : (s d p : ℕ) (os : List Regular) → ((i : ℕ) → i < length os → (get_or os i no_regular).quantity < 4294967296) → size_in s d p os ≤ length os * 4294967295
unfolding size_in
size-bound s d p [] h = omega arith
size-bound s d p (o ∷ os) h = go (shows_for s d p o) (h 0 (omega arith)) (size-bound s d p os (λ i f. h (suc i) (omega arith)))
  where
    go : (t : Bool) → o.quantity < 4294967296 → size_in s d p os ≤ length os * 4294967295 →
        (if t then shown_size o + size_in s d p os else size_in s d p os) ≤ suc (length os) * 4294967295
    go true q r = let z = shown-most o in omega arith
    go false q r = omega arith

pub level-bound : (s d : ℕ) (os : List Regular) → ((i : ℕ) → i < length os → (get_or os i no_regular).quantity < 4294967296) → (level_of s d os).size ≤ length os * 4294967295
unfolding level_of
level-bound s d os h = size-bound s d (best_in s d os) os h

-- A level with one order more -----------------------------------------------------------------

-- the level of its own series and side
pub with-own : (o : Regular) (l : Level) → with_order o l ≡ put_in o.series o.side o l
unfolding with_order put_in shows_at
with-own o l = simp (eq-eqb o.series o.series refl, eq-eqb o.side o.side refl, and-true)

-- for a scan of one side: its orders are joined, the others passed over
pub level-join : (s d : ℕ) (o : Regular) (os : List Regular) → o.series ≡ s → o.side ≡ d → level_of s d (o ∷ os) ≡ with_order o (level_of s d os)
level-join s d o os es ed =
    level-cons s d o os ∙ ap₂ (λ (x y : ℕ). put_in x y o (level_of s d os)) (sym es) (sym ed) ∙ sym (with-own o (level_of s d os))

pub level-past : (s d : ℕ) (o : Regular) (os : List Regular) → (o.series ≡ s → o.side ≡ d → ⊥) → level_of s d (o ∷ os) ≡ level_of s d os
unfolding best_in size_in
level-past s d o os n =
    let e : shows_at s d o ≡ false = is_false _ (λ h. n (rests-series s d o (shows-rests s d o h)) (rests-side s d o (shows-rests s d o h))) in
    level-same s d (o ∷ os) os (rw e) (rw (no-price s d (best_in s d os) o e))

-- The scan of one side, counting down ---------------------------------------------------------

-- l is the level of the n places in use, from i on
pub record Scanned (b : List ℕ) (s d n : ℕ) (l : Level) (i : ℕ) : Type 0 where
  pub below : i ≤ n
  pub level : l ≡ level_of s d (upto (regular_in b) i (n - i))
  pub bound : l.size ≤ (n - i) * 4294967295

pub scanned-none : (b : List ℕ) (s d n i : ℕ) → i ≡ n → Scanned b s d n no_level i
unfolding level_of best_in size_in
scanned-none b s d n i e = record {
  below = omega arith;
  level = ap (level_of s d) (sym (upto-end (regular_in b) i n (omega arith)));
  bound = omega arith;
}

module _ (b : List ℕ) (s d n : ℕ) (l : Level) (i : ℕ) (x : Scanned b s d n l i) (p : 0 < i) where
  scanned-back : level_of s d (upto (regular_in b) (i - 1) (n - (i - 1))) ≡ level_of s d (regular_in b (i - 1) ∷ upto (regular_in b) i (n - i))
  scanned-back = ap (level_of s d) (upto-back (regular_in b) i n p x.below)

  -- an order with another key is passed over
  pub scanned-past : (regular_key (regular_in b (i - 1)) ≡ place_of s d → ⊥) → Scanned b s d n l (i - 1)
  unfolding regular_key
  scanned-past h = record {
    below = omega (arith, x.below);
    level = x.level ∙ sym (level-past s d (regular_in b (i - 1)) (upto (regular_in b) i (n - i)) (λ u v. h (ap₂ place_of u v))) ∙ sym scanned-back;
    bound = omega (arith, x.below, x.bound);
  }

  -- one with this key joins
  module _ (o : Regular) (e : o ≡ regular_in b (i - 1)) (h : regular_key (regular_in b (i - 1)) ≡ place_of s d) (hd : d < 2) where
    own_key : (o.series ≡ s) × (o.side ≡ d)
    unfolding regular_key place_of
    own_key =
        let z = side-in b (i - 1) (regular_in b (i - 1)) refl in
        rw e (omega arith, omega arith)

    pub scanned-on : o.quantity < 4294967296 → (r : Level) → r ≡ with_order o l → Scanned b s d n r (i - 1)
    scanned-on q r w = record {
      below = omega (arith, x.below);
      level =
          w ∙ ap (with_order o) x.level
          ∙ sym (level-join s d o (upto (regular_in b) i (n - i)) own_key.0 own_key.1)
          ∙ ap (λ (y : Regular). level_of s d (y ∷ upto (regular_in b) i (n - i))) e
          ∙ sym scanned-back;
      bound = omega (arith, ap (λ (y : Level). y.size) (w ∙ with-own o l), put-size o.series o.side o l, x.below, x.bound);
    }

pub scanned-all : (b : List ℕ) (s d n : ℕ) (l : Level) (i : ℕ) → Scanned b s d n l i → n ≡ regulars_used b → i ≡ 0 → l ≡ level_of s d (venue_of b).regular
scanned-all b s d n l i x en ei =
    x.level
    ∙ ap (λ (k : ℕ). level_of s d (upto (regular_in b) k (n - k))) ei
    ∙ ap (λ (k : ℕ). level_of s d (upto (regular_in b) 0 k)) (sub-zero n ∙ en)
    ∙ level-used b s d
