-- A level with one order more.
use Rattle.std.specs.Prelude.{if◌then◌else◌}
use mathlib.Core.Path.{◌≡◌, refl, sym, ap, ◌∙◌}
use mathlib.Core.Bool.{Bool, true, false, ◌&&◌}
use mathlib.Core.List.{List, [], ◌∷◌}
use Prim.Native.Nat.{ℕ, ◌+◌, ◌≤◌, ◌<◌}
use native.Mathlib.Omega.{arith}
use borrow.Author.Tests.{eq-eqb, ne_eqb, eqb-true}
use lib.Dec.{eqb}
use Rattle.rules.specs.declared.Regular.{Regular}
use Rattle.rules.specs.Prices.{better, better_of, shown_size, shows_at, shows_for, best_in, size_in}
use Rattle.rules.proofs.Better.{better-irrefl, own_of, of_other}
use Rattle.rules.proofs.Sizes.{shown-most}
use Rattle.places.specs.declared.Level.{Level}
use Rattle.places.specs.Layout.{upto, regulars_used, regular_in, venue_of, level_of}
use Rattle.levels.specs.Grid.{joined_of, with_order}
use Rattle.levels.proofs.Scans.{best-used, size-used}

-- One order more ------------------------------------------------------------------------------

module _ (d p k : ℕ) (l : Level) where
  pub joined_same : p ≡ l.price → record { price = l.price; size = k + l.size } ≡ joined_of d p k l
  unfolding joined_of
  joined_same h = simp (eq-eqb _ _ h) (ap (λ (x : ℕ). record { price = x; size = k + l.size }) (sym h))

  module _ (n : p ≡ l.price → ⊥) where
    pub joined-better : better d p l.price ≡ true → record { price = p; size = k } ≡ joined_of d p k l
    unfolding joined_of
    joined-better h = simp (ne_eqb _ _ n, h)

    pub joined-not : better d p l.price ≡ false → l ≡ joined_of d p k l
    unfolding joined_of
    joined-not h = simp (ne_eqb _ _ n, h)

-- the level of an order's side, with the k contracts that this order shows
module _ (o : Regular) (l : Level) (k : ℕ) (e : k ≡ shown_size o) where
  pub with-free : k ≡ 0 → l ≡ with_order o l
  unfolding with_order
  with-free h = simp (eq-eqb (shown_size o) 0 (sym e ∙ h))

  pub with-held : (k ≡ 0 → ⊥) → (r : Level) → r ≡ joined_of o.side o.price k l → r ≡ with_order o l
  unfolding with_order
  with-held h r q = simp (ne_eqb (shown_size o) 0 (λ z. h (e ∙ z))) (q ∙ ap (λ (x : ℕ). joined_of o.side o.price x l) e)

-- a level of series s and side d with the order o
unfoldable pub put_in : (series side : ℕ) → Regular → Level → Level
put_in s d o l = if shows_at s d o then joined_of d o.price (shown_size o) l else l

-- nothing stands at a price that is better than the best
no-better : (s d p : ℕ) (os : List Regular) → better d p (best_in s d os) ≡ true → size_in s d p os ≡ 0
unfolding best_in size_in shows_for
no-better s d p [] h = refl
no-better s d p (o ∷ os) h = go (shows_at s d o) h (no-better s d p os)
  where
    go : (t : Bool) → better d p (if t then better_of d o.price (best_in s d os) else best_in s d os) ≡ true → (better d p (best_in s d os) ≡ true → size_in s d p os ≡ 0) →
        (if t && eqb o.price p then shown_size o + size_in s d p os else size_in s d p os) ≡ 0
    go false h ih = ih h
    go true h ih =
        let n : o.price ≡ p → ⊥ = λ z. own_of d o.price (best_in s d os) (ap (λ (x : ℕ). better d x (better_of d o.price (best_in s d os))) z ∙ h) in
        simp (ne_eqb _ _ n) (ih (of_other d p o.price (best_in s d os) h))

pub level-cons : (s d : ℕ) (o : Regular) (os : List Regular) → level_of s d (o ∷ os) ≡ put_in s d o (level_of s d os)
unfolding level_of best_in size_in shows_for put_in joined_of better_of
level-cons s d o os = go (shows_at s d o) (better d o.price (best_in s d os)) refl (eqb o.price (best_in s d os)) refl
  where
    at : ℕ → ℕ → Level
    at x y = record { price = x; size = y }

    go : (t b : Bool) → better d o.price (best_in s d os) ≡ b → (c : Bool) → eqb o.price (best_in s d os) ≡ c →
        at (if t then (if b then o.price else best_in s d os) else best_in s d os)
        (if t && eqb o.price (if t then (if b then o.price else best_in s d os) else best_in s d os)
        then shown_size o + size_in s d (if t then (if b then o.price else best_in s d os) else best_in s d os) os
        else size_in s d (if t then (if b then o.price else best_in s d os) else best_in s d os) os)
        ≡ (if t then (if c then at o.price (shown_size o + size_in s d (best_in s d os) os) else if b then at o.price (shown_size o) else level_of s d os) else level_of s d os)
    go false b e c f = refl
    go true true e true f = absurd (better-irrefl d o.price (ap (λ (x : ℕ). better d o.price x) (eqb-true _ _ f) ∙ e))
    go true true e false f =
        let z : size_in s d o.price os ≡ 0 = no-better s d o.price os e in
        simp (eq-eqb o.price o.price refl) (ap (λ (y : ℕ). at o.price y) (omega arith))
    go true false e true f = simp f (ap (λ (x : ℕ). at x (shown_size o + size_in s d (best_in s d os) os)) (sym (eqb-true _ _ f)))
    go true false e false f = simp f

-- its size grows by no more than the order's
pub put-size : (s d : ℕ) (o : Regular) (l : Level) → (put_in s d o l).size ≤ o.quantity + l.size
unfolding put_in joined_of
put-size s d o l = go (shows_at s d o) (eqb o.price l.price) (better d o.price l.price)
  where
    go : (t x y : Bool) →
        (if t then (if x then record { price = o.price; size = shown_size o + l.size } else if y then record { price = o.price; size = shown_size o } else l) else l).size
        ≤ o.quantity + l.size
    go true true y = let z = shown-most o in omega arith
    go true false true = let z = shown-most o in omega arith
    go true false false = omega arith
    go false x y = omega arith

-- an order of the book has a series and a side
module _ (b : List ℕ) (i : ℕ) (o : Regular) (e : o ≡ regular_in b i) where
  pub series-in : o.series < 8
  unfolding regular_in
  series-in = rw e (omega arith)

  pub side-in : o.side < 2
  unfolding regular_in
  side-in = rw e (omega arith)

-- the level of the places in use
pub level-used : (b : List ℕ) (s d : ℕ) → level_of s d (upto (regular_in b) 0 (regulars_used b)) ≡ level_of s d (venue_of b).regular
unfolding level_of venue_of
level-used b s d =
    let e = best-used (regular_in b) s d (regulars_used b) 128 in
    let f = size-used (regular_in b) s d (best_in s d (upto (regular_in b) 0 (regulars_used b))) (regulars_used b) 128 in
    rw (e, f) refl
