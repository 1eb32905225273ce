-- Best price and size of a side: the best is some order's and has size, and what a fill or a new order changes.
use Rattle.std.specs.Prelude.{if◌then◌else◌}
use mathlib.Core.Path.{◌∙◌, ◌≡◌, refl, sym}
use mathlib.Core.Bool.{Bool, false, false≢true, true, true≢false}
use mathlib.Core.Logic.{◌≢◌}
use mathlib.Core.List.{List, [], ◌∷◌}
use Prim.Native.Nat.{◌+◌, ◌-◌, ◌<◌, ◌≤◌, min, suc, zero, ℕ}
use native.Mathlib.Nat.{add_assoc, zero-add}
use native.Mathlib.Omega.{arith}
use lib.Dec.{eqb}
use lib.ListN.{get_or, length, set}
use borrow.Author.Tests.{eq-eqb, eqb-true, ne_eqb}
use Rattle.rules.specs.declared.Complex.{Complex}
use Rattle.rules.specs.declared.Regular.{Regular}
use Rattle.rules.specs.declared.Venue.{Venue}
use Rattle.rules.specs.Base.{held}
use Rattle.rules.specs.Words.{no_regular, opposite, regular_at, with_regular}
use Rattle.rules.specs.Prices.{best_in, best_regular, best_size, better, better_of, rests_at, shown_size, shows_at, shows_for, size_in}
use Rattle.rules.specs.Standing.{other_clear, other_leg, other_size}
use Rattle.rules.specs.Trading.{fill_regular, less_regular}
use Rattle.rules.specs.Order.{at_once}
use Rattle.rules.proofs.Better.{is_false}
use Rattle.rules.proofs.Filling.{placewise-set, reg}
use Rattle.rules.proofs.Settling.{clear-best}
use Rattle.rules.proofs.Tests.{and-false, and_l, and_r, and-true, free-none, held-pos, if-held, pos-held}

-- What an order shows -------------------------------------------------------------------------

-- All that is asked of the shown size: none above does more than cite these laws.
pub shown-most : (o : Regular) → shown_size o ≤ o.quantity
unfolding shown_size
shown-most o = omega arith

-- what is not shown is reserve
pub shown_rest : (o : Regular) → o.quantity - shown_size o ≤ o.reserve
unfolding shown_size
shown_rest o = omega arith

pub shown-less : (k : ℕ) (o : Regular) → k ≤ shown_size o → shown_size (less_regular k o) + k ≡ shown_size o
unfolding shown_size less_regular
shown-less k o le = omega arith

pub shown-lessens : (k : ℕ) (o : Regular) → shown_size (less_regular k o) ≡ shown_size o - k
unfolding shown_size less_regular
shown-lessens k o = omega arith

-- no fill makes an order show more
pub fill-shown : (j q : ℕ) (v : Venue) (i : ℕ) → shown_size (reg (fill_regular j q v) i) ≤ shown_size (reg v i)
unfolding fill_regular with_regular regular_at
fill-shown j q v i =
    let less : shown_size (less_regular q (reg v j)) ≤ shown_size (reg v j) = (let e = shown-lessens q (reg v j) in omega arith) in
    (placewise-set no_regular (λ (a b : Regular). shown_size a ≤ shown_size b) (λ _. omega arith) v.regular j (less_regular q (reg v j)) less).lesser i

-- an order without reserve shows all that is left of it
pub shown-whole : (o : Regular) → o.reserve ≡ 0 → shown_size o ≡ o.quantity
unfolding shown_size
shown-whole o r = omega arith

pub shown-none : (o : Regular) → held o.quantity ≡ false → held (shown_size o) ≡ false
unfolding shown_size
shown-none o h = let z : o.quantity - o.reserve ≡ 0 = (let q = free-none o.quantity h in omega arith) in rw z

-- what can be traded at once: what it shows where it shows some, else all that is left of it
pub once-shown : (o : Regular) → held (shown_size o) ≡ true → at_once o ≡ shown_size o
unfolding at_once
once-shown o h = rw h

pub once-left : (o : Regular) → held (shown_size o) ≡ false → at_once o ≡ o.quantity
unfolding at_once
once-left o h = rw h

pub once-most : (o : Regular) → at_once o ≤ o.quantity
once-most o = go (held (shown_size o)) refl
  where
    go : (b : Bool) → held (shown_size o) ≡ b → at_once o ≤ o.quantity
    go true h = let z = shown-most o in rw (once-shown o h) z
    go false h = rw (once-left o h) (omega arith)

pub once-some : (o : Regular) → 0 < o.quantity → 0 < at_once o
once-some o p = go (held (shown_size o)) refl
  where
    go : (b : Bool) → held (shown_size o) ≡ b → 0 < at_once o
    go true h = rw (once-shown o h) (held-pos (shown_size o) h)
    go false h = rw (once-left o h) p

pub shows-held : (s d : ℕ) (o : Regular) → shows_at s d o ≡ true → held o.quantity ≡ true
unfolding shows_at
shows-held s d o z =
    let a = held-pos (shown_size o) (search (and_l, and_r, z)) in
    let b = shown-most o in
    pos-held o.quantity (omega arith)

-- what rests and has some shown size shows, and what shows rests
pub rests-shows : (s d : ℕ) (o : Regular) → held (shown_size o) ≡ true → rests_at s d o ≡ true → shows_at s d o ≡ true
unfolding rests_at shows_at
rests-shows s d o a z =
    let b : eqb o.series s ≡ true = search (and_l, and_r, z) in
    let c : eqb o.side d ≡ true = search (and_l, and_r, z) in
    rw (a, b, c)

pub shows-rests : (s d : ℕ) (o : Regular) → shows_at s d o ≡ true → rests_at s d o ≡ true
unfolding rests_at
shows-rests s d o z =
    let a = shows-held s d o z in
    let b : eqb o.series s ≡ true = unfold shows_at in (search (and_l, and_r, z)) in
    let c : eqb o.side d ≡ true = unfold shows_at in (search (and_l, and_r, z)) in
    rw (a, b, c)

pub rests-held : (s d : ℕ) (o : Regular) → rests_at s d o ≡ true → held o.quantity ≡ true
unfolding rests_at
rests-held s d o z = search (and_l, and_r, z)

pub rests-series : (s d : ℕ) (o : Regular) → rests_at s d o ≡ true → o.series ≡ s
unfolding rests_at
rests-series s d o z = eqb-true o.series s (search (and_l, and_r, z))

pub rests-side : (s d : ℕ) (o : Regular) → rests_at s d o ≡ true → o.side ≡ d
unfolding rests_at
rests-side s d o z = eqb-true o.side d (search (and_l, and_r, z))

-- an order of another series, and a free place, do not show there
pub not_there : (t e : ℕ) (o : Regular) → o.series ≢ t → shows_at t e o ≡ false
unfolding shows_at
not_there t e o ne = simp (ne_eqb o.series t ne, and-false)

pub free-shows : (t e : ℕ) (o : Regular) → held o.quantity ≡ false → shows_at t e o ≡ false
unfolding shows_at
free-shows t e o h = rw (shown-none o h)

-- nor at any price there
pub no-price : (t e p : ℕ) (o : Regular) → shows_at t e o ≡ false → shows_for t e p o ≡ false
unfolding shows_for
no-price t e p o h = rw h

-- an order of another series, side or price does not show at price p of side e of series t
pub elsewhere-shows : (t e p : ℕ) (o : Regular) → (o.series ≡ t → o.side ≡ e → o.price ≡ p → ⊥) → shows_for t e p o ≡ false
unfolding shows_for shows_at
elsewhere-shows t e p o ne =
    is_false _ (λ h. ne (eqb-true o.series t (search (and_l, and_r, h))) (eqb-true o.side e (search (and_l, and_r, h))) (eqb-true o.price p (search (and_l, and_r, h))))

-- Size ----------------------------------------------------------------------------------------

-- what an order adds to the size at price p
part : (s d p : ℕ) → Regular → ℕ
part s d p o = if shows_for s d p o then shown_size o else 0

size-cons : (s d p : ℕ) (o : Regular) (os : List Regular) → size_in s d p (o ∷ os) ≡ part s d p o + size_in s d p os
unfolding size_in part
size-cons s d p o os = go (shows_for s d p o)
  where
    go : (b : Bool) → (if b then shown_size o + size_in s d p os else size_in s d p os) ≡ (if b then shown_size o else 0) + size_in s d p os
    go true = refl
    go false = sym (zero-add _)

less-shape : (k : ℕ) (o : Regular) → ((less_regular k o).series ≡ o.series) × ((less_regular k o).side ≡ o.side) × ((less_regular k o).price ≡ o.price)
unfolding less_regular
less-shape k o = (refl, refl, refl)

part-less : (s d p q : ℕ) (o : Regular) → shows_for s d p o ≡ true → q ≤ shown_size o → part s d p o ≡ q + part s d p (less_regular q o)
unfolding part shows_for shows_at
part-less s d p q o h le =
    let a : eqb o.series s ≡ true = search (and_l, and_r, h) in
    let b : eqb o.side d ≡ true = search (and_l, and_r, h) in
    let c : eqb o.price p ≡ true = search (and_l, and_r, h) in
    let z = less-shape q o in
    let y = shown-less q o le in
    simp (z.0, z.1, z.2, a, b, c, and-true, if-held) (omega arith)

-- filling the order at place i takes what was filled from the size
pub size_less : (s d p q : ℕ) (os : List Regular) (i : ℕ) → i < length os →
    shows_for s d p (get_or os i no_regular) ≡ true → q ≤ shown_size (get_or os i no_regular) →
    size_in s d p os ≡ q + size_in s d p (set os i (less_regular q (get_or os i no_regular)))
size_less s d p q [] i f h le = absurd (omega arith)
size_less s d p q (o ∷ os) zero f h le = rw (size-cons s d p o os, size-cons, part-less s d p q o h le) (add_assoc _ _ _)
size_less s d p q (o ∷ os) (suc i) f h le =
    rw (size-cons s d p o os, size-cons, size_less s d p q os i (omega arith) h le) (omega arith)

-- one place written, at a price and side: an order there adds what it shows
size-put : (s d p : ℕ) (os : List Regular) (i : ℕ) (x : Regular) → i < length os →
    size_in s d p os + part s d p x ≡ size_in s d p (set os i x) + part s d p (get_or os i no_regular)
size-put s d p [] i x f = absurd (omega arith)
size-put s d p (o ∷ os) zero x f = rw (size-cons s d p o os, size-cons) (omega arith)
size-put s d p (o ∷ os) (suc i) x f = let z = size-put s d p os i x (omega arith) in rw (size-cons s d p o os, size-cons) (omega arith)

part-there : (s d p : ℕ) (o : Regular) → o.series ≡ s → o.side ≡ d → o.price ≡ p → part s d p o ≡ shown_size o
unfolding part shows_for shows_at
part-there s d p o a b c = simp (eq-eqb o.series s a, eq-eqb o.side d b, eq-eqb o.price p c, and-true, if-held)

-- filling the order at place i for k takes what of k it shows from the size
pub size-filled : (s d p k : ℕ) (os : List Regular) (i : ℕ) → i < length os →
    (get_or os i no_regular).series ≡ s → (get_or os i no_regular).side ≡ d → (get_or os i no_regular).price ≡ p →
    size_in s d p os ≡ min k (shown_size (get_or os i no_regular)) + size_in s d p (set os i (less_regular k (get_or os i no_regular)))
size-filled s d p k os i f a b c =
    let o = get_or os i no_regular in
    let z = less-shape k o in
    omega (
      arith,
      size-put s d p os i (less_regular k o) f,
      part-there s d p o a b c,
      part-there s d p (less_regular k o) (z.0 ∙ a) (z.1 ∙ b) (z.2 ∙ c),
      shown-lessens k o,
    )

-- where no order is at the price, there is no size
pub size_none : (s d p : ℕ) (os : List Regular) →
    ((i : ℕ) → i < length os → shows_for s d p (get_or os i no_regular) ≡ false) → size_in s d p os ≡ 0
unfolding part size_in
size_none s d p [] h = refl
size_none s d p (o ∷ os) h = rw (size-cons, h 0 (omega arith), size_none s d p os (λ i f. h (suc i) (omega arith)))

-- an order's shown size is part of the size at its price
size-some : (s d p : ℕ) (os : List Regular) (i : ℕ) → shows_at s d (get_or os i no_regular) ≡ true → (get_or os i no_regular).price ≡ p → 0 < size_in s d p os
size-some s d p [] i r e = absurd (true≢false (sym r ∙ free-shows s d no_regular refl))
size-some s d p (o ∷ os) zero r e =
    rw size-cons (unfold part shows_for in
    (rw (r, eq-eqb o.price p e) (let z = held-pos (shown_size o) (unfold shows_at in (search (and_l, and_r, r))) in omega arith)))
size-some s d p (o ∷ os) (suc i) r e = rw size-cons (let z = size-some s d p os i r e in omega arith)

-- a place whose old and new order do not show at a side leaves its best price and sizes as they were
pub best-set : (t e : ℕ) (l : List Regular) (i : ℕ) (o : Regular) → shows_at t e (get_or l i no_regular) ≡ false → shows_at t e o ≡ false →
    best_in t e (set l i o) ≡ best_in t e l
unfolding best_in
best-set t e [] i o a b = refl
best-set t e (x ∷ l) zero o a b = rw (a, b)
best-set t e (x ∷ l) (suc i) o a b = rw (best-set t e l i o a b)

pub size-set : (t e p : ℕ) (l : List Regular) (i : ℕ) (o : Regular) → shows_for t e p (get_or l i no_regular) ≡ false → shows_for t e p o ≡ false →
    size_in t e p (set l i o) ≡ size_in t e p l
unfolding size_in
size-set t e p [] i o a b = refl
size-set t e p (x ∷ l) zero o a b = rw (a, b)
size-set t e p (x ∷ l) (suc i) o a b = rw (size-set t e p l i o a b)

-- The best price ------------------------------------------------------------------------------

-- an order shows at side d of series s at price p
pub record ShowsAt (s d p : ℕ) (os : List Regular) : Type 0 where
  pub at : ℕ
  pub shows : shows_at s d (get_or os at no_regular) ≡ true
  pub price : (get_or os at no_regular).price ≡ p

pub best-is : (s d : ℕ) (os : List Regular) → held (best_in s d os) ≡ true → ShowsAt s d (best_in s d os) os
unfolding best_in better_of
best-is s d [] h = absurd (false≢true h)
best-is s d (o ∷ os) h = go (shows_at s d o) refl (better d o.price (best_in s d os)) h (best-is s d os)
  where
    later : {p : ℕ} → ShowsAt s d p os → ShowsAt s d p (o ∷ os)
    later r = record { at = suc r.at; shows = r.shows; price = r.price }

    go : (a : Bool) → shows_at s d o ≡ a → (b : Bool) → held (if a then (if b then o.price else best_in s d os) else best_in s d os) ≡ true →
        (held (best_in s d os) ≡ true → ShowsAt s d (best_in s d os) os) → ShowsAt s d (if a then (if b then o.price else best_in s d os) else best_in s d os) (o ∷ os)
    go true e true h ih = record { at = 0; shows = e; price = refl }
    go true e false h ih = later (ih h)
    go false e b h ih = later (ih h)

pub best-some : (v : Venue) (s d : ℕ) → held (best_regular v s d) ≡ true → 0 < best_size v s d
unfolding best_size best_regular
best-some v s d h = let b = best-is s d v.regular h in size-some s d _ v.regular b.at b.shows b.price

-- a clear price has size
pub other-some : (v : Venue) (c : Complex) (s : ℕ) → held (other_clear v c s) ≡ true → 0 < other_size v c s
unfolding other_clear other_size
other-some v c s h = best-some v _ _ (rw (clear-best v (other_leg c s).series (opposite (other_leg c s).side) h) at h)

-- Books of other series -----------------------------------------------------------------------

-- w has v's books of every series but s, v's complex and v's legging orders
pub record Elsewhere (s : ℕ) (v w : Venue) : Type 0 where
  pub best : (t e : ℕ) → s ≢ t → best_in t e w.regular ≡ best_in t e v.regular
  pub size : (t e p : ℕ) → s ≢ t → size_in t e p w.regular ≡ size_in t e p v.regular
  pub complex : w.complex ≡ v.complex
  pub legging : w.legging ≡ v.legging

pub fill-elsewhere : (i k s : ℕ) (v : Venue) → (reg v i).series ≡ s → Elsewhere s v (fill_regular i k v)
unfolding fill_regular with_regular regular_at less_regular
fill-elsewhere i k s v h = record {
  best = λ t e ne. best-set t e v.regular i _ (not_there t e _ (λ x. ne (sym h ∙ x))) (not_there t e _ (λ x. ne (sym h ∙ x)));
  size = λ t e p ne. size-set t e p v.regular i _ (no-price t e p _ (not_there t e _ (λ x. ne (sym h ∙ x)))) (no-price t e p _ (not_there t e _ (λ x. ne (sym h ∙ x))));
  complex = refl;
  legging = refl;
}

pub elsewhere-refl : (s : ℕ) (v : Venue) → Elsewhere s v v
elsewhere-refl s v = record { best = λ t e ne. refl; size = λ t e p ne. refl; complex = refl; legging = refl }

pub elsewhere-trans : {s : ℕ} {u v w : Venue} → Elsewhere s u v → Elsewhere s v w → Elsewhere s u w
elsewhere-trans a b = record {
  best = λ t e ne. b.best t e ne ∙ a.best t e ne;
  size = λ t e p ne. b.size t e p ne ∙ a.size t e p ne;
  complex = b.complex ∙ a.complex;
  legging = b.legging ∙ a.legging;
}
