-- Sums over records and over places: of two lists, of removals, of one trade, of a book when an order is filled or put.
use Rattle.std.specs.Prelude.{if◌then◌else◌}
use mathlib.Core.Path.{◌≡◌, refl, sym}
use mathlib.Core.Bool.{Bool, ◌&&◌, false, true}
use mathlib.Core.Logic.{◌≢◌}
use mathlib.Core.List.{List, [], ◌++◌, ◌∷◌}
use Prim.Native.Nat.{◌+◌, ◌<◌, ◌≤◌, suc, zero, ℕ}
use native.Mathlib.Nat.{add_assoc, zero-add}
use native.Mathlib.Omega.{arith}
use lib.Dec.{eqb}
use lib.ListN.{get_or, length, set}
use borrow.Author.Tests.{eq-eqb, eqb-true, ne_eqb}
use Rattle.rules.specs.declared.Cause.{Cause}
use Rattle.rules.specs.declared.Legging.{Legging}
use Rattle.rules.specs.declared.Venue.{Venue}
use Rattle.rules.specs.declared.Verdict.{Verdict}
use Rattle.rules.specs.declared.Verdict.TheVariants.{Fails, Stands}
use Rattle.rules.specs.Base.{held}
use Rattle.rules.specs.Words.{complex_at, no_complex, no_regular, regular_at, with_complex, with_regular}
use Rattle.rules.specs.Records.{Report, removed, trade}
use Rattle.rules.specs.Effects.{Effect, ◌⟫◌}
use Rattle.rules.specs.Removal.{goes, leavers, remove, remove_of}
use Rattle.rules.specs.Trading.{fill_complex, fill_regular, less_complex, less_regular}
use Rattle.rules.specs.Places.{packed}
use Rattle.rules.specs.Sums.{contracts, open_complex, open_in, open_regular, total}
use Rattle.rules.proofs.Cases.{if-by}
use Rattle.rules.proofs.Closing.{over-packed}
use Rattle.rules.proofs.Filling.{cx, reg}
use Rattle.rules.proofs.Tests.{and-false, free-none, if-same}

-- Over records --------------------------------------------------------------------------------

pub total-append : (f : Report → ℕ) (a b : List Report) → total f (a ++ b) ≡ total f a + total f b
unfolding total
total-append f [] b = sym (zero-add _)
total-append f (r ∷ rs) b = rw (total-append f rs b) (sym (add_assoc _ _ _))

pub total-then : (f : Report → ℕ) (e : Effect) (g : Venue → Effect) → total f (e ⟫ g).reports ≡ total f e.reports + total f (g e.venue).reports
unfolding ◌⟫◌
total-then f e g = total-append f _ _

-- removals count nothing
module _ (f : Report → ℕ) (silent : (id s d : ℕ) (c : Cause) → f (removed id s d c) ≡ 0) where
  goes_silent : (n : ℕ) (x : Verdict) (l : Legging) → total f (goes n x l) ≡ 0
  unfolding goes total
  goes_silent n Stands l = refl
  goes_silent n (Fails c) l = if-by (λ rs. total f rs ≡ 0) (held l.quantity) (λ _. rw silent) (λ _. refl)

  pub leavers-silent : (g : ℕ → Legging → Verdict) (n : ℕ) (ls : List Legging) → total f (leavers g n ls) ≡ 0
  unfolding leavers total
  leavers-silent g n [] = refl
  leavers-silent g n (l ∷ ls) = rw (total-append, goes_silent, leavers-silent g (suc n) ls)

  pub remove-silent : (id : ℕ) (c : Cause) (v : Venue) → total f (remove_of id c v).reports ≡ 0
  unfolding remove_of remove
  remove-silent id c v = leavers-silent _ 0 v.legging

-- One trade, by who y is ----------------------------------------------------------------------

module _ (y s t d p q x m : ℕ) where
  pub count-taker : x ≡ y → t ≡ s → contracts y s (trade t d p q x m) ≡ q
  unfolding contracts
  count-taker a b = rw (eq-eqb t s b, eq-eqb x y a)

  pub count-neither : x ≢ y → m ≢ y → contracts y s (trade t d p q x m) ≡ 0
  unfolding contracts
  count-neither a b = rw (ne_eqb x y a, ne_eqb m y b, and-false)

  pub count-elsewhere : t ≢ s → contracts y s (trade t d p q x m) ≡ 0
  unfolding contracts
  count-elsewhere ne = rw (ne_eqb t s ne)

  -- a maker's count, where y's orders are of series s
  pub count-maker : x ≢ y → (m ≡ y → t ≡ s) → contracts y s (trade t d p q x m) ≡ (if eqb m y then q else 0)
  unfolding contracts
  count-maker a b = rw (ne_eqb x y a) (go (eqb m y) refl)
    where
      go : (c : Bool) → eqb m y ≡ c → (if eqb t s && c then q else 0) ≡ (if c then q else 0)
      go true e = rw (eq-eqb t s (b (eqb-true m y e)))
      go false e = rw and-false

-- Over the places of a book -------------------------------------------------------------------

-- what is open under y, of orders of any type
module _ {A : Type 0} (none : A) (id quantity : A → ℕ) (y : ℕ) where
  -- one place written: an order of the same id with q less
  pub open-less : (q : ℕ) (l : List A) (i : ℕ) (x : A) → i < length l → id x ≡ id (get_or l i none) → quantity x + q ≡ quantity (get_or l i none) →
      open_in id quantity y l ≡ open_in id quantity y (set l i x) + (if eqb (id (get_or l i none)) y then q else 0)
  unfolding open_in
  open-less q [] i x f e h = absurd (omega arith)
  open-less q (o ∷ l) zero x f e h = rw e (go (eqb (id o) y))
    where
      go : (b : Bool) → (if b then quantity o else 0) + open_in id quantity y l ≡ (if b then quantity x else 0) + open_in id quantity y l + (if b then q else 0)
      go true = omega arith
      go false = omega arith
  open-less q (o ∷ l) (suc i) x f e h = let z = open-less q l i x (omega arith) e h in omega arith

  -- an order put into a free place
  pub open-put : (l : List A) (i : ℕ) (x : A) → i < length l → quantity (get_or l i none) ≡ 0 →
      open_in id quantity y (set l i x) ≡ open_in id quantity y l + (if eqb (id x) y then quantity x else 0)
  unfolding open_in
  open-put [] i x f z = absurd (omega arith)
  open-put (o ∷ l) zero x f z = rw (z, if-same) (omega arith)
  open-put (o ∷ l) (suc i) x f z = let ih = open-put l i x (omega arith) z in omega arith

  -- one place written: an order that adds no more
  pub open-set : (l : List A) (i : ℕ) (x : A) → (if eqb (id x) y then quantity x else 0) ≤ (if eqb (id (get_or l i none)) y then quantity (get_or l i none) else 0) →
      open_in id quantity y (set l i x) ≤ open_in id quantity y l
  unfolding open_in
  open-set [] i x h = omega arith
  open-set (o ∷ l) zero x h = omega arith
  open-set (o ∷ l) (suc i) x h = let z = open-set l i x h in omega arith

  -- an id that no order has: nothing is open under it
  pub open_none : (l : List A) → ((i : ℕ) → held (quantity (get_or l i none)) ≡ true → id (get_or l i none) ≡ y → ⊥) → open_in id quantity y l ≡ 0
  unfolding open_in
  open_none [] n = refl
  open_none (o ∷ l) n = go (eqb (id o) y) refl (held (quantity o)) refl (open_none l (λ i. n (suc i)))
    where
      go : (b : Bool) → eqb (id o) y ≡ b → (h : Bool) → held (quantity o) ≡ h → open_in id quantity y l ≡ 0 → (if b then quantity o else 0) + open_in id quantity y l ≡ 0
      go true e true q ih = absurd (n 0 q (eqb-true (id o) y e))
      go true e false q ih = let z = free-none (quantity o) q in omega arith
      go false e h q ih = omega arith

  -- an id that one order alone has: no more is open under it than that order's
  pub open-alone : (l : List A) (i : ℕ) → ((j : ℕ) → j ≢ i → held (quantity (get_or l j none)) ≡ true → id (get_or l j none) ≡ y → ⊥) →
      open_in id quantity y l ≤ quantity (get_or l i none)
  unfolding open_in
  open-alone [] i h = omega arith
  open-alone (o ∷ l) zero h = go (eqb (id o) y) (open_none l (λ j. h (suc j) (λ e. omega arith)))
    where
      go : (b : Bool) → open_in id quantity y l ≡ 0 → (if b then quantity o else 0) + open_in id quantity y l ≤ quantity o
      go true z = omega arith
      go false z = omega arith
  open-alone (o ∷ l) (suc i) h = go (eqb (id o) y) refl (held (quantity o)) refl (open-alone l i (λ j ne. h (suc j) (λ e. ne (omega arith))))
    where
      go : (b : Bool) → eqb (id o) y ≡ b → (t : Bool) → held (quantity o) ≡ t → open_in id quantity y l ≤ quantity (get_or l i none) →
          (if b then quantity o else 0) + open_in id quantity y l ≤ quantity (get_or l i none)
      go true e true q z = absurd (h 0 (λ n. omega arith) q (eqb-true (id o) y e))
      go true e false q z = let n = free-none (quantity o) q in omega arith
      go false e t q z = omega arith

  -- gaps closed
  pub open-packed : quantity none ≡ 0 → (l : List A) → open_in id quantity y (packed (λ o. held (quantity o)) none l) ≡ open_in id quantity y l
  unfolding open_in
  open-packed z l =
      over-packed (λ o. held (quantity o)) none (open_in id quantity y) (λ o r. (if eqb (id o) y then quantity o else 0) + r) (λ o l. refl)
      (λ o r e. rw (free-none (quantity o) e, if-same) (omega arith)) (rw z refl) l

-- a regular order is filled for q
pub open-fill : (i q : ℕ) (v : Venue) (y : ℕ) → i < length v.regular → q ≤ (reg v i).quantity →
    open_regular y v.regular ≡ open_regular y (fill_regular i q v).regular + (if eqb (reg v i).id y then q else 0)
unfolding fill_regular with_regular regular_at less_regular
open-fill i q v y f le = open-less no_regular (λ o. o.id) (λ o. o.quantity) y q v.regular i _ f refl (omega arith)

-- a complex order is filled for q
pub open-fill_c : (i q : ℕ) (v : Venue) (y : ℕ) → i < length v.complex → q ≤ (cx v i).quantity →
    open_complex y v.complex ≡ open_complex y (fill_complex i q v).complex + (if eqb (cx v i).id y then q else 0)
unfolding fill_complex with_complex complex_at less_complex
open-fill_c i q v y f le = open-less no_complex (λ c. c.id) (λ c. c.quantity) y q v.complex i _ f refl (omega arith)
