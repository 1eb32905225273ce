-- An order found by its id: to lessen it is to fill its place, where no other resting order has that id. And ids of resting orders are apart, whatever is filled
-- or removed.
use Rattle.std.specs.Prelude.{if◌then◌else◌}
use mathlib.Core.Path.{◌∙◌, ◌≡◌, ap, refl, sym}
use mathlib.Core.Bool.{Bool, ◌&&◌, false, true}
use mathlib.Core.Logic.{◌≢◌}
use mathlib.Core.List.{List, [], ◌∷◌, map}
use Prim.Native.Nat.{◌<◌, suc, zero, ℕ}
use native.Mathlib.Omega.{arith}
use lib.Dec.{eqb}
use lib.ListN.{get_or, length, set}
use borrow.Author.Tests.{eq-eqb, eqb-true}
use Rattle.rules.specs.declared.Venue.{Venue}
use Rattle.rules.specs.Base.{held}
use Rattle.rules.specs.Words.{complex_at, is_complex_of, is_regular_of, no_complex, no_regular, regular_at, with_complex, with_legging, with_regular}
use Rattle.rules.specs.Removal.{remove}
use Rattle.rules.specs.Standing.{show_again}
use Rattle.rules.specs.Trading.{fill_complex, fill_regular, less_complex, less_regular}
use Rattle.rules.proofs.Again.{again-fewer}
use Rattle.rules.proofs.Better.{is_false}
use Rattle.rules.proofs.Filling.{Fewer, FewerC, cx, fewer-refl, fewer_c-refl, fill-fewer, fill-fewer_c, held_fits, held-fits_c, reg, still-held, still-held_c}
use Rattle.rules.proofs.EffectsLaws.{Lasts}
use Rattle.rules.proofs.Tests.{and_l, and_r}
use Rattle.demands.proofs.Homes.{Good, good-rr, good-xx}
use Rattle.replay.specs.Replay.{lessen_complex, lessen_order}

-- In a list -----------------------------------------------------------------------------------

-- f of those that rest with id y
module _ {A : Type 0} (none : A) (id quantity : A → ℕ) (f : A → A) (y : ℕ) where
  abbrev has : A → Bool
  has x = held (quantity x) && eqb (id x) y

  abbrev lessened : List A → List A
  lessened l = map (λ x. if has x then f x else x) l

  has-not : (x : A) → (held (quantity x) ≡ true → id x ≢ y) → has x ≡ false
  has-not x n = is_false (has x) (λ h. n (and_l (held (quantity x)) _ h) (eqb-true (id x) y (and_r (held (quantity x)) _ h)))

  -- none has it
  lessened-none : (l : List A) → ((i : ℕ) → held (quantity (get_or l i none)) ≡ true → id (get_or l i none) ≢ y) → lessened l ≡ l
  lessened-none [] n = refl
  lessened-none (x ∷ l) n = rw (has-not x (n 0), lessened-none l (λ i. n (suc i)))

  -- the one at place i has it, and no other
  lessened-one : (l : List A) (i : ℕ) → i < length l → held (quantity (get_or l i none)) ≡ true → id (get_or l i none) ≡ y →
      ((j : ℕ) → held (quantity (get_or l j none)) ≡ true → id (get_or l j none) ≡ y → j ≡ i) → lessened l ≡ set l i (f (get_or l i none))
  lessened-one [] i fits h e u = absurd (omega arith)
  lessened-one (x ∷ l) zero fits h e u =
      rw (h, eq-eqb (id x) y e, lessened-none l (λ j q g. let z : suc j ≡ 0 = u (suc j) q g in absurd (omega arith)))
  lessened-one (x ∷ l) (suc i) fits h e u =
      rw (has-not x (λ q g. let z : 0 ≡ suc i = u 0 q g in absurd (omega arith)), lessened-one l i (omega arith) h e (λ j q g. let z : suc j ≡ suc i = u (suc j) q g in omega arith))

-- Ids apart -----------------------------------------------------------------------------------

-- no two resting orders have one id
pub record Apart (v : Venue) : Type 0 where
  pub orders : (i j : ℕ) → held (reg v i).quantity ≡ true → held (reg v j).quantity ≡ true → (reg v i).id ≡ (reg v j).id → i ≡ j
  pub complexes : (i j : ℕ) → held (cx v i).quantity ≡ true → held (cx v j).quantity ≡ true → (cx v i).id ≡ (cx v j).id → i ≡ j
  pub both : (i j : ℕ) → held (reg v i).quantity ≡ true → held (cx v j).quantity ≡ true → (reg v i).id ≢ (cx v j).id

pub good-apart : {v : Venue} → Good v → Apart v
good-apart g = record { orders = good-rr g; complexes = good-xx g; both = g.rx }

apart-fewer : (v w : Venue) → Fewer w.regular v.regular → FewerC w.complex v.complex → Apart v → Apart w
apart-fewer v w f g a = record {
  orders = λ i j h k e. a.orders i j (still-held (f.lesser i) h) (still-held (f.lesser j) k) (sym (f.lesser i).id ∙ e ∙ (f.lesser j).id);
  complexes = λ i j h k e. a.complexes i j (still-held_c (g.lesser i) h) (still-held_c (g.lesser j) k) (sym (g.lesser i).id ∙ e ∙ (g.lesser j).id);
  both = λ i j h k e. a.both i j (still-held (f.lesser i) h) (still-held_c (g.lesser j) k) (sym (f.lesser i).id ∙ e ∙ (g.lesser j).id);
}

pub apart-lasts : Lasts Apart
apart-lasts = record {
  fill_r = λ i k v a. apart-fewer v (fill_regular i k v) (fill-fewer i k v) (unfold fill_regular with_regular in (fewer_c-refl _)) a;
  fill_c = λ i k v a. apart-fewer v (fill_complex i k v) (unfold fill_complex with_complex in (fewer-refl _)) (fill-fewer_c i k v) a;
  gone = λ f v a. unfold remove with_legging in (record { orders = a.orders; complexes = a.complexes; both = a.both });
  again = λ v a. apart-fewer v (show_again v) (again-fewer v) (unfold show_again with_regular in (fewer_c-refl _)) a;
}

-- In a venue ----------------------------------------------------------------------------------

pub lessen-order : (v : Venue) → Apart v → (i k : ℕ) → held (reg v i).quantity ≡ true → lessen_order (reg v i).id k v ≡ fill_regular i k v
unfolding lessen_order fill_regular is_regular_of regular_at
lessen-order v a i k h =
    ap (with_regular v) (lessened-one no_regular (λ o. o.id) (λ o. o.quantity) (less_regular k) (reg v i).id v.regular i (held_fits v.regular i h) h refl (λ j q e. a.orders j i q h e))

pub lessen-complex : (v : Venue) → Apart v → (i k : ℕ) → held (cx v i).quantity ≡ true → lessen_complex (cx v i).id k v ≡ fill_complex i k v
unfolding lessen_complex fill_complex is_complex_of complex_at
lessen-complex v a i k h =
    ap (with_complex v) (lessened-one no_complex (λ c. c.id) (λ c. c.quantity) (less_complex k) (cx v i).id v.complex i (held-fits_c v.complex i h) h refl (λ j q e. a.complexes j i q h e))

-- the id of a resting complex order is no regular order's
pub lessen-no-order : (v : Venue) → Apart v → (j k : ℕ) → held (cx v j).quantity ≡ true → lessen_order (cx v j).id k v ≡ v
unfolding lessen_order is_regular_of with_regular
lessen-no-order v a j k h =
    ap (with_regular v) (lessened-none no_regular (λ o. o.id) (λ o. o.quantity) (less_regular k) (cx v j).id v.regular (λ i q. a.both i j q h))

-- an id that no resting complex order has
pub lessen-no-complex : (v : Venue) (id k : ℕ) → ((j : ℕ) → held (cx v j).quantity ≡ true → (cx v j).id ≢ id) → lessen_complex id k v ≡ v
unfolding lessen_complex is_complex_of with_complex
lessen-no-complex v id k n = ap (with_complex v) (lessened-none no_complex (λ c. c.id) (λ c. c.quantity) (less_complex k) id v.complex n)
