-- Laws of generation, as the code makes it.
use Rattle.std.specs.Prelude.{if◌then◌else◌}
use mathlib.Core.Path.{◌≡◌, refl, sym, ap, ap₂, ◌∙◌}
use mathlib.Core.Bool.{Bool, true, false, not, ◌&&◌, true≢false, false≢true}
use mathlib.Core.List.{List, [], ◌∷◌}
use Prim.Native.Nat.{ℕ, ◌+◌, ◌*◌, ◌/◌, ◌-◌, ◌≤◌, ◌<◌, min}
use native.Mathlib.Omega.{arith}
use native.Mathlib.Nat.{div-add-mod', mod-lt}
use borrow.Author.Tests.{eq-eqb, ne_eqb, le-leb, lt-leb, leb-true}
use lib.Dec.{eqb, leb}
use lib.IntN.{ℤ, pos, nat_abs, neg_ℤ, ◌-ℤ◌, +ℤ_idl}
use lib.ListN.{get_or, set}
use lib.Seq.{set-get_or, set-set}
use mir.Syntax.{w64}
use mir.Val.{SFits, to_z, of_z}
use Rattle.rules.specs.declared.Regular.{Regular}
use Rattle.rules.specs.declared.Complex.{Complex}
use Rattle.rules.specs.declared.Legging.{Legging}
use Rattle.rules.specs.declared.Leg.{Leg}
use Rattle.rules.specs.declared.Venue.{Venue}
use Rattle.rules.specs.declared.Cause.TheVariants.{Replaced}
use Rattle.rules.specs.Base.{held}
use Rattle.rules.specs.Words.{buy, within, opposite, sign_times, no_complex, no_legging, one_to_one, place_of, legging_at, complex_at, status_of, with_generations, with_legging}
use Rattle.rules.specs.Settings.{figure_now, increment, percent}
use Rattle.rules.specs.Prices.{better, best_regular, own_price, best_own, displayed_price, away, market_best, taken1, taken2, in_band}
use Rattle.rules.specs.Records.{generated}
use Rattle.rules.specs.Effects.{Effect, nothing, report, ◌⟫◌}
use Rattle.rules.specs.Removal.{remove, fail_if}
use Rattle.rules.specs.Standing.{other_leg, other_clear, other_size, parent_of, both_open, displayed_no_worse}
use Rattle.rules.specs.Generation.{as_price, leg_price, new_legging, placed, generations_of, under_ceiling, counted, reaches_any, gives_way, others_stand, makes, make, generate_leg, generate}
use Rattle.rules.proofs.Tests.{and_l, and_r, held-pos, pos-held}
use Rattle.rules.proofs.Better.{is_false}
use Rattle.rules.proofs.Integers.{abs_neg, abs-add}
use Rattle.rules.proofs.Machine.{fits-of, back}
use Rattle.rules.proofs.Generating.{Makes, made, zero-out, make-venue}
use Rattle.records.specs.Seen.{seen, ◌writes◌}
use Rattle.records.specs.Stage.{stage, ◌does◌}
use Rattle.records.proofs.StageLaws.{follow, does-report}
use Rattle.places.specs.Layout.{legging_in, complex_in, venue_of, complexes_used, level_of, Figured}
use Rattle.places.proofs.Parts.{complex-at, complex-past, legging-at}
use Rattle.places.specs.declared.Level.{Level}
use Rattle.levels.specs.Grid.{GridOf, LegsIn}
use Rattle.prices.proofs.Prices.{legs-in}
use Rattle.generation.specs.Parts.{ranged_price, priced_leg, may_generate, price_may_stand, may_stand, planned_leg, made_by}

-- Signed numbers of 64 bits -------------------------------------------------------------------

pub sign-buy : (d : ℕ) (z : ℤ) → d ≡ 0 → z ≡ sign_times d z
unfolding sign_times
sign-buy d z h = rw (eq-eqb d 0 h)

pub sign-sell : (d : ℕ) (z : ℤ) → (d ≡ 0 → ⊥) → neg_ℤ z ≡ sign_times d z
unfolding sign_times
sign-sell d z h = rw (ne_eqb d 0 h)

pub turned-fits : (z : ℤ) → SFits w64 z → nat_abs z ≤ 8589934590 → SFits w64 (pos 0 -ℤ to_z w64 (of_z w64 z))
turned-fits z f h = rw (back f, +ℤ_idl (neg_ℤ z)) (fits-of (neg_ℤ z) (omega (arith, abs_neg z)))

pub turned-is : (z : ℤ) (f : SFits w64 z) → SFits w64 (pos 0 -ℤ to_z w64 (of_z w64 z)) → to_z w64 (of_z w64 (pos 0 -ℤ to_z w64 (of_z w64 z))) ≡ neg_ℤ z
turned-is z f g = back g ∙ ap (λ (y : ℤ). pos 0 -ℤ y) (back f) ∙ +ℤ_idl (neg_ℤ z)

-- a difference of two results
module _ {a b : ℤ} (fa : SFits w64 a) (fb : SFits w64 b) (h : nat_abs a + nat_abs b ≤ 8589934590) where
  pub diff-fits : SFits w64 (to_z w64 (of_z w64 a) -ℤ to_z w64 (of_z w64 b))
  diff-fits = rw (back fa, back fb) (fits-of (a -ℤ b) (omega (arith, abs-add a (neg_ℤ b), abs_neg b)))

  pub diff_is : to_z w64 (of_z w64 (to_z w64 (of_z w64 a) -ℤ to_z w64 (of_z w64 b))) ≡ a -ℤ b
  diff_is = back diff-fits ∙ ap₂ (λ (x y : ℤ). x -ℤ y) (back fa) (back fb)

-- The price of a leg --------------------------------------------------------------------------

-- displayed, a price above 100,254 is above 100,000, whatever the increment of one byte
pub ranged-far : (v : Venue) (s d p i : ℕ) → i ≡ increment v s → 0 < i → i < 256 → 100254 < p → 0 ≡ ranged_price v s d p
unfolding ranged_price within displayed_price
ranged-far v s d p i e some few h = rw (← e) (go (eqb d buy))
  where
    out : (x : ℕ) → 100000 < x → 0 ≡ (if leb i x && leb x 100000 then p else 0)
    out x k = rw (lt-leb x 100000 k) (far (leb i x))
      where
        far : (t : Bool) → 0 ≡ (if t && false then p else 0)
        far true = refl
        far false = refl

    go : (b : Bool) → 0 ≡ (if leb i (if b then p / i * i else (p + (i - 1)) / i * i) && leb (if b then p / i * i else (p + (i - 1)) / i * i) 100000 then p else 0)
    go true = out (p / i * i) (let a = div-add-mod' p i in let b = mod-lt p some in omega arith)
    go false = out ((p + (i - 1)) / i * i) (let a = div-add-mod' (p + (i - 1)) i in let b = mod-lt (p + (i - 1)) some in omega arith)

module _ (v : Venue) (s d p q i : ℕ) (eq : q ≡ displayed_price i d p) (ei : i ≡ increment v s) where
  ranged-is : ranged_price v s d p ≡ (if leb i q && leb q 100000 then p else 0)
  unfolding ranged_price within
  ranged-is = rw (← ei, ← eq)

  pub ranged-low : q < i → 0 ≡ ranged_price v s d p
  ranged-low h = sym (ranged-is ∙ rw (lt-leb i q h))

  pub ranged-high : i ≤ q → 100000 < q → 0 ≡ ranged_price v s d p
  ranged-high h k = sym (ranged-is ∙ rw (le-leb i q h, lt-leb q 100000 k))

  pub ranged-in : i ≤ q → q ≤ 100000 → p ≡ ranged_price v s d p
  ranged-in h k = sym (ranged-is ∙ rw (le-leb i q h, le-leb q 100000 k))

module _ (v : Venue) (c : Complex) (s d x : ℕ) (ex : x ≡ other_clear v c s) where
  pub priced-none : x ≡ 0 → 0 ≡ priced_leg v c s d
  unfolding priced_leg
  priced-none h = rw (← ex, h)

  pub priced-is : (x ≡ 0 → ⊥) → (o : Leg) → o ≡ other_leg c s → (m n y z : ℤ) (p r : ℕ) → m ≡ c.limit → n ≡ sign_times o.side (pos x) → y ≡ m -ℤ n → z ≡ sign_times d y →
      p ≡ as_price z → r ≡ ranged_price v s d p → r ≡ priced_leg v c s d
  unfolding priced_leg leg_price
  priced-is h o eo m n y z p r em en ey ez ep er =
      let k : n ≡ sign_times (other_leg c s).side (pos x) = en ∙ ap (λ (l : Leg). sign_times l.side (pos x)) eo in
      er ∙ ap (ranged_price v s d) (ep ∙ ap as_price (ez ∙ ap (sign_times d) (ey ∙ ap₂ (λ (a b : ℤ). a -ℤ b) em k)))
      ∙ rw (← ex, ne_eqb x 0 h) refl

-- Conditions ----------------------------------------------------------------------------------

module _ (v : Venue) (s d p f : ℕ) (ef : f ≡ opposite d) where
  pub stand-own : displayed_no_worse v s d p ≡ true → (x : ℕ) → x ≡ best_own v s f → reaches_any d p x ≡ true → false ≡ price_may_stand v s d p
  unfolding price_may_stand
  stand-own h x ex r = rw (← ef, ← ex, h, r)

  pub stand-away : displayed_no_worse v s d p ≡ true → (x : ℕ) → x ≡ best_own v s f → reaches_any d p x ≡ false → (y : ℕ) → y ≡ away v s f → not (reaches_any d p y) ≡ price_may_stand v s d p
  unfolding price_may_stand
  stand-away h x ex r y ey = rw (← ef, ← ex, ← ey, h, r)

module _ (v : Venue) (c : Complex) (d p own : ℕ) (l : Legging) (ew : own ≡ own_price l) where
  pub way-better : better d p own ≡ true → true ≡ gives_way v c d p l
  unfolding gives_way
  way-better h = rw (← ew, h)

  module _ (h : better d p own ≡ false) where
    pub way-worse : (p ≡ own → ⊥) → false ≡ gives_way v c d p l
    unfolding gives_way
    way-worse k = rw (← ew, h, ne_eqb p own k)

    pub way-other : p ≡ own → (c.class ≡ 0 → ⊥) → false ≡ gives_way v c d p l
    unfolding gives_way
    way-other k n = rw (← ew, h, eq-eqb p own k, ne_eqb c.class 0 n)

    pub way-class : p ≡ own → c.class ≡ 0 → (m : Complex) → m ≡ parent_of v l → eqb m.class 1 ≡ gives_way v c d p l
    unfolding gives_way
    way-class k n m em = rw (← ew, h, eq-eqb p own k, eq-eqb c.class 0 n, ← em)

-- no legging order has a part in whether an order may generate, nor has the count of those made
generates-beside : (number s n : ℕ) (l : Legging) (v : Venue) (c : Complex) → may_generate (counted number s (placed n l v)) c ≡ may_generate v c
unfolding may_generate both_open status_of in_band percent figure_now taken1 taken2 market_best away best_regular counted with_generations placed with_legging
generates-beside number s n l v c = refl

-- The ceiling ---------------------------------------------------------------------------------

module _ (number x : ℕ) (gs : List ℕ) (e : x ≡ get_or gs 0 0) where
  pub under_none : x ≡ 0 → true ≡ under_ceiling number gs
  unfolding under_ceiling
  under_none h = rw (← e, h)

  pub under-old : (x ≡ 0 → ⊥) → leb (x + 256) number ≡ under_ceiling number gs
  unfolding under_ceiling
  under-old h = rw (← e, ne_eqb x 0 h)

-- the increments in force
pub steps-some : (b : List ℕ) (s : ℕ) → Figured b → s < 8 → 0 < increment (venue_of b) s
unfolding increment
steps-some b s f h = let z = f.some s h in omega (arith, f.so s (omega arith))

-- The order as planned ------------------------------------------------------------------------

module _ (v : Venue) (c : Complex) (s d : ℕ) where
  asked : Bool
  asked = held c.quantity && held (priced_leg v c s d) && may_stand v c s d (priced_leg v c s d)

  planned-if : (t : Bool) → asked ≡ t → planned_leg v c s d ≡ (if t then new_legging v c s d else no_legging)
  unfolding planned_leg asked
  planned-if t e = rw e

  module _ (p : ℕ) (ep : p ≡ priced_leg v c s d) (h : 0 < c.quantity) where
    pub planned-free : p ≡ 0 → no_legging ≡ planned_leg v c s d
    unfolding asked
    planned-free k = sym (planned-if false (rw (pos-held c.quantity h, ← ep, k)))

    pub planned-not : (p ≡ 0 → ⊥) → may_stand v c s d p ≡ false → no_legging ≡ planned_leg v c s d
    unfolding asked
    planned-not k m = sym (planned-if false (rw (pos-held c.quantity h, ← ep, ne_eqb p 0 k, m)))

  -- a price that is there is the leg's
  priced-back : (t u : Bool) → held (other_clear v c s) ≡ t → within (increment v s) 100000 (displayed_price (increment v s) d (leg_price v c s d)) ≡ u →
      held (priced_leg v c s d) ≡ true → (t ≡ true) × (u ≡ true)
  unfolding priced_leg ranged_price
  priced-back true true e f h = (refl, refl)
  priced-back true false e f h = absurd (false≢true (rw (e, f) at h))
  priced-back false u e f h = absurd (false≢true (rw e at h))

  priced-clear : held (priced_leg v c s d) ≡ true → held (other_clear v c s) ≡ true
  priced-clear h = (priced-back (held (other_clear v c s)) (within (increment v s) 100000 (displayed_price (increment v s) d (leg_price v c s d))) refl refl h).0

  pub priced-range : held (priced_leg v c s d) ≡ true → within (increment v s) 100000 (displayed_price (increment v s) d (leg_price v c s d)) ≡ true
  priced-range h = (priced-back (held (other_clear v c s)) (within (increment v s) 100000 (displayed_price (increment v s) d (leg_price v c s d))) refl refl h).1

  priced-leg : held (other_clear v c s) ≡ true → within (increment v s) 100000 (displayed_price (increment v s) d (leg_price v c s d)) ≡ true → priced_leg v c s d ≡ leg_price v c s d
  unfolding priced_leg ranged_price
  priced-leg h k = rw (h, k)

  pub planned-new : (p k : ℕ) → p ≡ priced_leg v c s d → 0 < c.quantity → (p ≡ 0 → ⊥) → may_stand v c s d p ≡ true → k ≡ min c.quantity (other_size v c s) →
      record { parent = c.id; price = p; quantity = k } ≡ planned_leg v c s d
  unfolding asked new_legging
  planned-new p k ep h n m ek =
      let t : held (priced_leg v c s d) ≡ true = rw (← ep, ne_eqb p 0 n) in
      let e : p ≡ leg_price v c s d = ep ∙ priced-leg (priced-clear t) (priced-range t) in
      let a : asked ≡ true = rw (pos-held c.quantity h, ← ep, ne_eqb p 0 n, m) in
      rw (e, ek) (sym (planned-if true a))

  -- Made or not -----------------------------------------------------------------------------

  generates-made : {number : ℕ} → Makes number v c s d → may_generate v c ≡ true
  unfolding may_generate
  generates-made m = rw (m.even, m.opens, m.band)

  may-made : {number : ℕ} → Makes number v c s d → may_stand v c s d (leg_price v c s d) ≡ true
  unfolding may_stand price_may_stand
  may-made m = rw (generates-made m, m.displayed, m.inside, m.outside, m.way)

  planned-made : {number : ℕ} → 0 < increment v s → held c.quantity ≡ true → Makes number v c s d → planned_leg v c s d ≡ new_legging v c s d
  unfolding asked
  planned-made k h m =
      let e = priced-leg m.clear m.range in
      planned-if true (rw (h, e, zero-out (increment v s) d (leg_price v c s d) k m.range, may-made m))

  not_made : (number : ℕ) → (held c.quantity && makes number v c s d) ≡ false → nothing v ≡ generate_leg number c s d v
  unfolding generate_leg
  not_made number h = rw h

  -- nothing is made for an order that is gone, nor for one that may not generate
  gone-none : (number : ℕ) → c.quantity ≡ 0 → nothing v ≡ generate_leg number c s d v
  gone-none number h = not_made number (rw (eq-eqb c.quantity 0 h))

  -- where some condition does not hold
  unmade : (number : ℕ) → (held c.quantity ≡ true → Makes number v c s d → ⊥) → nothing v ≡ generate_leg number c s d v
  unmade number f =
      not_made number (is_false (held c.quantity && makes number v c s d)
      (λ t. f (and_l (held c.quantity) (makes number v c s d) t) (made (and_r (held c.quantity) (makes number v c s d) t))))

  shut_none : (number : ℕ) → may_generate v c ≡ false → nothing v ≡ generate_leg number c s d v
  shut_none number h = unmade number (λ q m. true≢false (sym (generates-made m) ∙ h))

  -- what is made leaves that as it was
  pub generates-kept : (number : ℕ) (w : Venue) → w ≡ (generate_leg number c s d v).venue → may_generate w c ≡ may_generate v c
  unfolding generate_leg nothing
  generates-kept number w e = ap (λ (x : Venue). may_generate x c) e ∙ go (held c.quantity && makes number v c s d)
    where
      go : (t : Bool) → may_generate (if t then make number c s d v else nothing v).venue c ≡ may_generate v c
      go true = ap (λ (x : Venue). may_generate x c) (make-venue number v c s d) ∙ generates-beside number s (place_of s d) (new_legging v c s d) v c
      go false = refl

  pub made_none : (number : ℕ) → 0 < increment v s → (l : Legging) → l ≡ planned_leg v c s d → l.price ≡ 0 → nothing v ≡ generate_leg number c s d v
  unfolding new_legging
  made_none number k l el h = unmade number go
    where
      go : held c.quantity ≡ true → Makes number v c s d → ⊥
      go q m =
          let z = held-pos (leg_price v c s d) (zero-out (increment v s) d (leg_price v c s d) k m.range) in
          let e : l.price ≡ leg_price v c s d = ap (λ (x : Legging). x.price) (el ∙ planned-made k q m) in
          omega arith

  -- nor at the ceiling
  pub made-over : (number : ℕ) → under_ceiling number (generations_of v s) ≡ false → nothing v ≡ generate_leg number c s d v
  made-over number h = unmade number (λ q m. true≢false (sym m.ceiling ∙ h))

  module _ (l : Legging) (el : l ≡ planned_leg v c s d) (n : l.price ≡ 0 → ⊥) where
    asked-all : asked ≡ true
    asked-all = go asked refl
      where
        go : (t : Bool) → asked ≡ t → t ≡ true
        go true e = refl
        go false e = absurd (n (ap (λ (x : Legging). x.price) (el ∙ planned-if false e)))

    asked-held : held c.quantity ≡ true
    unfolding asked
    asked-held = and_l _ _ (and_l _ _ asked-all)

    asked-priced : held (priced_leg v c s d) ≡ true
    unfolding asked
    asked-priced = and_r (held c.quantity) (held (priced_leg v c s d)) (and_l _ _ asked-all)

    priced-is-leg : priced_leg v c s d ≡ leg_price v c s d
    priced-is-leg = priced-leg (priced-clear asked-priced) (priced-range asked-priced)

    asked-may : may_stand v c s d (leg_price v c s d) ≡ true
    unfolding asked
    asked-may = rw priced-is-leg at (and_r (held c.quantity && held (priced_leg v c s d)) _ asked-all)

    pub planned-is : l ≡ new_legging v c s d
    planned-is = el ∙ planned-if true asked-all

    pub planned-displayed : displayed_price (increment v s) d l.price ≤ 100000
    unfolding new_legging within
    planned-displayed = rw planned-is (leb-true _ _ (and_r (leb (increment v s) (displayed_price (increment v s) d (leg_price v c s d))) _ (priced-range asked-priced)))

    module _ (k : ℕ) (ek : k ≡ place_of s d) where
      others-is : others_stand (placed k l v) k 0 (placed k l v).legging ≡ others_stand (placed (place_of s d) (new_legging v c s d) v) (place_of s d) 0
          (placed (place_of s d) (new_legging v c s d) v).legging
      others-is = rw (ek, planned-is) refl

      pub made-alone : (number : ℕ) → others_stand (placed k l v) k 0 (placed k l v).legging ≡ false → nothing v ≡ generate_leg number c s d v
      unfolding placed with_legging
      made-alone number h = unmade number (λ q m. true≢false (sym m.others ∙ sym others-is ∙ h))

      may-generate : may_generate v c ≡ true
      unfolding may_stand
      may-generate = and_l _ _ (and_l _ _ asked-may)

      may-price : price_may_stand v s d (leg_price v c s d) ≡ true
      unfolding may_stand
      may-price = and_r (may_generate v c) (price_may_stand v s d (leg_price v c s d)) (and_l _ _ asked-may)

      may-way : gives_way v c d (leg_price v c s d) (legging_at v s d) ≡ true
      unfolding may_stand
      may-way = and_r (may_generate v c && price_may_stand v s d (leg_price v c s d)) _ asked-may

      makes-all : (number : ℕ) → others_stand (placed k l v) k 0 (placed k l v).legging ≡ true → under_ceiling number (generations_of v s) ≡ true → makes number v c s d ≡ true
      unfolding makes may_generate price_may_stand
      makes-all number h u =
          let o = sym others-is ∙ h in
          let market : (one_to_one c && both_open v c) ≡ true = and_l _ (in_band v c c.limit) may-generate in
          let displayed : displayed_no_worse v s d (leg_price v c s d) ≡ true = and_l _ _ (and_l _ _ may-price) in
          let band : in_band v c c.limit ≡ true = and_r (one_to_one c && both_open v c) _ may-generate in
          let inside : not (reaches_any d (leg_price v c s d) (best_own v s (opposite d))) ≡ true = and_r (displayed_no_worse v s d (leg_price v c s d)) _ (and_l _ _ may-price) in
          let outside : not (reaches_any d (leg_price v c s d) (away v s (opposite d))) ≡ true =
          and_r (displayed_no_worse v s d (leg_price v c s d) && not (reaches_any d (leg_price v c s d) (best_own v s (opposite d)))) _ may-price in
          rw (and_l (one_to_one c) (both_open v c) market, and_r (one_to_one c) (both_open v c) market, band, priced-clear asked-priced, priced-range asked-priced, displayed, inside, outside, may-way, o, u)

      pub made-is : (number : ℕ) → others_stand (placed k l v) k 0 (placed k l v).legging ≡ true → under_ceiling number (generations_of v s) ≡ true →
          made_by number c.id s d l v ≡ generate_leg number c s d v
      unfolding generate_leg make made_by
      made-is number h u = rw (asked-held, makes-all number h u, planned-is) refl

-- One place for another -----------------------------------------------------------------------

pub placed-back : (b : List ℕ) (n : ℕ) (x old : Legging) → n < 16 → old ≡ legging_in b n → placed n old (placed n x (venue_of b)) ≡ venue_of b
unfolding placed with_legging
placed-back b n x old h e =
    ap (λ (l : List Legging). with_legging (venue_of b) l)
    (set-set (venue_of b).legging n x old ∙ ap (set (venue_of b).legging n) (e ∙ sym (legging-at b n h)) ∙ set-get_or (venue_of b).legging n no_legging)

pub placed-regular : (n : ℕ) (l : Legging) (v : Venue) → (placed n l v).regular ≡ v.regular
unfolding placed with_legging
placed-regular n l v = refl

-- the grid is of the regular orders alone
pub grid-kept : (g : List (List Level)) (os ps : List Regular) → ps ≡ os → GridOf g os → GridOf g ps
grid-kept g os ps e h = λ s d hs hd. h s d hs hd ∙ ap (level_of s d) (sym e)

-- The making ----------------------------------------------------------------------------------

pub made-law : (number id s d n displayed : ℕ) (l : Legging) (v v₁ v₂ v₃ : Venue) (o₀ o₁ o₂ : List ℕ) (at mid r : ℕ) → n ≡ place_of s d → displayed ≡ displayed_price (increment v s) d l.price →
    stage v₁ o₁ mid ≡ seen o₀ at does remove (λ m _. fail_if (eqb m n) Replaced) v →
    v₂ ≡ placed n l v₁ → v₃ ≡ counted number s v₂ →
    seen o₂ r ≡ seen o₁ mid writes (generated id s d l.price displayed l.quantity ∷ []) →
    stage v₃ o₂ r ≡ seen o₀ at does made_by number id s d l v
unfolding made_by
made-law number id s d n displayed l v v₁ v₂ v₃ o₀ o₁ o₂ at mid r en es p q t w =
    follow (seen o₀ at) (remove (λ m _. fail_if (eqb m (place_of s d)) Replaced) v)
    (λ u. report (generated id s d l.price (displayed_price (increment v s) d l.price) l.quantity) (counted number s (placed (place_of s d) l u))) v₁ v₃ o₁ o₂ mid r
    (p ∙ ap (λ (k : ℕ). seen o₀ at does remove (λ m _. fail_if (eqb m k) Replaced) v) en)
    (does-report v₃ o₂ o₁ r mid (generated id s d l.price displayed l.quantity) w
    ∙ ap (λ (e : Effect). seen o₁ mid does e)
    (ap₂ (λ (k : ℕ) (u : Venue). report (generated id s d l.price k l.quantity) u) es (t ∙ ap (counted number s) (q ∙ ap (λ (k : ℕ). placed k l v₁) en))))

-- The order at a place ------------------------------------------------------------------------

-- where neither leg makes anything
neither : (number : ℕ) (v : Venue) (i : ℕ) → ((s d : ℕ) → nothing v ≡ generate_leg number (complex_at v i) s d v) → nothing v ≡ generate number i v
unfolding generate ◌⟫◌ nothing
neither number v i q =
    let c = complex_at v i in
    q c.series2 c.side2 ∙ ap (λ (e : Effect). e ⟫ generate_leg number c c.series2 c.side2) (q c.series1 c.side1)

-- a place that is not in use has nothing to generate
pub generate-past : (number : ℕ) (b : List ℕ) (i : ℕ) → complexes_used b ≤ i → nothing (venue_of b) ≡ generate number i (venue_of b)
generate-past number b i h = neither number (venue_of b) i (λ s d. rw (complex-past b i h) (gone-none (venue_of b) no_complex s d number refl))

module _ (b : List ℕ) (i : ℕ) (c : Complex) (ec : c ≡ complex_in b i) where
  pub complex-in : LegsIn c
  complex-in = rw ec (legs-in b i)

  module _ (number : ℕ) (h : i < complexes_used b) where
    pub generate-gone : c.quantity ≡ 0 → nothing (venue_of b) ≡ generate number i (venue_of b)
    generate-gone k = neither number (venue_of b) i (λ s d. rw (complex-at b i h, ← ec) (gone-none (venue_of b) c s d number k))

    pub generate-shut : may_generate (venue_of b) c ≡ false → nothing (venue_of b) ≡ generate number i (venue_of b)
    generate-shut k = neither number (venue_of b) i (λ s d. rw (complex-at b i h, ← ec) (shut_none (venue_of b) c s d number k))

    pub generate-is : generate_leg number c c.series1 c.side1 (venue_of b) ⟫ generate_leg number c c.series2 c.side2 ≡ generate number i (venue_of b)
    unfolding generate
    generate-is = ap (λ (x : Complex). generate_leg number x x.series1 x.side1 (venue_of b) ⟫ generate_leg number x x.series2 x.side2) (ec ∙ sym (complex-at b i h))
