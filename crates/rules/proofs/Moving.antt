-- Trades with regular orders, cancels and crosses move the ledger.
use Rattle.std.specs.Prelude.{if◌then◌else◌}
use mathlib.Core.Path.{◌∙◌, ◌≡◌, refl, sym}
use mathlib.Core.Bool.{Bool, ◌||◌, false, true}
use mathlib.Core.Logic.{◌≢◌}
use mathlib.Core.List.{List}
use Prim.Native.Nat.{◌+◌, ◌<◌, ◌≤◌, ℕ}
use native.Mathlib.Nat.{mul-zero}
use native.Mathlib.Omega.{arith}
use lib.Dec.{eqb}
use lib.IntN.{ℤ}
use lib.ListN.{length, length-set}
use lib.Seq.{get_or-set_other}
use borrow.Author.Tests.{eqb-false, eqb-true, ne_eqb}
use Rattle.rules.specs.declared.Complex.{Complex}
use Rattle.rules.specs.declared.Venue.{Venue}
use Rattle.rules.specs.Base.{held}
use Rattle.rules.specs.Words.{complex_at, no_complex, opposite, regular_at, with_complex, with_regular}
use Rattle.rules.specs.Records.{Report, cancelled, crossed, trade}
use Rattle.rules.specs.Effects.{report}
use Rattle.rules.specs.Trading.{fill_complex, fill_regular, trade_with}
use Rattle.rules.specs.Order.{meet}
use Rattle.rules.specs.Complex.{cancel_complex, cancel_regular, cross}
use Rattle.rules.specs.Sums.{cancelled_of, contracts, crossed_for, open_complex, open_regular, paired, total}
use Rattle.rules.proofs.Adding.{count-maker, count-neither, count-taker, open-fill, open-fill_c}
use Rattle.rules.proofs.Filling.{cx, fewer-refl, fewer-trans, fewer_c-refl, fewer_c-trans, fill-complex, fill-fewer, fill-fewer_c, fill-last}
use Rattle.rules.proofs.Filling.{fill_c-last, fill_c-regular, filled-other, reg, still-held}
use Rattle.rules.proofs.Ledger.{ComplexId, Moves, RegularId, cx-kept, moves-remove_of, moves-then, reg-kept}
use Rattle.rules.proofs.Sizes.{shown-most, shows-held}
use Rattle.rules.proofs.TradingLaws.{Chain, no-more, traded}

-- Chains of trades ----------------------------------------------------------------------------

module _ (i q : ℕ) (v : Venue) where
  pub reg-fill : {y s : ℕ} → RegularId y s v → RegularId y s (fill_regular i q v)
  reg-fill r = reg-kept (fill-fewer i q v) (rw fill-complex (fewer_c-refl _)) r

  pub cx-fill : {m : Complex} → ComplexId m v → ComplexId m (fill_regular i q v)
  cx-fill r = cx-kept (fill-fewer i q v) (rw fill-complex (fewer_c-refl _)) r

module _ {x t d p : ℕ} where
  -- a chain of trades by another taker
  pub chain-reg : (y s : ℕ) {v w : Venue} {rs : List Report} → x ≢ y → RegularId y s v → Chain x t d p v rs w →
      open_regular y v.regular ≡ open_regular y w.regular + total (contracts y s) rs
  unfolding total regular_at
  chain-reg y s ne r no-more = omega arith
  chain-reg y s ne r (traded {v = v} i q f z e le c) =
      let ih = chain-reg y s ne (reg-fill i q v r) c in
      let a = open-fill i q v y f (let m = shown-most (reg v i) in omega arith) in
      let b = count-maker y s (reg v i).series d (reg v i).price q x (reg v i).id ne (λ g. r.home i (shows-held t (opposite d) (reg v i) z) g) in
      rw b (omega arith)

  -- a chain never names the id of another complex order
  pub chain-cx : (y s : ℕ) {v w : Venue} {rs : List Report} → x ≢ y → ((i : ℕ) → held (reg v i).quantity ≡ true → (reg v i).id ≡ y → ⊥) → Chain x t d p v rs w →
      total (contracts y s) rs ≡ 0
  unfolding total regular_at
  chain-cx y s ne n no-more = refl
  chain-cx y s ne n (traded {v = v} i q f z e le c) =
      let ih = chain-cx y s ne (λ j h g. n j (still-held ((fill-fewer i q v).lesser j) h) (sym ((fill-fewer i q v).lesser j).id ∙ g)) c in
      let b = count-neither y s (reg v i).series d (reg v i).price q x (reg v i).id ne (λ g. n i (shows-held t (opposite d) (reg v i) z) g) in
      rw b (omega arith)

-- A regular order meets another ---------------------------------------------------------------

-- places i and j, for k: of different sides of one series, both with k open
pub record Meets (v : Venue) (i j k : ℕ) : Type 0 where
  pub apart : i ≢ j
  pub fits1 : i < length v.regular
  pub fits2 : j < length v.regular
  pub held1 : held (reg v i).quantity ≡ true
  pub held2 : held (reg v j).quantity ≡ true
  pub series : (reg v j).series ≡ (reg v i).series
  pub enough1 : k ≤ (reg v i).quantity
  pub enough2 : k ≤ (reg v j).quantity

module _ (i j k : ℕ) (v : Venue) (m : Meets v i j k) where
  -- the other order is as it was when the first is filled
  pub other-same : reg (fill_regular i k v) j ≡ reg v j
  other-same = filled-other i k v j (λ e. m.apart (sym e))

  fits2' : j < length (fill_regular i k v).regular
  unfolding fill_regular with_regular
  fits2' = rw length-set m.fits2

  meet-orders : (y s : ℕ) → RegularId y s v →
      open_regular y v.regular ≡ open_regular y (fill_regular j k (fill_regular i k v)).regular
      + contracts y s (trade (reg v j).series (reg v i).side (reg v j).price k (reg v i).id (reg v j).id)
  meet-orders y s r =
      let a = open-fill i k v y m.fits1 m.enough1 in
      let b = rw other-same at (open-fill j k (fill_regular i k v) y fits2' (rw other-same m.enough2)) in
      go (eqb (reg v i).id y) refl a b
    where
      go : (t : Bool) → eqb (reg v i).id y ≡ t →
          open_regular y v.regular ≡ open_regular y (fill_regular i k v).regular + (if eqb (reg v i).id y then k else 0) →
          open_regular y (fill_regular i k v).regular ≡ open_regular y (fill_regular j k (fill_regular i k v)).regular + (if eqb (reg v j).id y then k else 0) →
          open_regular y v.regular ≡ open_regular y (fill_regular j k (fill_regular i k v)).regular
          + contracts y s (trade (reg v j).series (reg v i).side (reg v j).price k (reg v i).id (reg v j).id)
      go true e a b =
          let i=y = eqb-true (reg v i).id y e in
          let j≠y = ne_eqb (reg v j).id y (λ g. m.apart (r.alone i j m.held1 m.held2 i=y g)) in
          rw (count-taker y s _ _ _ k _ (reg v j).id i=y (m.series ∙ r.home i m.held1 i=y)) (omega (arith, rw e at a, rw j≠y at b))
      go false e a b =
          rw (count-maker y s _ _ _ k _ _ (eqb-false (reg v i).id y e) (λ g. r.home j m.held2 g)) (omega (arith, rw e at a))

  meet-none : (c : Complex) (s : ℕ) → ComplexId c v →
      contracts c.id s (trade (reg v j).series (reg v i).side (reg v j).price k (reg v i).id (reg v j).id) ≡ 0
  meet-none c s r = count-neither c.id s _ _ _ k _ _ (λ g. r.none i m.held1 g) (λ g. r.none j m.held2 g)

  pub moves-meet : Moves v (meet i j k v)
  unfolding meet trade_with report regular_at total paired crossed_for cancelled_of
  moves-meet = record {
    regular = fewer-trans (fill-fewer j k (fill_regular i k v)) (fill-fewer i k v);
    complex = rw (fill-complex j k (fill_regular i k v), fill-complex i k v) (fewer_c-refl _);
    last = fill-last j k (fill_regular i k v) ∙ fill-last i k v;
    orders = λ y s r. rw other-same (omega (arith, meet-orders y s r));
    complexes = λ c r. record {
      first = rw (other-same, meet-none c c.series1 r, mul-zero);
      second = rw (other-same, meet-none c c.series2 r, mul-zero);
      falls = rw (fill-complex j k (fill_regular i k v), fill-complex i k v) (omega arith);
    };
  }

-- Cancels -------------------------------------------------------------------------------------

module _ (i : ℕ) (v : Venue) (f : i < length v.regular) (h : held (reg v i).quantity ≡ true) where
  pub moves-cancel_regular : Moves v (cancel_regular i v)
  unfolding cancel_regular report regular_at total contracts paired crossed_for cancelled_of
  moves-cancel_regular = record {
    regular = fill-fewer i _ v;
    complex = rw (fill-complex i (reg v i).quantity v) (fewer_c-refl _);
    last = fill-last i (reg v i).quantity v;
    orders = λ y s r. omega (arith, open-fill i (reg v i).quantity v y f (omega arith));
    complexes = λ c r. record {
      first = sym (mul-zero c.ratio1);
      second = sym (mul-zero c.ratio2);
      falls = rw (fill-complex i (reg v i).quantity v, ne_eqb (reg v i).id c.id (λ g. r.none i h g)) (omega arith);
    };
  }

module _ (i : ℕ) (v : Venue) (f : i < length v.complex) (h : held (cx v i).quantity ≡ true) where
  cancel-fill : Moves v (report (cancelled (complex_at v i).id (complex_at v i).quantity) (fill_complex i (complex_at v i).quantity v))
  unfolding report complex_at total contracts paired crossed_for cancelled_of
  cancel-fill = record {
    regular = rw (fill_c-regular i (cx v i).quantity v) (fewer-refl _);
    complex = fill-fewer_c i _ v;
    last = fill_c-last i (cx v i).quantity v;
    orders = λ y s r. rw (fill_c-regular i (cx v i).quantity v, ne_eqb (cx v i).id y (λ g. r.none i h g)) (omega arith);
    complexes = λ c r. record {
      first = sym (mul-zero c.ratio1);
      second = sym (mul-zero c.ratio2);
      falls = omega (arith, open-fill_c i (cx v i).quantity v c.id f (omega arith));
    };
  }

  pub moves-cancel_complex : Moves v (cancel_complex i v)
  unfolding cancel_complex
  moves-cancel_complex = moves-then _ _ cancel-fill (moves-remove_of _ _ _)

-- Crosses -------------------------------------------------------------------------------------

pub record Crosses (v : Venue) (i j k : ℕ) : Type 0 where
  pub apart : i ≢ j
  pub fits1 : i < length v.complex
  pub fits2 : j < length v.complex
  pub held1 : held (cx v i).quantity ≡ true
  pub held2 : held (cx v j).quantity ≡ true
  pub enough1 : k ≤ (cx v i).quantity
  pub enough2 : k ≤ (cx v j).quantity

module _ (i j k : ℕ) (v : Venue) (m : Crosses v i j k) where
  pub other-same_c : cx (fill_complex i k v) j ≡ cx v j
  unfolding fill_complex with_complex
  other-same_c = get_or-set_other v.complex i j _ no_complex (λ e. m.apart (sym e))

  fits_c' : j < length (fill_complex i k v).complex
  unfolding fill_complex with_complex
  fits_c' = rw length-set m.fits2

  -- of either party, what is open falls by what was crossed
  cross-falls : (c : Complex) → ComplexId c v →
      open_complex c.id v.complex ≡ open_complex c.id (fill_complex j k (fill_complex i k v)).complex
      + (if eqb (cx v i).id c.id || eqb (cx v j).id c.id then k else 0)
  cross-falls c r =
      go (eqb (cx v i).id c.id) refl (open-fill_c i k v c.id m.fits1 m.enough1)
      (rw other-same_c at (open-fill_c j k (fill_complex i k v) c.id fits_c' (rw other-same_c m.enough2)))
    where
      go : (b : Bool) → eqb (cx v i).id c.id ≡ b →
          open_complex c.id v.complex ≡ open_complex c.id (fill_complex i k v).complex + (if eqb (cx v i).id c.id then k else 0) →
          open_complex c.id (fill_complex i k v).complex ≡ open_complex c.id (fill_complex j k (fill_complex i k v)).complex + (if eqb (cx v j).id c.id then k else 0) →
          open_complex c.id v.complex ≡ open_complex c.id (fill_complex j k (fill_complex i k v)).complex
          + (if eqb (cx v i).id c.id || eqb (cx v j).id c.id then k else 0)
      go true e a b =
          let j≠y = ne_eqb (cx v j).id c.id (λ g. m.apart (r.alone i j m.held1 m.held2 (eqb-true (cx v i).id c.id e) g)) in
          rw e (omega (arith, rw e at a, rw j≠y at b))
      go false e a b = rw e (omega (arith, rw e at a))

  cross-fill : (n : ℤ) → Moves v (report (crossed (complex_at v i).id (complex_at v j).id n k) (fill_complex j k (fill_complex i k v)))
  unfolding report total contracts paired crossed_for cancelled_of complex_at
  cross-fill n = record {
    regular = rw (fill_c-regular j k (fill_complex i k v), fill_c-regular i k v) (fewer-refl _);
    complex = fewer_c-trans (fill-fewer_c j k (fill_complex i k v)) (fill-fewer_c i k v);
    last = fill_c-last j k (fill_complex i k v) ∙ fill_c-last i k v;
    orders = λ y s r. rw (fill_c-regular j k (fill_complex i k v), fill_c-regular i k v) (omega arith);
    complexes = λ c r. record { first = sym (mul-zero c.ratio1); second = sym (mul-zero c.ratio2); falls = omega (arith, cross-falls c r) };
  }

  pub moves-cross : Moves v (cross i j k v)
  unfolding cross
  moves-cross = moves-then _ _ (moves-then _ _ (cross-fill _) (moves-remove_of _ _ _)) (moves-remove_of _ _ _)
