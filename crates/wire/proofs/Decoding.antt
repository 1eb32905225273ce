-- The refusals 1 to 4 and 14 and the message, each from what the code has found of the bytes.
use Rattle.std.specs.Prelude.{Ok, Err}
use Rattle.std.specs.Ordering.{is_le, nat_cmp}
use mathlib.Core.Path.{◌≡◌, refl, ap₂}
use mathlib.Core.Bool.{Bool, true, false, not, ◌&&◌, ◌||◌}
use mathlib.Core.List.{List}
use Prim.Native.Nat.{ℕ, suc, ◌<◌, ◌≤◌}
use native.Mathlib.Omega.{arith}
use lib.Dec.{leb, eqb}
use lib.ListN.{length}
use borrow.Author.Tests.{lt-ltb, le-ltb, le-leb, lt-leb, leb-true, leb-false, eq-eqb, ne_eqb, eqb-true, eqb-false}
use Rattle.rules.specs.declared.Regular.{Regular}
use Rattle.rules.specs.declared.Complex.{Complex}
use Rattle.rules.specs.declared.Message.{Message}
use Rattle.rules.specs.declared.Message.TheVariants.{Order, TwoLeg, Cancel, Away, Status, Sweep, Increment, Percent, LimitedSweep}
use Rattle.rules.specs.declared.Refusal.TheVariants.{Torn, NoKind, WrongLength, OutOfRange, EqualRatios}
use Rattle.rules.specs.Words.{within, is_id, is_series, is_side, is_class, is_quantity, is_price, is_limit, is_ratio}
use Rattle.rules.specs.Settings.{is_edition}
use Rattle.rules.specs.Bytes.{u8_at, u16_at, u32_at, length_field, kind_field}
use Rattle.rules.specs.Messages.{length_of, order_at, two_leg_at, message_of}
use Rattle.rules.specs.Refusals.{torn, is_kind, is_length, regular_in_range, two_leg_in_range, in_range, equal_ratios, decoded}
use Rattle.rules.proofs.Tests.{and-true}
use Rattle.rules.proofs.Ranges.{below, inside, within-top}

-- Ranges --------------------------------------------------------------------------------------

-- the library's test of a range, `(low..=high).contains(&x)`
nat-le : (a b : ℕ) → is_le (nat_cmp a b) ≡ leb a b
nat-le a b = go (leb (suc a) b) refl (eqb a b) refl
  where
    go : (s : Bool) → leb (suc a) b ≡ s → (t : Bool) → eqb a b ≡ t → is_le (nat_cmp a b) ≡ leb a b
    go true e t f = let h = leb-true _ _ e in rw (e, le-leb a b (omega arith)) refl
    go false e true f = let h = eqb-true _ _ f in rw (e, f, le-leb a b (omega arith)) refl
    go false e false f = let h = leb-false _ _ e in let n = eqb-false _ _ f in rw (e, f, lt-leb a b (omega (arith, n))) refl

pub contained : (low high x : ℕ) → (is_le (nat_cmp low x) && is_le (nat_cmp x high)) ≡ within low high x
unfolding within
contained low high x = ap₂ (λ (a b : Bool). a && b) (nat-le low x) (nat-le x high)

-- an id is any number of 32 bits but 0
pub id-is : (x : ℕ) → x < 4294967296 → not (eqb x 0) ≡ is_id x
unfolding is_id
id-is x h = go (eqb x 0) refl
  where
    go : (t : Bool) → eqb x 0 ≡ t → not (eqb x 0) ≡ within 1 4294967295 x
    go true e = let z = eqb-true x 0 e in rw (e, below 1 4294967295 x (omega arith))
    go false e = let z = eqb-false x 0 e in rw (e, inside 1 4294967295 x (omega arith) (omega arith))

-- an edition is any number of 32 bits
pub any-edition : (b : Bool) (x : ℕ) → x < 4294967296 → (b && is_edition x) ≡ b
unfolding is_edition
any-edition b x h = rw (inside 0 4294967295 x (omega arith) (omega arith)) (and-true b)

-- a regular order whose other fields are in range, and which shows some of it
pub regular-shown : (o : Regular) → 0 < o.id → o.id ≤ 4294967295 → o.series ≤ 7 → o.side ≤ 1 →
    is_price o.price ≡ true → is_quantity o.quantity ≡ true → 0 < o.display → leb o.display o.quantity ≡ regular_in_range o
unfolding regular_in_range is_id is_series is_side
regular-shown o a b s d p q x =
    rw (inside 1 4294967295 o.id a b, inside 0 7 o.series (omega arith) s, inside 0 1 o.side (omega arith) d, p, q)
    (within-top 1 o.quantity o.display x)

-- a complex order whose other fields are in range
module _ (far : ℕ) (c : Complex) (a : 0 < c.id) (b : c.id ≤ 4294967295) where
  -- its legs: in range, and in two series
  abbrev legs : Bool
  legs = is_series c.series1 && is_side c.side1 && is_series c.series2 && is_side c.side2 && not (eqb c.series1 c.series2)

  pub two-leg-out : legs ≡ false → false ≡ two_leg_in_range far c
  unfolding two_leg_in_range is_id
  two-leg-out l = rw (inside 1 4294967295 c.id a b, l)

  pub two-leg-ratio : legs ≡ true → c.class ≤ 1 → is_limit far c.limit ≡ true → is_quantity c.quantity ≡ true → is_ratio c.ratio1 ≡ true →
      is_ratio c.ratio2 ≡ two_leg_in_range far c
  unfolding two_leg_in_range is_id is_class
  two-leg-ratio l k n q r = rw (inside 1 4294967295 c.id a b, l, inside 0 1 c.class (omega arith) k, n, q, r)

-- Kinds ---------------------------------------------------------------------------------------

-- bytes that are as many as their kind's length, of a kind that is known
pub of_length : (s : List ℕ) (k : ℕ) → u16_at s 2 ≡ k → length_of (u16_at s 2) ≤ length s → length_of k ≤ length s
of_length s k e h = rw (← e) h

module _ (s : List ℕ) where
  pub message-order : u16_at s 2 ≡ 1 → message_of s ≡ Order (order_at (u32_at s 14) s)
  unfolding message_of kind_field
  message-order e = rw e

  pub message-two-leg : u16_at s 2 ≡ 2 → message_of s ≡ TwoLeg (two_leg_at s 1 1)
  unfolding message_of kind_field
  message-two-leg e = rw e

  pub message-cancel : u16_at s 2 ≡ 3 → message_of s ≡ Cancel (u32_at s 4)
  unfolding message_of kind_field
  message-cancel e = rw e

  pub message-away : u16_at s 2 ≡ 4 → message_of s ≡ Away (u8_at s 4) (u32_at s 5) (u32_at s 9)
  unfolding message_of kind_field
  message-away e = rw e

  pub message-status : u16_at s 2 ≡ 5 → message_of s ≡ Status (u8_at s 4) (u8_at s 5)
  unfolding message_of kind_field
  message-status e = rw e

  pub message-sweep : u16_at s 2 ≡ 6 → message_of s ≡ Sweep
  unfolding message_of kind_field
  message-sweep e = rw e

  pub message-increment : u16_at s 2 ≡ 7 → message_of s ≡ Increment (u8_at s 4) (u8_at s 5) (u32_at s 6)
  unfolding message_of kind_field
  message-increment e = rw e

  pub message-percent : u16_at s 2 ≡ 8 → message_of s ≡ Percent (u8_at s 4) (u32_at s 5)
  unfolding message_of kind_field
  message-percent e = rw e

  pub message-reserve : u16_at s 2 ≡ 9 → message_of s ≡ Order (order_at (u32_at s 18) s)
  unfolding message_of kind_field
  message-reserve e = rw e

  pub message-ratios : u16_at s 2 ≡ 10 → message_of s ≡ TwoLeg (two_leg_at s (u8_at s 21) (u8_at s 22))
  unfolding message_of kind_field
  message-ratios e = rw e

  pub message-limited : u16_at s 2 ≡ 11 → message_of s ≡ LimitedSweep (u8_at s 4)
  unfolding message_of kind_field
  message-limited e = rw e

-- Refusals ------------------------------------------------------------------------------------

or-true : (a : Bool) → (a || true) ≡ true
or-true true = refl
or-true false = refl

module _ (s : List ℕ) where
  pub torn-short : length s < 4 → Err Torn ≡ decoded s
  unfolding decoded torn
  torn-short h = rw (lt-ltb _ _ h)

  pub torn-low : u16_at s 0 < 4 → Err Torn ≡ decoded s
  unfolding decoded torn length_field
  torn-low h = simp (lt-ltb _ _ h, or-true)

  pub torn-high : length s < u16_at s 0 → Err Torn ≡ decoded s
  unfolding decoded torn length_field
  torn-high h = simp (lt-ltb _ _ h, or-true)

  -- the message is whole
  pub whole : 4 ≤ length s → 4 ≤ u16_at s 0 → u16_at s 0 ≤ length s → torn s ≡ false
  unfolding torn length_field
  whole a b c = rw (le-ltb _ _ a, le-ltb _ _ b, le-ltb _ _ c)

  pub no_kind : torn s ≡ false → is_kind (u16_at s 2) ≡ false → Err NoKind ≡ decoded s
  unfolding decoded kind_field
  no_kind t k = rw (t, k)

  pub no_length : torn s ≡ false → is_kind (u16_at s 2) ≡ true → (u16_at s 0 ≡ length_of (u16_at s 2) → ⊥) → Err WrongLength ≡ decoded s
  unfolding decoded kind_field length_field is_length
  no_length t k n = rw (t, k, ne_eqb _ _ n)

  module _ (m : Message) (e : m ≡ message_of s) (t : torn s ≡ false) (k : is_kind (u16_at s 2) ≡ true) (n : u16_at s 0 ≡ length_of (u16_at s 2)) where
    pub no-range : in_range (u16_at s 2) m ≡ false → Err OutOfRange ≡ decoded s
    unfolding decoded kind_field length_field is_length
    no-range h = rw (t, k, eq-eqb _ _ n, ← e, h)

    module _ (h : in_range (u16_at s 2) m ≡ true) where
      pub equal : equal_ratios s ≡ true → Err EqualRatios ≡ decoded s
      unfolding decoded kind_field length_field is_length
      equal q = rw (t, k, eq-eqb _ _ n, ← e, h, q)

      pub taken : equal_ratios s ≡ false → Ok m ≡ decoded s
      unfolding decoded kind_field length_field is_length
      taken q = rw (t, k, eq-eqb _ _ n, ← e, h, q)
