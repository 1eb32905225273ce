-- A message is decoded from its bytes.
use Rattle.std.specs.Prelude.{if◌then◌else◌, Ok}
use mathlib.Core.Path.{◌≡◌, refl, sym, ap, ◌∙◌}
use mathlib.Core.Bool.{Bool, true, false, not, ◌&&◌}
use mathlib.Core.List.{List, ◌∷◌, ◌++◌}
use Prim.Native.Nat.{ℕ, ◌-◌, ◌≤◌}
use native.Mathlib.Omega.{arith}
use lib.Dec.{eqb, leb}
use lib.ListN.{length, length-append}
use lib.IntN.{ℤ, pos, negsuc}
use borrow.Author.Tests.{leb-true, eqb-true}
use Rattle.rules.specs.declared.Regular.{Regular}
use Rattle.rules.specs.declared.Complex.{Complex}
use Rattle.rules.specs.declared.Message.{Message}
use Rattle.rules.specs.declared.Message.TheVariants.{Order, TwoLeg, Cancel, Away, Status, Sweep, Increment, Percent, LimitedSweep}
use Rattle.rules.specs.Words.{within, is_id, is_series, is_side, is_class, is_status, is_quantity, is_away, is_price, one_to_one}
use Rattle.rules.specs.Settings.{is_increment, is_percent, is_edition}
use Rattle.rules.specs.Bytes.{u8_at, u16_at, u32_at, as_unsigned, length_field, kind_field, bytes, u8, u32, framed}
use Rattle.rules.specs.Messages.{length_of, order_at, two_leg_at, message_of, order_fields, two_leg_fields, encode_message}
use Rattle.rules.specs.Records.{OneByte, FourBytes, FourSigned}
use Rattle.rules.specs.Refusals.{is_kind, regular_in_range, two_leg_in_range, far_of, in_range, equal_ratios, decoded, complex_in_range}
use Rattle.rules.specs.Sound.{shows_fully}
use Rattle.rules.proofs.Integers.{plus, minus}
use Rattle.rules.proofs.Tests.{and_l, and_r, not-out}
use Rattle.rules.proofs.Reading.{byte, word, signed_back, signed-small}
use Rattle.rules.proofs.RefusalsLaws.{well_formed}
use Rattle.rules.proofs.Widths.{complex-fits}
use Rattle.wire.specs.Brought.{Shows}
use Rattle.wire.proofs.Decoding.{whole, taken}

-- Widths --------------------------------------------------------------------------------------

-- what is in a range is at most its upper end
at_most : (low high x : ℕ) → within low high x ≡ true → x ≤ high
unfolding within
at_most low high x h = leb-true x high (and_r (leb low x) (leb x high) h)

limit-fits : (z : ℤ) → plus z ≤ 600000 → minus z ≤ 600000 → FourSigned z
unfolding plus minus
limit-fits (pos n) h k = omega arith
limit-fits (negsuc n) h k = omega arith

pub id-fits : (x : ℕ) → is_id x ≡ true → FourBytes x
unfolding is_id
id-fits x h = let k = at_most 1 4294967295 x h in omega arith

pub series-fits : (x : ℕ) → is_series x ≡ true → OneByte x
unfolding is_series
series-fits x h = let k = at_most 0 7 x h in omega arith

side-fits : (x : ℕ) → is_side x ≡ true → OneByte x
unfolding is_side
side-fits x h = let k = at_most 0 1 x h in omega arith

class-fits : (x : ℕ) → is_class x ≡ true → OneByte x
unfolding is_class
class-fits x h = let k = at_most 0 1 x h in omega arith

pub status-fits : (x : ℕ) → is_status x ≡ true → OneByte x
unfolding is_status
status-fits x h = let k = at_most 0 2 x h in omega arith

pub quantity-fits : (x : ℕ) → is_quantity x ≡ true → FourBytes x
unfolding is_quantity
quantity-fits x h = let k = at_most 1 10000 x h in omega arith

pub away-fits : (x : ℕ) → is_away x ≡ true → FourBytes x
unfolding is_away
away-fits x h = let k = at_most 0 100000 x h in omega arith

pub price-fits : (x : ℕ) → is_price x ≡ true → FourBytes x
unfolding is_price
price-fits x h = let k = at_most 1 100000 x h in omega arith

-- a shown quantity is at most the quantity
pub display-fits : (o : Regular) → regular_in_range o ≡ true → FourBytes o.display
unfolding regular_in_range is_quantity
display-fits o h =
    let q = at_most 1 10000 o.quantity (search (and_l, and_r, h) depth 10) in
    let x = at_most 1 o.quantity o.display (search (and_l, and_r, h) depth 10) in
    omega arith

pub increment-fits : (x : ℕ) → is_increment x ≡ true → OneByte x
unfolding is_increment
increment-fits x h = go (eqb x 1) refl (eqb x 5) refl
  where
    go : (t : Bool) → eqb x 1 ≡ t → (u : Bool) → eqb x 5 ≡ u → OneByte x
    go true e u f = let k = eqb-true x 1 e in omega arith
    go false e true f = let k = eqb-true x 5 f in omega arith
    go false e false f = let k = eqb-true x 10 (rw (e, f) at h) in omega arith

pub percent-fits : (x : ℕ) → is_percent x ≡ true → OneByte x
unfolding is_percent
percent-fits x h = let k = at_most 0 50 x h in omega arith

pub edition-fits : (x : ℕ) → is_edition x ≡ true → FourBytes x
unfolding is_edition
edition-fits x h = let k = at_most 0 4294967295 x h in omega arith

-- An order's bytes -----------------------------------------------------------------------------

-- an order's fields, after a length and a kind, are read back, with so much shown of it
fields_back : (o : Regular) → regular_in_range o ≡ true → (a b c d : ℕ) (rest : List ℕ) (x : ℕ) →
    order_at x (a ∷ b ∷ c ∷ d ∷ (order_fields o ++ rest)) ≡
    record { id = o.id; series = o.series; side = o.side; price = o.price; quantity = o.quantity; display = x; reserve = o.quantity - x }
unfolding order_at order_fields bytes u8_at u16_at u32_at regular_in_range
fields_back o h a b c d rest x =
    let z = h in
    rw (
      word o.id (id-fits _ (search (and_l, and_r, z) depth 10)),
      byte o.series (series-fits _ (search (and_l, and_r, z) depth 10)),
      byte o.side (side-fits _ (search (and_l, and_r, z) depth 10)),
      word o.price (price-fits _ (search (and_l, and_r, z) depth 10)),
      word o.quantity (quantity-fits _ (search (and_l, and_r, z) depth 10)),
    )

-- of one that shows what it should
pub order-back : (o : Regular) → regular_in_range o ≡ true → shows_fully o ≡ true → (a b c d : ℕ) (rest : List ℕ) (x : ℕ) → x ≡ o.display →
    order_at x (a ∷ b ∷ c ∷ d ∷ (order_fields o ++ rest)) ≡ o
unfolding shows_fully
order-back o h f a b c d rest x e =
    fields_back o h a b c d rest x ∙ (rw (e, ← eqb-true o.reserve (o.quantity - o.display) f))

-- A complex order's bytes ----------------------------------------------------------------------

-- its fields, after a length and a kind, are read back, with its ratios
pub two-leg-back : (o : Complex) → complex_in_range o ≡ true → (a b c d : ℕ) (rest : List ℕ) (r s : ℕ) → r ≡ o.ratio1 → s ≡ o.ratio2 →
    two_leg_at (a ∷ b ∷ c ∷ d ∷ (two_leg_fields o ++ rest)) r s ≡ o
unfolding two_leg_at two_leg_fields bytes u8_at u16_at u32_at complex_in_range two_leg_in_range
two-leg-back o h a b c d rest r s e q =
    let z = h in
    let f = complex-fits o h in
    let s1 = f.series1 in
    let d1 = f.side1 in
    let s2 = f.series2 in
    let d2 = f.side2 in
    let k = f.quantity in
    let n = limit-fits o.limit f.high f.low in
    rw (
      word o.id f.id,
      byte o.series1 (omega arith),
      byte o.side1 (omega arith),
      byte o.series2 (omega arith),
      byte o.side2 (omega arith),
      byte o.class (class-fits _ (search (and_l, and_r, z) depth 14)),
      word (as_unsigned o.limit) (signed-small o.limit n),
      signed_back o.limit n,
      word o.quantity (omega arith),
      e,
      q,
    )

-- a ratio is one byte
pub first_fits : (c : Complex) → complex_in_range c ≡ true → OneByte c.ratio1
first_fits c h = let r = (complex-fits c h).ratio1 in omega arith

pub second_fits : (c : Complex) → complex_in_range c ≡ true → OneByte c.ratio2
second_fits c h = let r = (complex-fits c h).ratio2 in omega arith

-- A message's bytes ---------------------------------------------------------------------------

-- the bytes of a complex order, by whether it is one to one
abbrev two_leg_bytes : Complex → Bool → List ℕ
two_leg_bytes c t = if t then framed 2 (two_leg_fields c) else framed 10 (two_leg_fields c ++ u8 c.ratio1 ++ u8 c.ratio2)

-- a message that may be taken is the one at the front of its bytes, whatever follows
pub message-back : (m : Message) → well_formed m ≡ true → Shows m → (rest : List ℕ) → message_of (encode_message m ++ rest) ≡ m
unfolding message_of encode_message order_fields two_leg_fields framed bytes kind_field u8_at u16_at u32_at well_formed regular_in_range one_to_one Shows
message-back (Order o) h f rest = go (eqb o.display o.quantity) refl
  where
    z : regular_in_range o ≡ true
    z = h

    shows : shows_fully o ≡ true
    shows = f o refl

    -- either kind
    go : (t : Bool) → eqb o.display o.quantity ≡ t →
        message_of ((if t then framed 1 (order_fields o) else framed 9 (order_fields o ++ u32 o.display)) ++ rest) ≡ Order o
    go true e =
        let q = quantity-fits o.quantity (search (and_l, and_r, z) depth 10) in
        ap Order (order-back o h shows _ _ _ _ rest _ (word o.quantity q ∙ sym (eqb-true o.display o.quantity e)))
    go false e =
        let x = display-fits o h in
        ap Order (order-back o h shows _ _ _ _ (u32 o.display ++ rest) _ (word o.display x))
message-back (TwoLeg c) h f rest = go (one_to_one c) refl
  where
    -- either kind
    go : (t : Bool) → one_to_one c ≡ t → message_of (two_leg_bytes c t ++ rest) ≡ TwoLeg c
    go true e =
        let one = eqb-true c.ratio1 1 (and_l _ (eqb c.ratio2 1) e) in
        let two = eqb-true c.ratio2 1 (and_r (eqb c.ratio1 1) _ e) in
        ap TwoLeg (two-leg-back c h _ _ _ _ rest 1 1 (sym one) (sym two))
    go false e =
        ap TwoLeg (two-leg-back c h _ _ _ _ (u8 c.ratio1 ++ u8 c.ratio2 ++ rest) _ _ (byte c.ratio1 (first_fits c h)) (byte c.ratio2 (second_fits c h)))
message-back (Cancel id) h f rest = rw (word id (id-fits id h))
message-back (Away s bid offer) h f rest =
    let z = h in
    rw (
      byte s (series-fits s (search (and_l, z))),
      word bid (away-fits bid (search (and_l, and_r, z))),
      word offer (away-fits offer (search (and_l, and_r, z))),
    )
message-back (Status s x) h f rest =
    rw (byte s (series-fits s (and_l (is_series s) (is_status x) h)), byte x (status-fits x (and_r (is_series s) (is_status x) h)))
message-back Sweep h f rest = refl
message-back (Increment s i e) h f rest =
    let z = h in
    rw (
      byte s (series-fits s (search (and_l, z))),
      byte i (increment-fits i (search (and_l, and_r, z))),
      word e (edition-fits e (search (and_l, and_r, z))),
    )
message-back (Percent x e) h f rest =
    rw (byte x (percent-fits x (and_l (is_percent x) (is_edition e) h)), word e (edition-fits e (and_r (is_percent x) (is_edition e) h)))
message-back (LimitedSweep n) h f rest = let k = at_most 1 32 n h in rw (byte n (omega arith))

-- what stands at the front of a message's bytes: its length, which is its kind's, and its kind, of which its fields are in range and its ratios differ
pub record Front (m : Message) (s : List ℕ) (n : ℕ) : Type 0 where
  pub size : length_field s ≡ n
  pub kind : is_kind (kind_field s) ≡ true
  pub kinds-size : n ≡ length_of (kind_field s)
  pub least : 4 ≤ n
  pub range : in_range (kind_field s) m ≡ true
  pub uneven : equal_ratios s ≡ false

pub front : (m : Message) (rest : List ℕ) → well_formed m ≡ true → Front m (encode_message m ++ rest) (length (encode_message m))
unfolding encode_message order_fields two_leg_fields framed bytes length_field kind_field u8_at u16_at is_kind within length_of well_formed in_range equal_ratios far_of complex_in_range
front (Order o) rest h = go (eqb o.display o.quantity)
  where
    -- either kind
    go : (t : Bool) → let bs = if t then framed 1 (order_fields o) else framed 9 (order_fields o ++ u32 o.display) in Front (Order o) (bs ++ rest) (length bs)
    go true = record { size = refl; kind = refl; kinds-size = refl; least = omega arith; range = h; uneven = refl }
    go false = record { size = refl; kind = refl; kinds-size = refl; least = omega arith; range = h; uneven = refl }
front (TwoLeg c) rest h = go (one_to_one c) refl
  where
    -- either kind
    go : (t : Bool) → one_to_one c ≡ t → Front (TwoLeg c) (two_leg_bytes c t ++ rest) (length (two_leg_bytes c t))
    go true e = record { size = refl; kind = refl; kinds-size = refl; least = omega arith; range = and_l _ true (rw e at h); uneven = refl }
    go false e =
        let w : (two_leg_in_range 600000 c && not (eqb c.ratio1 c.ratio2)) ≡ true = rw e at h in
        record {
          size = refl;
          kind = refl;
          kinds-size = refl;
          least = omega arith;
          range = and_l (two_leg_in_range 600000 c) _ w;
          uneven = rw (byte c.ratio1 (first_fits c h), byte c.ratio2 (second_fits c h)) (not-out _ (and_r (two_leg_in_range 600000 c) _ w));
        }
front (Cancel id) rest h = record { size = refl; kind = refl; kinds-size = refl; least = omega arith; range = h; uneven = refl }
front (Away s bid offer) rest h = record { size = refl; kind = refl; kinds-size = refl; least = omega arith; range = h; uneven = refl }
front (Status s x) rest h = record { size = refl; kind = refl; kinds-size = refl; least = omega arith; range = h; uneven = refl }
front Sweep rest h = record { size = refl; kind = refl; kinds-size = refl; least = omega arith; range = h; uneven = refl }
front (Increment s i e) rest h = record { size = refl; kind = refl; kinds-size = refl; least = omega arith; range = h; uneven = refl }
front (Percent x e) rest h = record { size = refl; kind = refl; kinds-size = refl; least = omega arith; range = h; uneven = refl }
front (LimitedSweep n) rest h = record { size = refl; kind = refl; kinds-size = refl; least = omega arith; range = h; uneven = refl }

-- decoding gives the message back, whatever follows
pub decodes-back : (m : Message) → well_formed m ≡ true → Shows m → (rest : List ℕ) → decoded (encode_message m ++ rest) ≡ Ok m
unfolding length_field kind_field
decodes-back m h z rest =
    let s : List ℕ = encode_message m ++ rest in
    let n = length-append (encode_message m) rest in
    let f = front m rest h in
    let k : u16_at s 0 ≡ length (encode_message m) = f.size in
    let l = f.least in
    sym (taken s m (sym (message-back m h z rest)) (whole s (omega arith) (omega arith) (omega arith)) f.kind (k ∙ f.kinds-size) f.range f.uneven)
