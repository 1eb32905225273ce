-- Document 01, "Message and record bytes": the messages, kinds 1 to 6, and document 02's: (d) kinds 7 and 8, (e) kind 9, (g) kind 10, (m)
-- kind 11.
use Rattle.std.specs.Prelude.{◌≡◌, List, [], ◌++◌, ℕ, ◌-◌, eqb, length, if◌then◌else◌}
use Rattle.rules.specs.declared.Regular.{Regular}
use Rattle.rules.specs.declared.Complex.{Complex}
use Rattle.rules.specs.declared.Message.{Message}
use Rattle.rules.specs.declared.Message.TheVariants.{Order, TwoLeg, Cancel, Away, Status, Sweep, Increment, Percent, LimitedSweep}
use Rattle.rules.specs.Words.{one_to_one}
use Rattle.rules.specs.Bytes.{u8_at, u32_at, as_signed, kind_field, u8, u32, i32, framed}

-- The table's column "Length", by kind; 0 for what is no kind of message.
unfoldable pub length_of : (kind : ℕ) → ℕ
length_of k =
    if eqb k 1 then 18
    else if eqb k 2 then 21
    else if eqb k 3 then 8
    else if eqb k 4 then 13
    else if eqb k 5 then 6
    else if eqb k 6 then 4
    else if eqb k 7 then 10
    else if eqb k 8 then 9
    else if eqb k 9 then 22
    else if eqb k 10 then 23
    else if eqb k 11 then 5
    else 0

-- 1 order: id u32, series u8, side u8, price u32, quantity u32. It shows so much of it, and the rest is reserve
unfoldable pub order_at : (display : ℕ) → List ℕ → Regular
order_at x bs = record {
  id = u32_at bs 4;
  series = u8_at bs 8;
  side = u8_at bs 9;
  price = u32_at bs 10;
  quantity = u32_at bs 14;
  display = x;
  reserve = u32_at bs 14 - x;
}

-- 2 complex: id u32, series u8, side u8, series u8, side u8, class u8, N i32, quantity u32; with its ratios
unfoldable pub two_leg_at : List ℕ → (ratio1 ratio2 : ℕ) → Complex
two_leg_at bs r s = record {
  id = u32_at bs 4;
  series1 = u8_at bs 8;
  side1 = u8_at bs 9;
  series2 = u8_at bs 10;
  side2 = u8_at bs 11;
  class = u8_at bs 12;
  limit = as_signed (u32_at bs 13);
  quantity = u32_at bs 17;
  ratio1 = r;
  ratio2 = s;
}

-- the message at the front of bs, whose kind is one of 1 to 11; an order of kind 1 shows all of it, and one of kind 2 is one to one:
-- 3 cancel: id u32; 4 away: series u8, bid u32, offer u32; 5 status: series u8, status u8; 6 sweep: none;
-- (d): "Kind 7 carries series u8, increment u8 … and edition u32. Kind 8 carries percent u8 … and edition u32."
-- (e): "Kind 9 is kind 1 with a shown quantity u32 after it". (g): "Kind 10 is kind 2 with two ratio bytes after it".
-- (m): "Kind 11 is a sweep limited to n resting orders (u8 …)".
unfoldable pub message_of : List ℕ → Message
message_of bs =
    let k = kind_field bs in
    if eqb k 1 then Order (order_at (u32_at bs 14) bs)
    else if eqb k 2 then TwoLeg (two_leg_at bs 1 1)
    else if eqb k 3 then Cancel (u32_at bs 4)
    else if eqb k 4 then Away (u8_at bs 4) (u32_at bs 5) (u32_at bs 9)
    else if eqb k 5 then Status (u8_at bs 4) (u8_at bs 5)
    else if eqb k 6 then Sweep
    else if eqb k 7 then Increment (u8_at bs 4) (u8_at bs 5) (u32_at bs 6)
    else if eqb k 8 then Percent (u8_at bs 4) (u32_at bs 5)
    else if eqb k 9 then Order (order_at (u32_at bs 18) bs)
    else if eqb k 10 then TwoLeg (two_leg_at bs (u8_at bs 21) (u8_at bs 22))
    else LimitedSweep (u8_at bs 4)

-- A number for each case of the type Message, in the order of the cases. It is no kind of the papers: an order is of kind 1 or 9, a
-- complex order of kind 2 or 10, a limited sweep of kind 11. The paper's kind of a message is the one that `encode_message` frames it
-- with.
abbrev pub message_form : Message → ℕ
message_form (Order o) = 1
message_form (TwoLeg c) = 2
message_form (Cancel id) = 3
message_form (Away s bid offer) = 4
message_form (Status s x) = 5
message_form Sweep = 6
message_form (Increment s i e) = 7
message_form (Percent x e) = 8
message_form (LimitedSweep n) = 9

-- the fields of an order, without its shown quantity
unfoldable pub order_fields : Regular → List ℕ
order_fields o = u32 o.id ++ u8 o.series ++ u8 o.side ++ u32 o.price ++ u32 o.quantity

-- the fields of kind 2, which kind 10 begins with
unfoldable pub two_leg_fields : Complex → List ℕ
two_leg_fields c =
    u32 c.id ++ u8 c.series1 ++ u8 c.side1 ++ u8 c.series2 ++ u8 c.side2 ++ u8 c.class
    ++ i32 c.limit ++ u32 c.quantity

-- the bytes of a message; of an order that shows all of it those of kind 1, of a complex order one to one those of kind 2
unfoldable pub encode_message : Message → List ℕ
encode_message (Order o) = if eqb o.display o.quantity then framed 1 (order_fields o) else framed 9 (order_fields o ++ u32 o.display)
encode_message (TwoLeg c) =
    if one_to_one c
    then framed 2 (two_leg_fields c)
    else framed 10 (two_leg_fields c ++ u8 c.ratio1 ++ u8 c.ratio2)
encode_message (Cancel id) = framed 3 (u32 id)
encode_message (Away s bid offer) = framed 4 (u8 s ++ u32 bid ++ u32 offer)
encode_message (Status s x) = framed 5 (u8 s ++ u8 x)
encode_message Sweep = framed 6 []
encode_message (Increment s i e) = framed 7 (u8 s ++ u8 i ++ u32 e)
encode_message (Percent x e) = framed 8 (u8 x ++ u32 e)
encode_message (LimitedSweep n) = framed 11 (u8 n)

-- "the lengths by kind … be proved those of document 01 for every kind" (request (c)): each message has as many bytes as the length of
-- the kind that they tell
abbrev pub KindLengths : Type 0
KindLengths = (m : Message) → length (encode_message m) ≡ length_of (kind_field (encode_message m))
