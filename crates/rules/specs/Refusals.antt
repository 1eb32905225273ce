-- Document 01, "Refusals", 1 to 8: "Checked in number order"; and document 02's, (d) 11 to 13: "checked after 4, in this order", (g) 14:
-- "checked after 4 and 11 to 13". Where 01 names kind 1, kind 9 is meant too, and where it names kind 2, kind 10.
use Rattle.std.specs.Prelude.{Bool, true, false, not, ◌&&◌, ◌||◌, List, ℕ, ◌%◌, leb, ltb, eqb, length, if◌then◌else◌, Result, Ok, Err}
use Rattle.rules.specs.declared.Regular.{Regular}
use Rattle.rules.specs.declared.Complex.{Complex}
use Rattle.rules.specs.declared.Venue.{Venue}
use Rattle.rules.specs.declared.Message.{Message}
use Rattle.rules.specs.declared.Message.TheVariants.{Order, TwoLeg, Cancel, Away, Status, Sweep, Increment, Percent, LimitedSweep}
use Rattle.rules.specs.declared.Refusal.{Refusal}
use Rattle.rules.specs.declared.Refusal.TheVariants.{Torn, NoKind, WrongLength, OutOfRange, IdTooLow, OnClosed, Full, Unknown}
use Rattle.rules.specs.declared.Refusal.TheVariants.{EditionTooLow, InUse, NoEditionLeft, EqualRatios}
use Rattle.rules.specs.Base.{held, all}
use Rattle.rules.specs.Words.{closed, status_of, one_to_one, within, is_id, is_series, is_side, is_class, is_status, is_quantity, is_away}
use Rattle.rules.specs.Words.{is_price, is_limit, is_ratio}
use Rattle.rules.specs.Settings.{is_increment, is_percent, is_edition, increment, free_edition}
use Rattle.rules.specs.Bytes.{u8_at, length_field, kind_field}
use Rattle.rules.specs.Messages.{length_of, message_of}
use Rattle.rules.specs.Trading.{free_regular, free_complex}
use Rattle.rules.specs.Complex.{any_closed, rests_regular, rests_complex}

-- The papers' number of a refusal; each refusal has the name of the definition below that tells which messages meet it.
abbrev pub refusal_number : Refusal → ℕ
-- 1: "1 to 3 bytes left …, or length below 4 or above what is left"
refusal_number Torn = 1
-- 2: "kind not 1 to 6"
refusal_number NoKind = 2
-- 3: "length not its kind's"
refusal_number WrongLength = 3
-- 4: "field outside its range, both legs in one series", "price off the increment"
refusal_number OutOfRange = 4
-- 5: "id not above the last accepted (kinds 1, 2)"
refusal_number IdTooLow = 5
-- 6: "a series of the order is closed"
refusal_number OnClosed = 6
-- 7: "128 regular (kind 1) or 32 complex (kind 2) rest already"
refusal_number Full = 7
-- 8: "no resting order has the id (kind 3)"
refusal_number Unknown = 8
-- 11: "edition not above the last of either kind"
refusal_number EditionTooLow = 11
-- 12: "kind 7 for a series that isn't closed or has a resting order or leg"
refusal_number InUse = 12
-- 13: "32 editions held already"
refusal_number NoEditionLeft = 13
-- 14: "equal ratio bytes"
refusal_number EqualRatios = 14

-- the number that a test of a message tells: 0 where it finds no refusal, else the number of the refusal that it finds
abbrev pub refused_number : Result (Unit {0}) Refusal → ℕ
refused_number (Ok t) = 0
refused_number (Err r) = refusal_number r

-- 1 to 4, and 14: of the bytes alone ----------------------------------------------------------

-- 1: "1 to 3 bytes left (in a one-message call also none), or length below 4 or above what is left"
unfoldable pub torn : List ℕ → Bool
torn bs = ltb (length bs) 4 || ltb (length_field bs) 4 || ltb (length bs) (length_field bs)

-- 2: "kind not 1 to 6"; "Refusal 2 no longer meets the message kinds that this and later requests add": (d) 7 and 8, (e) 9, (g) 10, (m) 11
unfoldable pub is_kind : ℕ → Bool
is_kind = within 1 11

-- 3: "length not its kind's"
unfoldable pub is_length : (kind length : ℕ) → Bool
is_length k n = eqb n (length_of k)

-- 4: "field outside its range, both legs in one series"; "price off the increment" is asked of the venue, below. (e): a shown quantity
-- "from 1 to the quantity"
unfoldable pub regular_in_range : Regular → Bool
regular_in_range o =
    is_id o.id && is_series o.series && is_side o.side && is_price o.price && is_quantity o.quantity
    && within 1 o.quantity o.display

-- of a complex order whose limit goes as far as `far`
unfoldable pub two_leg_in_range : (far : ℕ) → Complex → Bool
two_leg_in_range far c =
    is_id c.id && is_series c.series1 && is_side c.side1 && is_series c.series2 && is_side c.side2
    && not (eqb c.series1 c.series2) && is_class c.class && is_limit far c.limit && is_quantity c.quantity
    && is_ratio c.ratio1 && is_ratio c.ratio2

-- "N, from -200,000 to 200,000"; of kind 10 "N runs from -600,000 to 600,000"
unfoldable pub far_of : (kind : ℕ) → ℕ
far_of k = if eqb k 10 then 600000 else 200000

unfoldable pub in_range : (kind : ℕ) → Message → Bool
in_range k (Order o) = regular_in_range o
in_range k (TwoLeg c) = two_leg_in_range (far_of k) c
in_range k (Cancel id) = is_id id
in_range k (Away s bid offer) = is_series s && is_away bid && is_away offer
in_range k (Status s x) = is_series s && is_status x
in_range k Sweep = true
in_range k (Increment s i e) = is_series s && is_increment i && is_edition e
in_range k (Percent x e) = is_percent x && is_edition e
-- "n resting orders (u8, 1 to 32)"
in_range k (LimitedSweep n) = within 1 32 n

-- 14: "equal ratio bytes; checked after 4 and 11 to 13", of kind 10, which meets none of 11 to 13
unfoldable pub equal_ratios : List ℕ → Bool
equal_ratios bs = eqb (kind_field bs) 10 && eqb (u8_at bs 21) (u8_at bs 22)

-- The refusal's number that a decoding tells; 0 for a message. `number` is `refusal_number` of what `decoded` tells.
abbrev pub decoded_number : {E : Type 0} → (number : E → ℕ) → Result Message E → ℕ
decoded_number number (Ok m) = 0
decoded_number number (Err r) = number r

-- The message at the front of bs, or the first of 1 to 4 and 14 that its bytes meet. 14 is decided here, before 11 to 13, and nothing can
-- tell: 14 is of kind 10 alone, and kind 10 meets none of 11 to 13.
unfoldable pub decoded : List ℕ → Result Message Refusal
decoded bs =
    if torn bs then Err Torn
    else if not (is_kind (kind_field bs)) then Err NoKind
    else if not (is_length (kind_field bs) (length_field bs)) then Err WrongLength
    else if not (in_range (kind_field bs) (message_of bs)) then Err OutOfRange
    else if equal_ratios bs then Err EqualRatios
    else Ok (message_of bs)

-- A complex order that may rest: of kind 2, one to one, or of kind 10, with ratios that differ.
unfoldable pub complex_in_range : Complex → Bool
complex_in_range c =
    two_leg_in_range (if one_to_one c then 200000 else 600000) c
    && (one_to_one c || not (eqb c.ratio1 c.ratio2))

-- 4, 11 to 13, and 5 to 8: of the venue ---------------------------------------------------------

-- "a regular price a multiple of its series' increment", the one in force
unfoldable pub on_increment : Venue → Regular → Bool
on_increment v o = eqb (o.price % increment v o.series) 0

-- Each of these refusals is asked of messages of some kinds; a message of another kind does not meet it. So each says below what it asks
-- of the kinds that can meet it, and the next three say `false` of the others.

-- asked of orders: f of one of kind 1 or 9, g of one of kind 2 or 10
abbrev pub of_orders : (f : Regular → Bool) → (g : Complex → Bool) → Message → Bool
of_orders f g (Order o) = f o
of_orders f g (TwoLeg c) = g c
of_orders f g (Cancel id) = false
of_orders f g (Away s bid offer) = false
of_orders f g (Status s x) = false
of_orders f g Sweep = false
of_orders f g (Increment s i e) = false
of_orders f g (Percent x e) = false
of_orders f g (LimitedSweep n) = false

-- asked of a cancel: f of its id
abbrev pub of_cancel : (f : (id : ℕ) → Bool) → Message → Bool
of_cancel f (Order o) = false
of_cancel f (TwoLeg c) = false
of_cancel f (Cancel id) = f id
of_cancel f (Away s bid offer) = false
of_cancel f (Status s x) = false
of_cancel f Sweep = false
of_cancel f (Increment s i e) = false
of_cancel f (Percent x e) = false
of_cancel f (LimitedSweep n) = false

-- asked of new settings: f of a kind 7's series and edition, g of a kind 8's edition
abbrev pub of_settings : (f : (series edition : ℕ) → Bool) → (g : (edition : ℕ) → Bool) → Message → Bool
of_settings f g (Order o) = false
of_settings f g (TwoLeg c) = false
of_settings f g (Cancel id) = false
of_settings f g (Away s bid offer) = false
of_settings f g (Status s x) = false
of_settings f g Sweep = false
of_settings f g (Increment s i e) = f s e
of_settings f g (Percent x e) = g e
of_settings f g (LimitedSweep n) = false

-- 4: "price off the increment"
unfoldable pub off_increment : Venue → Message → Bool
off_increment v m = of_orders (λ o. not (on_increment v o)) (λ c. false) m

-- an edition is not above each that is kept; a free place has edition 0
abbrev pub not_above : Venue → (edition : ℕ) → Bool
not_above v e = not (all (λ k. ltb k.edition e) v.editions)

-- 11: "edition not above the last of either kind, at first 0"
unfoldable pub edition_too_low : Venue → Message → Bool
edition_too_low v m = of_settings (λ s e. not_above v e) (λ e. not_above v e) m

-- a series is closed, and no order or leg rests in it
unfoldable pub idle : Venue → (series : ℕ) → Bool
idle v s =
    eqb (status_of v s) closed
    && all (λ o. not (held o.quantity && eqb o.series s)) v.regular
    && all (λ c. not (held c.quantity && (eqb c.series1 s || eqb c.series2 s))) v.complex

-- 12: "kind 7 for a series that isn't closed or has a resting order or leg"
unfoldable pub in_use : Venue → Message → Bool
in_use v m = of_settings (λ s e. not (idle v s)) (λ e. false) m

-- 13: "32 editions held already": no place is free
unfoldable pub no_edition_left : Venue → Message → Bool
no_edition_left v m = of_settings (λ s e. leb 32 (free_edition v)) (λ e. leb 32 (free_edition v)) m

-- 5: "id not above the last accepted (kinds 1, 2)"; ids come "each above the last accepted"
unfoldable pub id_too_low : Venue → Message → Bool
id_too_low v m = of_orders (λ o. leb o.id v.last) (λ c. leb c.id v.last) m

-- 6: "a series of the order is closed"
unfoldable pub on_closed : Venue → Message → Bool
on_closed v m = of_orders (λ o. eqb (status_of v o.series) closed) (λ c. any_closed v c) m

-- 7: "128 regular (kind 1) or 32 complex (kind 2) rest already, even if the order would trade": no place is free. Orders of kind 10
-- "share the 32 places"
unfoldable pub full : Venue → Message → Bool
full v m = of_orders (λ o. leb 128 (free_regular v)) (λ c. leb 32 (free_complex v)) m

-- 8: "no resting order has the id (kind 3)"
unfoldable pub unknown : Venue → Message → Bool
unknown v m = of_cancel (λ id. not (rests_regular v id || rests_complex v id)) m

-- the first of these that a message meets upon v; 0 where it meets none and is accepted
unfoldable pub refusal_of : Venue → Message → ℕ
refusal_of v m =
    if off_increment v m then 4
    else if edition_too_low v m then 11
    else if in_use v m then 12
    else if no_edition_left v m then 13
    else if id_too_low v m then 5
    else if on_closed v m then 6
    else if full v m then 7
    else if unknown v m then 8
    else 0

-- the refusal of the message at the front of bs upon v; 0 where it is accepted
unfoldable pub refusal : Venue → List ℕ → ℕ
refusal v bs = elim (decoded bs) [ Ok m ↦ refusal_of v m | Err r ↦ refusal_number r ]
