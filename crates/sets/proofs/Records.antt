-- The records of a set: each is of a kind and length of the set, and tells what it was made of.
use Rattle.std.specs.Prelude.{if◌then◌else◌}
use mathlib.Core.Path.{◌≡◌, refl, sym}
use mathlib.Core.Bool.{Bool, true, false, ◌&&◌}
use mathlib.Core.List.{[], ◌++◌}
use Prim.Native.Nat.{ℕ, ◌≤◌, ◌<◌}
use native.Mathlib.Omega.{arith}
use lib.Dec.{eqb, leb}
use borrow.Author.Tests.{eqb-true, eqb-false, le-leb, leb-true}
use Rattle.rules.specs.declared.Regular.{Regular}
use Rattle.rules.specs.declared.Complex.{Complex}
use Rattle.rules.specs.declared.Legging.{Legging}
use Rattle.rules.specs.declared.Listed.{Listed}
use Rattle.rules.specs.declared.Edition.{Edition}
use Rattle.rules.specs.declared.Message.TheVariants.{Away, Status}
use Rattle.rules.specs.Words.{is_series, one_to_one, within}
use Rattle.rules.specs.Settings.{is_increment, is_percent, percentage}
use Rattle.rules.specs.Bytes.{u8_at, u16_at, u32_at, length_field, kind_field, bytes, u8, u32, framed}
use Rattle.rules.specs.Messages.{order_fields, two_leg_fields, encode_message}
use Rattle.rules.specs.Records.{OneByte, FourBytes}
use Rattle.rules.specs.Refusals.{complex_in_range, regular_in_range}
use Rattle.rules.specs.Sound.{edition_in_range, figure_in_range, listed_in_range, shows_fully}
use Rattle.rules.proofs.Reading.{byte, word}
use Rattle.rules.proofs.Tests.{and_in, and_l, and_r}
use Rattle.wire.proofs.Encoding.{away-fits, display-fits, edition-fits, first_fits, increment-fits, order-back, percent-fits, second_fits, status-fits, two-leg-back}
use Rattle.sets.specs.Set.{first_record, edition_record, regular_record, complex_record, legging_record, generation_record, set_length}
use Rattle.sets.specs.Set.{regular_told, complex_told, edition_told}
use Rattle.sets.proofs.Rows.{Well}

-- Kinds and lengths ---------------------------------------------------------------------------

pub first-well : (n last : ℕ) → Well (first_record n last)
unfolding first_record framed bytes length_field kind_field u16_at u8_at set_length
first-well n last = record { four = omega arith; told = refl; known = refl }

pub status-well : (s x : ℕ) → Well (encode_message (Status s x))
unfolding encode_message framed bytes length_field kind_field u16_at u8_at set_length
status-well s x = record { four = omega arith; told = refl; known = refl }

pub away-well : (s bid offer : ℕ) → Well (encode_message (Away s bid offer))
unfolding encode_message framed bytes length_field kind_field u16_at u8_at set_length
away-well s bid offer = record { four = omega arith; told = refl; known = refl }

pub edition-well : (e : Edition) → Well (edition_record e)
unfolding edition_record framed bytes length_field kind_field u16_at u8_at set_length
edition-well e = go (eqb e.figure percentage)
  where
    go : (b : Bool) → Well (if b then framed 8 (u8 e.value ++ u32 e.edition ++ u32 e.message) else framed 7 (u8 e.figure ++ u8 e.value ++ u32 e.edition ++ u32 e.message))
    go true = record { four = omega arith; told = refl; known = refl }
    go false = record { four = omega arith; told = refl; known = refl }

pub regular-well : (o : Regular) → Well (regular_record o)
unfolding regular_record order_fields framed bytes length_field kind_field u16_at u8_at set_length
regular-well o = record { four = omega arith; told = refl; known = refl }

pub complex-well : (c : Complex) → Well (complex_record c)
unfolding complex_record encode_message two_leg_fields framed bytes length_field kind_field u16_at u8_at set_length
complex-well c = go (one_to_one c)
  where
    go : (b : Bool) → Well (if b then framed 2 (two_leg_fields c) else framed 10 (two_leg_fields c ++ u8 c.ratio1 ++ u8 c.ratio2))
    go true = record { four = omega arith; told = refl; known = refl }
    go false = record { four = omega arith; told = refl; known = refl }

pub legging-well : (s d : ℕ) (l : Legging) → Well (legging_record s d l)
unfolding legging_record framed bytes length_field kind_field u16_at u8_at set_length
legging-well s d l = record { four = omega arith; told = refl; known = refl }

pub generation-well : (s n : ℕ) → Well (generation_record s n)
unfolding generation_record framed bytes length_field kind_field u16_at u8_at set_length
generation-well s n = record { four = omega arith; told = refl; known = refl }

pub reached-well : (id : ℕ) → Well (framed 84 (u32 id))
unfolding framed bytes length_field kind_field u16_at u8_at set_length
reached-well id = record { four = omega arith; told = refl; known = refl }

-- What they tell ------------------------------------------------------------------------------

pub first_kind : (n last : ℕ) → kind_field (first_record n last) ≡ 80
unfolding first_record framed bytes kind_field u16_at u8_at
first_kind n last = refl

pub first-tells : (n last : ℕ) → FourBytes n → FourBytes last → (u32_at (first_record n last) 4 ≡ n) × (u32_at (first_record n last) 8 ≡ last)
unfolding first_record framed bytes u32_at u16_at u8_at
first-tells n last h k = (word n h, word last k)

-- a series' two records
pub record Tells (s : ℕ) (x : Listed) : Type 0 where
  pub status-kind : kind_field (encode_message (Status s x.status)) ≡ 5
  pub status-series : u8_at (encode_message (Status s x.status)) 4 ≡ s
  pub status-tells : u8_at (encode_message (Status s x.status)) 5 ≡ x.status
  pub away-kind : kind_field (encode_message (Away s x.bid x.offer)) ≡ 4
  pub away-series : u8_at (encode_message (Away s x.bid x.offer)) 4 ≡ s
  pub bid-tells : u32_at (encode_message (Away s x.bid x.offer)) 5 ≡ x.bid
  pub offer-tells : u32_at (encode_message (Away s x.bid x.offer)) 9 ≡ x.offer

pub listed-tells : (s : ℕ) (x : Listed) → OneByte s → listed_in_range x ≡ true → Tells s x
unfolding listed_in_range encode_message framed bytes kind_field u32_at u16_at u8_at
listed-tells s x h z =
    let a = status-fits x.status (search (and_l, and_r, z) depth 4) in
    let b = away-fits x.bid (search (and_l, and_r, z) depth 4) in
    let c = away-fits x.offer (search (and_l, and_r, z) depth 4) in
    record {
      status-kind = refl;
      status-series = byte s h;
      status-tells = byte x.status a;
      away-kind = refl;
      away-series = byte s h;
      bid-tells = word x.bid b;
      offer-tells = word x.offer c;
    }

pub regular-kind : (o : Regular) → kind_field (regular_record o) ≡ 9
unfolding regular_record order_fields framed bytes kind_field u16_at u8_at
regular-kind o = refl

pub regular-id : (o : Regular) → FourBytes o.id → u32_at (regular_record o) 4 ≡ o.id
unfolding regular_record order_fields framed bytes u32_at u16_at u8_at
regular-id o h = word o.id h

pub regular-quantity : (o : Regular) → FourBytes o.quantity → u32_at (regular_record o) 14 ≡ o.quantity
unfolding regular_record order_fields framed bytes u32_at u16_at u8_at
regular-quantity o h = word o.quantity h

pub regular-tells : (o : Regular) → regular_in_range o ≡ true → shows_fully o ≡ true → regular_told (regular_record o) ≡ o
unfolding regular_told regular_record framed bytes kind_field u32_at u16_at u8_at order_fields
regular-tells o h f = order-back o h f _ _ _ _ (u32 o.display) _ (word o.display (display-fits o h))

pub complex-kind : (c : Complex) → kind_field (complex_record c) ≡ (if one_to_one c then 2 else 10)
unfolding complex_record encode_message two_leg_fields framed bytes kind_field u16_at u8_at
complex-kind c = go (one_to_one c)
  where
    go : (t : Bool) → ◌≡◌ {A = ℕ} (kind_field (if t then framed 2 (two_leg_fields c) else framed 10 (two_leg_fields c ++ u8 c.ratio1 ++ u8 c.ratio2))) (if t then 2 else 10)
    go true = refl
    go false = refl

pub complex-id : (c : Complex) → FourBytes c.id → u32_at (complex_record c) 4 ≡ c.id
unfolding complex_record encode_message two_leg_fields framed bytes u32_at u16_at u8_at
complex-id c h = go (one_to_one c)
  where
    go : (t : Bool) → u32_at (if t then framed 2 (two_leg_fields c) else framed 10 (two_leg_fields c ++ u8 c.ratio1 ++ u8 c.ratio2)) 4 ≡ c.id
    go true = word c.id h
    go false = word c.id h

pub complex-quantity : (c : Complex) → FourBytes c.quantity → u32_at (complex_record c) 17 ≡ c.quantity
unfolding complex_record encode_message two_leg_fields framed bytes u32_at u16_at u8_at
complex-quantity c h = go (one_to_one c)
  where
    go : (t : Bool) → u32_at (if t then framed 2 (two_leg_fields c) else framed 10 (two_leg_fields c ++ u8 c.ratio1 ++ u8 c.ratio2)) 17 ≡ c.quantity
    go true = word c.quantity h
    go false = word c.quantity h

pub complex-tells : (c : Complex) → complex_in_range c ≡ true → complex_told (complex_record c) ≡ c
unfolding complex_told complex_record encode_message two_leg_fields framed bytes kind_field u32_at u16_at u8_at one_to_one
complex-tells c h = go (one_to_one c) refl
  where
    go : (t : Bool) → one_to_one c ≡ t → complex_told (if t then framed 2 (two_leg_fields c) else framed 10 (two_leg_fields c ++ u8 c.ratio1 ++ u8 c.ratio2)) ≡ c
    go true e =
        let one = eqb-true c.ratio1 1 (and_l _ (eqb c.ratio2 1) e) in
        let two = eqb-true c.ratio2 1 (and_r (eqb c.ratio1 1) _ e) in
        two-leg-back c h _ _ _ _ [] 1 1 (sym one) (sym two)
    go false e = two-leg-back c h _ _ _ _ (u8 c.ratio1 ++ u8 c.ratio2) _ _ (byte c.ratio1 (first_fits c h)) (byte c.ratio2 (second_fits c h))

-- an edition's figure and value
figure-fits : (e : Edition) → figure_in_range e ≡ true → (e.figure ≤ 8) × (OneByte e.value)
unfolding figure_in_range
figure-fits e h = go (leb e.figure 7) refl h
  where
    go : (t : Bool) → leb e.figure 7 ≡ t → (if t then is_increment e.value else eqb e.figure percentage && is_percent e.value) ≡ true → (e.figure ≤ 8) × (OneByte e.value)
    go true f z = (let x = leb-true e.figure 7 f in omega arith, increment-fits e.value z)
    go false f z = (let x = eqb-true e.figure percentage (and_l _ (is_percent e.value) z) in omega arith, percent-fits e.value (and_r (eqb e.figure percentage) _ z))

pub record EditionTells (e : Edition) : Type 0 where
  pub kind : kind_field (edition_record e) ≡ (if eqb e.figure percentage then 8 else 7)
  pub tells : edition_told (edition_record e) ≡ e
  pub sort-key : u32_at (edition_record e) (if eqb e.figure percentage then 5 else 6) ≡ e.edition
  pub series : (if eqb e.figure percentage then true else is_series (u8_at (edition_record e) 4)) ≡ true

pub edition-tells : (e : Edition) → edition_in_range e ≡ true → EditionTells e
unfolding edition_in_range edition_told edition_record framed bytes kind_field u32_at u16_at u8_at is_series within
edition-tells e z =
    let f = figure-fits e (search (and_l, and_r, z) depth 4) in
    go f.0 f.1 (edition-fits e.edition (search (and_l, and_r, z) depth 4))
    (let x = leb-true e.message 4294967295 (search (and_l, and_r, z) depth 4) in omega arith) (eqb e.figure percentage) refl
  where
    go : e.figure ≤ 8 → OneByte e.value → FourBytes e.edition → FourBytes e.message → (t : Bool) → eqb e.figure percentage ≡ t → EditionTells e
    go a b c d true q =
        let k = eqb-true e.figure percentage q in
        record { kind = rw q; tells = rw (q, edition_told, byte e.value b, word e.edition c, word e.message d, ← k); sort-key = rw (q, word e.edition c); series = rw q }
    go a b c d false q =
        let n = eqb-false e.figure percentage q in
        let l : e.figure < 8 = omega arith in
        record {
          kind = rw q;
          tells = rw (q, edition_told, byte e.figure (omega arith), byte e.value b, word e.edition c, word e.message d);
          sort-key = rw (q, word e.edition c);
          series = rw (q, byte e.figure (omega arith)) (and_in (leb 0 e.figure) (leb e.figure 7) (le-leb 0 e.figure (omega arith)) (le-leb e.figure 7 (omega arith)));
        }

pub record LeggingTells (s d : ℕ) (l : Legging) : Type 0 where
  pub kind : kind_field (legging_record s d l) ≡ 82
  pub series : u8_at (legging_record s d l) 8 ≡ s
  pub side : u8_at (legging_record s d l) 9 ≡ d
  pub parent : u32_at (legging_record s d l) 4 ≡ l.parent
  pub price : u32_at (legging_record s d l) 10 ≡ l.price
  pub quantity : u32_at (legging_record s d l) 14 ≡ l.quantity

pub legging-tells : (s d : ℕ) (l : Legging) → OneByte s → OneByte d → FourBytes l.parent → FourBytes l.price → FourBytes l.quantity → LeggingTells s d l
unfolding legging_record framed bytes kind_field u32_at u16_at u8_at
legging-tells s d l a b x y z = record { kind = refl; series = byte s a; side = byte d b; parent = word l.parent x; price = word l.price y; quantity = word l.quantity z }

pub generation-kind : (s n : ℕ) → kind_field (generation_record s n) ≡ 83
unfolding generation_record framed bytes kind_field u16_at u8_at
generation-kind s n = refl

pub generation-series : (s n : ℕ) → OneByte s → u8_at (generation_record s n) 4 ≡ s
unfolding generation_record framed bytes u8_at
generation-series s n h = byte s h

pub generation-tells : (s n : ℕ) → FourBytes n → u32_at (generation_record s n) 5 ≡ n
unfolding generation_record framed bytes u32_at u16_at u8_at
generation-tells s n h = word n h

pub reached-kind : (id : ℕ) → kind_field (framed 84 (u32 id)) ≡ 84
unfolding framed bytes kind_field u16_at u8_at
reached-kind id = refl

pub reached-tells : (id : ℕ) → FourBytes id → u32_at (framed 84 (u32 id)) 4 ≡ id
unfolding framed bytes u32_at u16_at u8_at
reached-tells id h = word id h
