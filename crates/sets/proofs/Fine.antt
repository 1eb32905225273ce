-- Each record of a set: its part and its mark, and that the venue has a place for it.
use mathlib.Core.Path.{◌≡◌, refl}
use mathlib.Core.Bool.{Bool, true, false}
use mathlib.Core.List.{List}
use Prim.Native.Nat.{ℕ, ◌≤◌}
use native.Mathlib.Omega.{arith}
use lib.Dec.{eqb}
use borrow.Author.Tests.{le-leb}
use Rattle.rules.specs.declared.Regular.{Regular}
use Rattle.rules.specs.declared.Complex.{Complex}
use Rattle.rules.specs.declared.Legging.{Legging}
use Rattle.rules.specs.declared.Listed.{Listed}
use Rattle.rules.specs.declared.Edition.{Edition}
use Rattle.rules.specs.declared.Message.TheVariants.{Away, Status}
use Rattle.rules.specs.Base.{held}
use Rattle.rules.specs.Words.{is_id, is_price, is_quantity, is_series, is_side, one_to_one, place_of, within}
use Rattle.rules.specs.Settings.{percentage}
use Rattle.rules.specs.Bytes.{kind_field, u32, framed}
use Rattle.rules.specs.Messages.{encode_message}
use Rattle.rules.specs.Records.{FourBytes}
use Rattle.rules.specs.Refusals.{complex_in_range, regular_in_range, two_leg_in_range}
use Rattle.rules.specs.Sound.{edition_in_range}
use Rattle.rules.proofs.Tests.{and_l, and_r}
use Rattle.wire.proofs.Encoding.{id-fits, price-fits, quantity-fits}
use Rattle.sets.specs.Set.{first_record, edition_record, regular_record, complex_record, legging_record, generation_record}
use Rattle.sets.specs.Set.{has_place, sort_key, part, tells_complex, tells_edition, tells_generation, tells_legging, tells_regular}
use Rattle.sets.proofs.Rows.{Well}
use Rattle.sets.proofs.Records.{Tells, away-well, complex-id, complex-kind, complex-quantity, complex-tells, complex-well, edition-tells, edition-well, first_kind, first-well}
use Rattle.sets.proofs.Records.{generation-kind, generation-series, generation-tells, generation-well, legging-tells, legging-well, reached-kind, reached-tells, reached-well}
use Rattle.sets.proofs.Records.{regular-id, regular-kind, regular-quantity, regular-well, status-well}

-- a record of a whole set, of part k and with mark m
pub record Fine (k m : ℕ) (r : List ℕ) : Type 0 where
  pub of : part r ≡ k
  pub marked : sort_key r ≡ m
  pub well : Well r
  pub place : has_place r ≡ true
  pub whole : eqb (kind_field r) 1 ≡ false

-- whatever its mark is
abbrev pub Good : (k : ℕ) (r : List ℕ) → Type 0
Good k r = Fine k (sort_key r) r

pub good : (k m : ℕ) (r : List ℕ) → Fine k m r → Good k r
good k m r f = record { of = f.of; marked = refl; well = f.well; place = f.place; whole = f.whole }

-- the first record, and those of a series
pub first_fine : (n last : ℕ) → Fine 0 0 (first_record n last)
unfolding part sort_key has_place tells_edition tells_regular tells_complex tells_legging tells_generation
first_fine n last = let k = first_kind n last in record { of = rw k; marked = rw k; well = first-well n last; place = rw k; whole = rw k }

pub status-fine : (s : ℕ) (x : Listed) → Tells s x → Fine 0 0 (encode_message (Status s x.status))
unfolding part sort_key has_place tells_edition tells_regular tells_complex tells_legging tells_generation
status-fine s x t = let k = t.status-kind in record { of = rw k; marked = rw k; well = status-well s x.status; place = rw k; whole = rw k }

pub away-fine : (s : ℕ) (x : Listed) → Tells s x → Fine 0 0 (encode_message (Away s x.bid x.offer))
unfolding part sort_key has_place tells_edition tells_regular tells_complex tells_legging tells_generation
away-fine s x t = let k = t.away-kind in record { of = rw k; marked = rw k; well = away-well s x.bid x.offer; place = rw k; whole = rw k }

pub edition-fine : (e : Edition) → edition_in_range e ≡ true → held e.edition ≡ true → Fine 1 e.edition (edition_record e)
unfolding part sort_key has_place tells_edition
edition-fine e h z = go (eqb e.figure percentage) refl
  where
    go : (b : Bool) → eqb e.figure percentage ≡ b → Fine 1 e.edition (edition_record e)
    go true q =
        let t = edition-tells e h in
        let k = rw q at t.kind in
        let m = rw q at t.sort-key in
        record { of = rw k; marked = rw (k, m); well = edition-well e; place = rw (k, m, z); whole = rw k }
    go false q =
        let t = edition-tells e h in
        let k = rw q at t.kind in
        let m = rw q at t.sort-key in
        let s = rw q at t.series in
        record { of = rw k; marked = rw (k, m); well = edition-well e; place = rw (k, m, s, z); whole = rw k }

pub regular-fine : (o : Regular) → regular_in_range o ≡ true → held o.quantity ≡ true → Fine 2 o.id (regular_record o)
unfolding part sort_key has_place tells_edition tells_regular tells_complex regular_in_range
regular-fine o h z =
    let k = regular-kind o in
    let i = regular-id o (id-fits o.id (search (and_l, and_r, h) depth 8)) in
    let q = regular-quantity o (quantity-fits o.quantity (search (and_l, and_r, h) depth 8)) in
    record { of = rw k; marked = rw (k, i); well = regular-well o; place = rw (k, q, z); whole = rw k }

pub complex-fine : (c : Complex) → complex_in_range c ≡ true → held c.quantity ≡ true → Fine 2 c.id (complex_record c)
unfolding part sort_key has_place tells_edition tells_regular tells_complex complex_in_range two_leg_in_range
complex-fine c h z = go (one_to_one c) refl
  where
    go : (b : Bool) → one_to_one c ≡ b → Fine 2 c.id (complex_record c)
    go true p =
        let k = rw p at (complex-kind c) in
        let i = complex-id c (id-fits c.id (search (and_l, and_r, h) depth 14)) in
        let q = complex-quantity c (quantity-fits c.quantity (search (and_l, and_r, h) depth 14)) in
        record { of = rw k; marked = rw (k, i); well = complex-well c; place = rw (k, q, z); whole = rw k }
    go false p =
        let k = rw p at (complex-kind c) in
        let i = complex-id c (id-fits c.id (search (and_l, and_r, h) depth 14)) in
        let q = complex-quantity c (quantity-fits c.quantity (search (and_l, and_r, h) depth 14)) in
        record { of = rw k; marked = rw (k, i); well = complex-well c; place = rw (k, q, z, complex-tells c h, p); whole = rw k }

pub legging-fine : (s d : ℕ) (l : Legging) → s ≤ 7 → d ≤ 1 → is_id l.parent ≡ true → is_price l.price ≡ true → is_quantity l.quantity ≡ true → held l.quantity ≡ true →
    Fine 3 (place_of s d) (legging_record s d l)
unfolding part sort_key has_place tells_edition tells_regular tells_complex tells_legging is_series is_side within
legging-fine s d l a b x y q z =
    let t = legging-tells s d l (omega arith) (omega arith) (id-fits l.parent x) (price-fits l.price y) (quantity-fits l.quantity q) in
    let k = t.kind in
    record {
      of = rw k;
      marked = rw (k, t.series, t.side);
      well = legging-well s d l;
      place = rw (k, t.series, t.side, t.quantity, z, le-leb 0 s (omega arith), le-leb s 7 a, le-leb 0 d (omega arith), le-leb d 1 b);
      whole = rw k;
    }

pub generation-fine : (s n : ℕ) → s ≤ 7 → FourBytes n → held n ≡ true → Fine 4 s (generation_record s n)
unfolding part sort_key has_place tells_edition tells_regular tells_complex tells_legging tells_generation is_series within
generation-fine s n a f z =
    let k = generation-kind s n in
    let i = generation-series s n (omega arith) in
    record {
      of = rw k;
      marked = rw (k, i);
      well = generation-well s n;
      place = rw (k, i, generation-tells s n f, z, le-leb 0 s (omega arith), le-leb s 7 a);
      whole = rw k;
    }

pub reached-fine : (id : ℕ) → FourBytes id → held id ≡ true → Fine 5 0 (framed 84 (u32 id))
unfolding part sort_key has_place tells_edition tells_regular tells_complex tells_legging tells_generation
reached-fine id f z =
    let k = reached-kind id in
    record { of = rw k; marked = rw k; well = reached-well id; place = rw (k, reached-tells id f, z); whole = rw k }
