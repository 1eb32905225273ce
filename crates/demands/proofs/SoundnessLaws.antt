-- Soundness as tests, and place by place: each gives the other.
use Rattle.std.specs.Prelude.{if◌then◌else◌}
use mathlib.Core.Path.{◌∙◌, ◌≡◌, ap, refl, subst, sym}
use mathlib.Core.Bool.{Bool, ◌&&◌, ◌||◌, false, false≢true, not, true, true≢false}
use mathlib.Core.List.{List, [], ◌∷◌}
use Prim.Native.Nat.{◌%◌, ◌+◌, ◌/◌, ◌<◌, suc, zero, ℕ}
use native.Mathlib.Nat.{add-suc, add-zero, suc-add, zero-add}
use native.Mathlib.Omega.{arith}
use lib.Dec.{eqb, leb}
use lib.IntN.{nat_abs}
use lib.ListN.{get_or}
use borrow.Author.Tests.{eqb-false, eqb-true, le-leb, leb-true, not-true}
use Rattle.rules.specs.declared.Complex.{Complex}
use Rattle.rules.specs.declared.Legging.{Legging}
use Rattle.rules.specs.declared.Regular.{Regular}
use Rattle.rules.specs.declared.Venue.{Venue}
use Rattle.rules.specs.declared.Verdict.TheVariants.{Stands}
use Rattle.rules.specs.Base.{all, held}
use Rattle.rules.specs.Words.{is_away, is_id, is_price, is_quantity, is_status, no_complex, no_edition, no_legging, no_regular, not_listed, one_to_one, within}
use Rattle.rules.specs.Standing.{find_complex, has_leg, parent_of, stands, verdict}
use Rattle.rules.specs.Complex.{rests_complex}
use Rattle.rules.specs.Places.{blank_complex, blank_edition, blank_legging, blank_regular, holds_complex, holds_edition, holds_regular}
use Rattle.rules.specs.Refusals.{complex_in_range, on_increment, regular_in_range, two_leg_in_range}
use Rattle.rules.specs.Sound.{apart, complexes_sound, edition_in_range, editions_sound, generations_sound, ids_distinct, legging_sound, leggings_sound, listed_in_range, regulars_sound, shows_fully, sound}
use Rattle.demands.specs.Soundness.{Shaped, SoundVenue}
use Rattle.rules.proofs.Arranging.{Arranged, all-at, all_in, arranged-in, arranged-out, blank-free, blank-free_c, blank-is}
use Rattle.rules.proofs.Dating.{edition-free}
use Rattle.rules.proofs.Editions.{Dated}
use Rattle.rules.proofs.Filling.{cx, lg, reg}
use Rattle.rules.proofs.Finding.{LegOf, find_at, leg-in, leg-out, rests-in, rests-out}
use Rattle.rules.proofs.Generating.{AllStand, is-stands}
use Rattle.rules.proofs.Integers.{abs_is}
use Rattle.rules.proofs.Settling.{free-stands}
use Rattle.rules.proofs.Showing.{Showing, showing-shown}
use Rattle.rules.proofs.Tests.{and_in, and_l, and_r, held-pos, pos-held}
use Rattle.rules.proofs.Widths.{CxFits, LgFits, Ranged, RegFits, complex-fits, order-fits}
use Rattle.demands.proofs.Homes.{Home, InRange, Invariant, parent-found}
use Rattle.demands.proofs.Uncrossed.{apart_in, apart_out}

-- Blank places --------------------------------------------------------------------------------

blank-fits : (o : Regular) → blank_regular o ≡ true → RegFits o
blank-fits o z = record {
  id = (let x = eqb-true o.id 0 (unfold blank_regular in (search (and_l, and_r, z) depth 8)) in omega arith);
  series = (let x = eqb-true o.series 0 (unfold blank_regular in (search (and_l, and_r, z) depth 8)) in omega arith);
  side = (let x = eqb-true o.side 0 (unfold blank_regular in (search (and_l, and_r, z) depth 8)) in omega arith);
  price = (let x = eqb-true o.price 0 (unfold blank_regular in (search (and_l, and_r, z) depth 8)) in omega arith);
  quantity = (let x = eqb-true o.quantity 0 (unfold blank_regular in (search (and_l, and_r, z) depth 8)) in omega arith);
  ok = λ h. absurd (true≢false (sym h ∙ blank-free o z));
}

blank-fully : (o : Regular) → blank_regular o ≡ true → shows_fully o ≡ true
unfolding shows_fully
blank-fully o z = rw (blank-is o z)

blank-fits_c : (c : Complex) → blank_complex c ≡ true → CxFits c
blank-fits_c c z =
    let n = eqb-true (nat_abs c.limit) 0 (unfold blank_complex in (search (and_l, and_r, z) depth 12)) in
    let a = abs_is c.limit in
    record {
      id = (let x = eqb-true c.id 0 (unfold blank_complex in (search (and_l, and_r, z) depth 12)) in omega arith);
      series1 = (let x = eqb-true c.series1 0 (unfold blank_complex in (search (and_l, and_r, z) depth 12)) in omega arith);
      side1 = (let x = eqb-true c.side1 0 (unfold blank_complex in (search (and_l, and_r, z) depth 12)) in omega arith);
      series2 = (let x = eqb-true c.series2 0 (unfold blank_complex in (search (and_l, and_r, z) depth 12)) in omega arith);
      side2 = (let x = eqb-true c.side2 0 (unfold blank_complex in (search (and_l, and_r, z) depth 12)) in omega arith);
      high = omega arith;
      low = omega arith;
      quantity = (let x = eqb-true c.quantity 0 (unfold blank_complex in (search (and_l, and_r, z) depth 12)) in omega arith);
      ratio1 = (let x = eqb-true c.ratio1 0 (unfold blank_complex in (search (and_l, and_r, z) depth 12)) in omega arith);
      ratio2 = (let x = eqb-true c.ratio2 0 (unfold blank_complex in (search (and_l, and_r, z) depth 12)) in omega arith);
      ok = λ h. absurd (true≢false (sym h ∙ blank-free_c c z));
    }

blank-fits_l : (l : Legging) → blank_legging l ≡ true → LgFits l
blank-fits_l l z =
    let q : eqb l.quantity 0 ≡ true = unfold blank_legging in (search (and_l, and_r, z)) in
    record {
      parent = (let x = eqb-true l.parent 0 (unfold blank_legging in (search (and_l, and_r, z))) in omega arith);
      price = (let x = eqb-true l.price 0 (unfold blank_legging in (search (and_l, and_r, z))) in omega arith);
      quantity = (let x = eqb-true l.quantity 0 q in omega arith);
      ok = λ h. absurd (false≢true (rw q at h));
      zero = λ _. z;
    }

-- From the tests ------------------------------------------------------------------------------

-- the tests, by name
record Asked (v : Venue) : Type 0 where
  regulars : regulars_sound v ≡ true
  complexes : complexes_sound v ≡ true
  listed : all listed_in_range v.series ≡ true
  editions : editions_sound v ≡ true
  generations : generations_sound v ≡ true
  reached : leb v.reached v.last ≡ true
  last : leb v.last 4294967295 ≡ true
  ids : ids_distinct v ≡ true
  apart : all (apart v) (0 ∷ 1 ∷ 2 ∷ 3 ∷ 4 ∷ 5 ∷ 6 ∷ 7 ∷ []) ≡ true
  leggings : leggings_sound v 0 v.legging ≡ true

asked : (v : Venue) → sound v ≡ true → Asked v
unfolding sound
asked v z = search (and_l, and_r, z) depth 12

blank_none : blank_regular no_regular ≡ true
unfolding blank_regular
blank_none = refl

blank-none_c : blank_complex no_complex ≡ true
unfolding blank_complex
blank-none_c = refl

listed-none : listed_in_range not_listed ≡ true
unfolding listed_in_range is_status is_away within
listed-none = refl

-- each edition kept sets a figure in range
dated-out : (v : Venue) → editions_sound v ≡ true → Dated v
unfolding editions_sound edition_in_range
dated-out v h i t =
    let a = arranged-out no_edition holds_edition edition_in_range blank_edition (λ e. e.edition) edition-free (unfold blank_edition in refl) 0 v.editions (and_l _ _ h) in
    and_l _ _ (and_l _ _ (a.asks i t))

-- a complex order in range
pub range-of : (c : Complex) → complex_in_range c ≡ true → InRange c
unfolding complex_in_range two_leg_in_range
range-of c z =
    let f = complex-fits c z in
    let g : not (eqb c.series1 c.series2) ≡ true = search (and_l, and_r, z) depth 14 in
    record { side1 = f.side1; side2 = f.side2; series1 = f.series1; series2 = f.series2; apart = eqb-false c.series1 c.series2 (not-true _ g) }

-- of the legging order at a place
leggings-at : (v : Venue) (n : ℕ) (ls : List Legging) → leggings_sound v n ls ≡ true → (i : ℕ) → legging_sound v (n + i) (get_or ls i no_legging) ≡ true
unfolding leggings_sound
leggings-at v n [] h i = unfold legging_sound blank_legging in refl
leggings-at v n (l ∷ ls) h zero = rw add-zero (and_l (legging_sound v n l) (leggings_sound v (suc n) ls) h)
leggings-at v n (l ∷ ls) h (suc i) = rw (add-suc, ← suc-add) (leggings-at v (suc n) ls (and_r (legging_sound v n l) (leggings_sound v (suc n) ls) h) i)

leggings-in : (v : Venue) (n : ℕ) (ls : List Legging) → ((i : ℕ) → legging_sound v (n + i) (get_or ls i no_legging) ≡ true) → leggings_sound v n ls ≡ true
unfolding leggings_sound
leggings-in v n [] h = refl
leggings-in v n (l ∷ ls) h =
    and_in (legging_sound v n l) (leggings_sound v (suc n) ls) (rw add-zero at (h 0)) (leggings-in v (suc n) ls (λ i. rw (suc-add, ← add-suc) (h (suc i))))

record LeggingIs (v : Venue) (n : ℕ) (l : Legging) : Type 0 where
  ok : (is_id l.parent && is_price l.price && is_quantity l.quantity) ≡ true
  leg : has_leg (parent_of v l) (n / 2) (n % 2) ≡ true
  even : one_to_one (parent_of v l) ≡ true
  enough : leb l.quantity (parent_of v l).quantity ≡ true
  passes : stands (verdict v n l) ≡ true

legging-out : (v : Venue) (n : ℕ) (l : Legging) → legging_sound v n l ≡ true → held l.quantity ≡ true → LeggingIs v n l
unfolding legging_sound
legging-out v n l h t =
    let z : (is_id l.parent && is_price l.price && is_quantity l.quantity && has_leg (parent_of v l) (n / 2) (n % 2)
    && one_to_one (parent_of v l) && leb l.quantity (parent_of v l).quantity && stands (verdict v n l)) ≡ true = rw t at h in
    let a : is_id l.parent ≡ true = search (and_l, and_r, z) depth 8 in
    let b : is_price l.price ≡ true = search (and_l, and_r, z) depth 8 in
    let c : is_quantity l.quantity ≡ true = search (and_l, and_r, z) depth 8 in
    record {
      ok = rw (a, b, c);
      leg = search (and_l, and_r, z) depth 8;
      even = search (and_l, and_r, z) depth 8;
      enough = search (and_l, and_r, z) depth 8;
      passes = search (and_l, and_r, z) depth 8;
    }

legging-blank : (v : Venue) (n : ℕ) (l : Legging) → legging_sound v n l ≡ true → held l.quantity ≡ false → blank_legging l ≡ true
unfolding legging_sound
legging-blank v n l h t = rw t at h

legging-fits : (l : Legging) → (is_id l.parent && is_price l.price && is_quantity l.quantity) ≡ true → held l.quantity ≡ true → LgFits l
unfolding is_id is_price is_quantity within
legging-fits l z h = record {
  parent = (let x = leb-true l.parent 4294967295 (search (and_l, and_r, z) depth 8) in omega arith);
  price = leb-true l.price 100000 (search (and_l, and_r, z) depth 8);
  quantity = leb-true l.quantity 10000 (search (and_l, and_r, z) depth 8);
  ok = λ _. z;
  zero = λ e. absurd (true≢false (sym h ∙ e));
}

module _ (v : Venue) (sh : Shaped v) (t : Asked v) where
  abbrev ask_r : Regular → Bool
  ask_r o = regular_in_range o && on_increment v o && shows_fully o && leb o.id v.last

  abbrev ask_c : Complex → Bool
  ask_c c = complex_in_range c && leb c.id v.last

  R : Arranged no_regular holds_regular ask_r blank_regular (λ o. o.id) 0 v.regular
  unfolding regulars_sound
  R = arranged-out no_regular holds_regular ask_r blank_regular (λ o. o.id) blank-free blank_none 0 v.regular t.regulars

  C : Arranged no_complex holds_complex ask_c blank_complex (λ c. c.id) 0 v.complex
  unfolding complexes_sound
  C = arranged-out no_complex holds_complex ask_c blank_complex (λ c. c.id) blank-free_c blank-none_c 0 v.complex t.complexes

  ok_r : (i : ℕ) → held (reg v i).quantity ≡ true → regular_in_range (reg v i) ≡ true
  ok_r i h = and_l _ (on_increment v (reg v i)) (and_l _ (shows_fully (reg v i)) (and_l _ (leb (reg v i).id v.last) (R.asks i h)))

  ok_c : (j : ℕ) → held (cx v j).quantity ≡ true → complex_in_range (cx v j) ≡ true
  ok_c j h = and_l _ (leb (cx v j).id v.last) (C.asks j h)

  L : (n : ℕ) → legging_sound v n (lg v n) ≡ true
  L n = rw zero-add at (leggings-at v 0 v.legging t.leggings n)

  ranged-out : Ranged v
  ranged-out = record {
    regular = λ i. reg-fits i (held (reg v i).quantity) refl;
    complex = λ i. cx-fits i (held (cx v i).quantity) refl;
    legging = λ i. lg-fits i (held (lg v i).quantity) refl;
    listed = all-at listed_in_range not_listed v.series listed-none t.listed;
    last = leb-true v.last 4294967295 t.last;
    len = sh.legging;
    eight = sh.series;
    dated = dated-out v t.editions;
  }
    where
      reg-fits : (i : ℕ) (b : Bool) → held (reg v i).quantity ≡ b → RegFits (reg v i)
      reg-fits i true h = order-fits (reg v i) (ok_r i h)
      reg-fits i false h = blank-fits (reg v i) (R.blanks i h)

      cx-fits : (i : ℕ) (b : Bool) → held (cx v i).quantity ≡ b → CxFits (cx v i)
      cx-fits i true h = complex-fits (cx v i) (ok_c i h)
      cx-fits i false h = blank-fits_c (cx v i) (C.blanks i h)

      lg-fits : (i : ℕ) (b : Bool) → held (lg v i).quantity ≡ b → LgFits (lg v i)
      lg-fits i true h = legging-fits (lg v i) (legging-out v i (lg v i) (L i) h).ok h
      lg-fits i false h = blank-fits_l (lg v i) (legging-blank v i (lg v i) (L i) h)

  showing-out : Showing v
  unfolding Showing
  showing-out i = go (held (reg v i).quantity) refl
    where
      go : (b : Bool) → held (reg v i).quantity ≡ b → shows_fully (reg v i) ≡ true
      go true h = and_r (regular_in_range (reg v i) && on_increment v (reg v i)) (shows_fully (reg v i)) (and_l _ (leb (reg v i).id v.last) (R.asks i h))
      go false h = blank-fully (reg v i) (R.blanks i h)

  -- no id rests in both books
  apart-ids : (i j : ℕ) → held (reg v i).quantity ≡ true → held (cx v j).quantity ≡ true → (reg v i).id ≡ (cx v j).id → ⊥
  unfolding ids_distinct
  apart-ids i j h k e =
      let z = all-at (λ o. not (held o.quantity) || not (rests_complex v o.id)) no_regular v.regular refl t.ids i in
      let y = rests-in v j k in
      false≢true (rw (h, e, y) at z)

  home_out : (n : ℕ) → held (lg v n).quantity ≡ true → Home v n (lg v n)
  home_out n h =
      let x = legging-out v n (lg v n) (L n) h in
      let q = leb-true (lg v n).quantity (parent_of v (lg v n)).quantity x.enough in
      let p = held-pos (lg v n).quantity h in
      let f = find_at (lg v n).parent v.complex (pos-held (find_complex (lg v n).parent v.complex).quantity (unfold parent_of in (omega arith))) in
      let e : cx v f.at ≡ parent_of v (lg v n) = unfold parent_of in f.there in
      record {
        at = f.at;
        fits = f.fits;
        id = ap (λ (c : Complex). c.id) f.there ∙ f.is;
        leg = subst (λ (c : Complex). LegOf c (n / 2) (n % 2)) (sym e) (leg-out (parent_of v (lg v n)) (n / 2) (n % 2) x.leg);
        even = rw e x.even;
        enough = rw e q;
      }

  stand-out : AllStand v
  unfolding AllStand
  stand-out n = go (held (lg v n).quantity) refl
    where
      go : (b : Bool) → held (lg v n).quantity ≡ b → verdict v n (lg v n) ≡ Stands
      go true h = is-stands _ (legging-out v n (lg v n) (L n) h).passes
      go false h = free-stands v n (lg v n) h

  apart-at : (s : ℕ) → s < 8 → apart v s ≡ true
  unfolding all
  apart-at s h = let z = t.apart in go s h z
    where
      go : (s : ℕ) → s < 8 → all (apart v) (0 ∷ 1 ∷ 2 ∷ 3 ∷ 4 ∷ 5 ∷ 6 ∷ 7 ∷ []) ≡ true → apart v s ≡ true
      go zero h z = search (and_l, z) depth 12
      go (suc zero) h z = search (and_l, and_r, z) depth 12
      go (suc (suc zero)) h z = search (and_l, and_r, z) depth 12
      go (suc (suc (suc zero))) h z = search (and_l, and_r, z) depth 12
      go (suc (suc (suc (suc zero)))) h z = search (and_l, and_r, z) depth 12
      go (suc (suc (suc (suc (suc zero))))) h z = search (and_l, and_r, z) depth 12
      go (suc (suc (suc (suc (suc (suc zero)))))) h z = search (and_l, and_r, z) depth 12
      go (suc (suc (suc (suc (suc (suc (suc zero))))))) h z = search (and_l, and_r, z) depth 12
      go (suc (suc (suc (suc (suc (suc (suc (suc s)))))))) h z = absurd (omega arith)

  invariant-out : Invariant v
  invariant-out = record {
    fine = record {
      good = record {
        len1 = sh.regular;
        len2 = sh.complex;
        ranges = λ j h. range-of (cx v j) (ok_c j h);
        rise1 = R.rises;
        rise2 = C.rises;
        rx = apart-ids;
        rlast = λ i h. leb-true (reg v i).id v.last (and_r (regular_in_range (reg v i) && on_increment v (reg v i) && shows_fully (reg v i)) _ (R.asks i h));
        xlast = λ j h. leb-true (cx v j).id v.last (and_r (complex_in_range (cx v j)) _ (C.asks j h));
      };
      homes = record { len = sh.legging; home = home_out };
    };
    stand = stand-out;
    tidy = record { dense1 = R.dense; dense2 = C.dense; blank1 = R.blanks; blank2 = C.blanks };
    ranged = ranged-out;
    showing = showing-out;
    uncrossed = apart_out v ranged-out (showing-shown v ranged-out showing-out) apart-at;
    edited = record { len = sh.editions; rise = t.editions };
    busy = record { eight = sh.generations; twenty = sh.twenty; rise = t.generations };
    reached = leb-true v.reached v.last t.reached;
    priced = λ i h. and_r (regular_in_range (reg v i)) _ (and_l _ (shows_fully (reg v i)) (and_l _ (leb (reg v i).id v.last) (R.asks i h)));
  }

pub sound-out : (v : Venue) → SoundVenue v → Invariant v
sound-out v s = invariant-out v s.shaped (asked v s.is)

-- To the tests --------------------------------------------------------------------------------

some_id : (o : Regular) → regular_in_range o ≡ true → 0 < o.id
unfolding regular_in_range is_id within
some_id o z = leb-true 1 o.id (search (and_l, and_r, z) depth 12)

some-id_c : (c : Complex) → complex_in_range c ≡ true → 0 < c.id
unfolding complex_in_range two_leg_in_range is_id within
some-id_c c z = leb-true 1 c.id (search (and_l, and_r, z) depth 14)

module _ (v : Venue) (k : Invariant v) where
  fully : (i : ℕ) → shows_fully (reg v i) ≡ true
  unfolding Showing
  fully = k.showing

  regulars-in : regulars_sound v ≡ true
  unfolding regulars_sound
  regulars-in = arranged-in no_regular holds_regular _ blank_regular (λ o. o.id) blank-free blank_none 0 v.regular (record {
    above = λ i h. some_id (reg v i) ((k.ranged.regular i).ok h);
    asks = λ i h. and_in (regular_in_range (reg v i) && on_increment v (reg v i) && shows_fully (reg v i)) _
        (and_in (regular_in_range (reg v i) && on_increment v (reg v i)) (shows_fully (reg v i)) (and_in _ _ ((k.ranged.regular i).ok h) (k.priced i h))
        (fully i)) (le-leb (reg v i).id v.last (k.fine.good.rlast i h));
    rises = k.fine.good.rise1;
    dense = k.tidy.dense1;
    blanks = k.tidy.blank1;
  })

  complexes-in : complexes_sound v ≡ true
  unfolding complexes_sound
  complexes-in = arranged-in no_complex holds_complex _ blank_complex (λ c. c.id) blank-free_c blank-none_c 0 v.complex (record {
    above = λ i h. some-id_c (cx v i) ((k.ranged.complex i).ok h);
    asks = λ i h. and_in (complex_in_range (cx v i)) _ ((k.ranged.complex i).ok h) (le-leb (cx v i).id v.last (k.fine.good.xlast i h));
    rises = k.fine.good.rise2;
    dense = k.tidy.dense2;
    blanks = k.tidy.blank2;
  })

  ids-in : ids_distinct v ≡ true
  unfolding ids_distinct
  ids-in = all_in _ no_regular v.regular (λ i. go i (held (reg v i).quantity) refl (rests_complex v (reg v i).id) refl)
    where
      go : (i : ℕ) (b : Bool) → held (reg v i).quantity ≡ b → (c : Bool) → rests_complex v (reg v i).id ≡ c → (not b || not c) ≡ true
      go i true h true r = let x = rests-out v (reg v i).id r in absurd (k.fine.good.rx i x.at h x.holds (sym x.is))
      go i true h false r = refl
      go i false h c r = refl

  aparts-in : all (apart v) (0 ∷ 1 ∷ 2 ∷ 3 ∷ 4 ∷ 5 ∷ 6 ∷ 7 ∷ []) ≡ true
  unfolding all
  aparts-in =
      rw (at 0 (omega arith), at 1 (omega arith), at 2 (omega arith), at 3 (omega arith), at 4 (omega arith), at 5 (omega arith), at 6 (omega arith), at 7 (omega arith))
    where
      at : (s : ℕ) → s < 8 → apart v s ≡ true
      at = apart_in v k.uncrossed

  legging-in : (n : ℕ) → legging_sound v n (lg v n) ≡ true
  unfolding legging_sound AllStand
  legging-in n = go (held (lg v n).quantity) refl
    where
      l : Legging
      l = lg v n

      go : (b : Bool) → held l.quantity ≡ b →
          (if b then is_id l.parent && is_price l.price && is_quantity l.quantity && has_leg (parent_of v l) (n / 2) (n % 2)
          && one_to_one (parent_of v l) && leb l.quantity (parent_of v l).quantity && stands (verdict v n l) else blank_legging l) ≡ true
      go true h =
          let home = k.fine.homes.home n h in
          let e = parent-found v k.fine n h in
          let a = (k.ranged.legging n).ok h in
          let b = subst (λ (c : Complex). has_leg c (n / 2) (n % 2) ≡ true) (sym e) (leg-in _ (n / 2) (n % 2) home.leg) in
          let c = subst (λ (c : Complex). leb l.quantity c.quantity ≡ true) (sym e) (le-leb l.quantity _ home.enough) in
          let o = subst (λ (c : Complex). one_to_one c ≡ true) (sym e) home.even in
          and_in _ _ (and_in _ _ (and_in _ _ (and_in _ _ a b) o) c) (unfold stands in (rw (k.stand n)))
      go false h = (k.ranged.legging n).zero h

  pub sound-in : SoundVenue v
  sound-in = record {
    shaped = record {
      regular = k.fine.good.len1;
      complex = k.fine.good.len2;
      legging = k.fine.homes.len;
      series = k.ranged.eight;
      editions = k.edited.len;
      generations = k.busy.eight;
      twenty = k.busy.twenty;
    };
    is = unfold sound in
        (and_in _ _ (and_in _ _ (and_in _ _ (and_in _ _ (and_in _ _ (and_in _ _ (and_in _ _ (and_in _ _ (and_in _ _ regulars-in complexes-in)
        (all_in listed_in_range not_listed v.series k.ranged.listed)) k.edited.rise) k.busy.rise)
        (le-leb v.reached v.last k.reached))
        (le-leb v.last 4294967295 k.ranged.last)) ids-in) aparts-in)
        (leggings-in v 0 v.legging (λ i. rw zero-add (legging-in i))));
  }
