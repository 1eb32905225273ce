-- An accepted order is given its place: the invariant holds with it, its id is its own, all of it is open, and the other ids are as they were.
use Rattle.std.specs.Prelude.{if◌then◌else◌}
use mathlib.Core.Path.{◌∙◌, ◌≡◌, ap, refl, subst, sym}
use mathlib.Core.Bool.{false, true}
use mathlib.Core.Logic.{◌≢◌}
use Prim.Native.Nat.{◌%◌, ◌+◌, ◌/◌, ◌<◌, ◌≤◌, ℕ}
use native.Mathlib.Omega.{arith}
use lib.Dec.{eqb, leb}
use lib.ListN.{length, length-set, set}
use lib.Seq.{get_or-set_other, get_or-set_same}
use borrow.Author.Tests.{eq-eqb, leb-true, ne_eqb}
use Rattle.rules.specs.declared.Complex.{Complex}
use Rattle.rules.specs.declared.Legging.{Legging}
use Rattle.rules.specs.declared.Regular.{Regular}
use Rattle.rules.specs.declared.Venue.{Venue}
use Rattle.rules.specs.declared.Verdict.TheVariants.{Stands}
use Rattle.rules.specs.Base.{held}
use Rattle.rules.specs.Words.{no_complex, no_regular, opposite, place_of, with_complex, with_last, with_regular}
use Rattle.rules.specs.Standing.{other_leg, other_size, pairs, parent_of, verdict, verdict_of}
use Rattle.rules.specs.Sound.{apart}
use Rattle.rules.specs.Sums.{open_complex, open_regular}
use Rattle.rules.proofs.Adding.{open_none, open-put}
use Rattle.rules.proofs.Filling.{SameLegs, cx, lg, reg, same-legs}
use Rattle.rules.proofs.Generating.{AllStand, place-series}
use Rattle.rules.proofs.Ledger.{ComplexId, RegularId}
use Rattle.rules.proofs.Putting.{put_alone, put-each, put-most, put-new, put-old, put-rises}
use Rattle.rules.proofs.Sizes.{Elsewhere, best-set, free-shows, no-price, not_there, size-set}
use Rattle.rules.proofs.Tests.{and_l, and_r, free-none, held-pos}
use Rattle.rules.proofs.Verdicts.{passed}
use Rattle.demands.proofs.OrderCarries.{Pays, Ready, pays-there}
use Rattle.demands.proofs.Homes.{Fine, Home, InRange, good-rr, good-xx, homes_same, other-apart, parent-found}

-- What is asked of it ---------------------------------------------------------------------------

-- from v to w by what a message brings in: the invariant holds, and the ids so far are as they were
pub record Admitted (v w : Venue) : Type 0 where
  pub fine : Fine w
  pub later : v.last ≤ w.last
  pub regs : (y s : ℕ) → y ≤ v.last → RegularId y s v → RegularId y s w
  pub cxs : (m : Complex) → m.id ≤ v.last → ComplexId m v → ComplexId m w
  pub open_r : (y : ℕ) → y ≤ v.last → open_regular y w.regular ≡ open_regular y v.regular
  pub open_c : (y : ℕ) → y ≤ v.last → open_complex y w.complex ≡ open_complex y v.complex

-- nothing is brought in
pub admitted-none : {v : Venue} → Fine v → Admitted v v
admitted-none f = record {
  fine = f;
  later = omega arith;
  regs = λ y s le r. r;
  cxs = λ m le r. r;
  open_r = λ y le. refl;
  open_c = λ y le. refl;
}

-- an order of a new id is brought in, all of it open
pub record NewOrder (v v₀ : Venue) (o : Regular) : Type 0 where
  pub new : v.last < o.id
  pub known : o.id ≤ v₀.last
  pub own : RegularId o.id o.series v₀
  pub whole : open_regular o.id v₀.regular ≡ o.quantity

pub record NewComplex (v v₀ : Venue) (c : Complex) : Type 0 where
  pub new : v.last < c.id
  pub known : c.id ≤ v₀.last
  pub own : ComplexId c v₀
  pub whole : open_complex c.id v₀.complex ≡ c.quantity

-- what stands can be paid for
stands-pays : (v : Venue) (s d : ℕ) → Fine v → AllStand v → d < 2 → held (lg v (place_of s d)).quantity ≡ true → Pays v s (lg v (place_of s d))
unfolding AllStand verdict pairs
stands-pays v s d f st d2 h =
    let n = place_of s d in
    let c = parent_of v (lg v n) in
    let a : verdict_of v c (n / 2) (n % 2) (lg v n) ≡ Stands = rw h at (st n) in
    let q = rw (place-series s d d2) at (passed a).pair in
    let apart : n / 2 ≢ (other_leg c (n / 2)).series = rw (parent-found v f n h) (other-apart v f n h) in
    let size : leb (lg v n).quantity (other_size v c s) ≡ true = search (and_l, and_r, q) in
    record {
      apart = rw (place-series s d d2) at apart;
      clear = search (and_l, and_r, q);
      size = leb-true _ _ size;
    }

-- A regular order -----------------------------------------------------------------------------

-- o has a new id, and i is the free place after all held ones
pub record Joins (v : Venue) (o : Regular) (i : ℕ) : Type 0 where
  pub fine : Fine v
  pub new : v.last < o.id
  pub there : i < 128
  pub free : held (reg v i).quantity ≡ false
  pub behind : (n : ℕ) → held (reg v n).quantity ≡ true → n < i

module _ (v : Venue) (o : Regular) (i : ℕ) where
  abbrev pub with_order : Venue
  with_order = with_regular (with_last v o.id) (set v.regular i o)

  module _ (joins : Joins v o i) where
    fits : i < length v.regular
    fits = rw joins.fine.good.len1 joins.there

    lower : (n : ℕ) → held (reg v n).quantity ≡ true → (reg v n).id < o.id
    lower n h = let z = joins.fine.good.rlast n h in omega arith

    abbrev id-of : Regular → ℕ
    id-of x = x.id

    abbrev quantity-of : Regular → ℕ
    quantity-of x = x.quantity

    order-fine : Fine with_order
    unfolding with_regular with_last
    order-fine = record {
      good = record {
        len1 = length-set v.regular i o ∙ joins.fine.good.len1;
        len2 = joins.fine.good.len2;
        ranges = joins.fine.good.ranges;
        rise1 = put-rises no_regular id-of quantity-of v.regular i o fits lower joins.behind joins.fine.good.rise1;
        rise2 = joins.fine.good.rise2;
        rx = λ a j h k e.
            (let z = joins.fine.good.xlast j k in
            let x = put-old no_regular id-of quantity-of v.regular i o fits lower (cx v j).id a (omega arith) h e in
            joins.fine.good.rx a j x.0 k (sym (ap id-of x.1) ∙ e));
        rlast = put-most no_regular id-of quantity-of v.regular i o fits lower;
        xlast = λ j h. let z = joins.fine.good.xlast j h in omega arith;
      };
      homes = homes_same refl refl joins.fine.homes;
    }

    alone : (a b : ℕ) → held (reg with_order a).quantity ≡ true → held (reg with_order b).quantity ≡ true → (reg with_order a).id ≡ (reg with_order b).id → a ≡ b
    unfolding with_regular with_last
    alone = put_alone no_regular id-of quantity-of v.regular i o fits lower (good-rr joins.fine.good)

    -- its id is its own
    order-reg : RegularId o.id o.series with_order
    unfolding with_regular with_last
    order-reg = record {
      home = λ a h e. ap (λ (x : Regular). x.series) (put-new no_regular id-of quantity-of v.regular i o fits lower a h e);
      alone = λ a b h k p q. alone a b h k (p ∙ sym q);
      none = λ j h e. let z = joins.fine.good.xlast j h in omega arith;
    }

    -- and the others' are theirs
    old : (y a : ℕ) → y ≤ v.last → held (reg with_order a).quantity ≡ true → (reg with_order a).id ≡ y → (held (reg v a).quantity ≡ true) × (reg with_order a ≡ reg v a)
    unfolding with_regular with_last
    old y a le h e = put-old no_regular id-of quantity-of v.regular i o fits lower y a (omega arith) h e

    order-keeps-reg : (y s : ℕ) → y ≤ v.last → RegularId y s v → RegularId y s with_order
    unfolding with_regular with_last
    order-keeps-reg y s le r = record {
      home = λ a h e. (let x = old y a le h e in ap (λ (z : Regular). z.series) x.1 ∙ r.home a x.0 (sym (ap id-of x.1) ∙ e));
      alone = λ a b h k p q. alone a b h k (p ∙ sym q);
      none = r.none;
    }

    order-keeps-cx : (m : Complex) → m.id ≤ v.last → ComplexId m v → ComplexId m with_order
    unfolding with_regular with_last
    order-keeps-cx m le r = record {
      home = r.home;
      alone = r.alone;
      none = λ a h e. (let x = old m.id a le h e in r.none a x.0 (sym (ap id-of x.1) ∙ e));
    }

    order-elsewhere : Elsewhere o.series v with_order
    unfolding with_regular with_last
    order-elsewhere = record {
      best = λ t e ne. best-set t e v.regular i o (free-shows t e _ joins.free) (not_there t e o ne);
      size = λ t e p ne. size-set t e p v.regular i o (no-price t e p _ (free-shows t e _ joins.free)) (no-price t e p o (not_there t e o ne));
      complex = refl;
      legging = refl;
    }

    opposite-small : (d : ℕ) → opposite d < 2
    unfolding opposite
    opposite-small d = omega arith

    pub at_i : reg with_order i ≡ o
    unfolding with_regular with_last
    at_i = get_or-set_same v.regular i o no_regular fits

    pub order-ready : AllStand v → Ready i o.series o.side with_order
    order-ready st = record {
      fits = joins.there;
      series = ap (λ (x : Regular). x.series) at_i;
      side = ap (λ (x : Regular). x.side) at_i;
      small = opposite-small o.side;
      pays = pays-there order-elsewhere (place_of o.series (opposite o.side)) (stands-pays v o.series (opposite o.side) joins.fine st (opposite-small o.side));
    }

    order_open : (y : ℕ) → open_regular y with_order.regular ≡ open_regular y v.regular + (if eqb o.id y then o.quantity else 0)
    unfolding with_regular with_last
    order_open y = open-put no_regular id-of quantity-of y v.regular i o fits (free-none _ joins.free)

    pub order-admitted : Admitted v with_order
    unfolding with_regular with_last
    order-admitted = record {
      fine = order-fine;
      later = (let z = joins.new in omega arith);
      regs = order-keeps-reg;
      cxs = order-keeps-cx;
      open_r = λ y le. (let z = order_open y in omega (arith, rw (ne_eqb o.id y (λ e. (let u = joins.new in omega arith))) at z));
      open_c = λ y le. refl;
    }

    none_yet : open_regular o.id v.regular ≡ 0
    none_yet = open_none no_regular id-of quantity-of o.id v.regular (λ n h e. (let z = lower n h in omega arith))

    pub order-new : NewOrder v with_order o
    unfolding with_regular with_last
    order-new = record {
      new = joins.new;
      known = omega arith;
      own = order-reg;
      whole = (let z = order_open o.id in let y = none_yet in omega (arith, rw (eq-eqb o.id o.id refl) at z));
    }

-- A complex order -----------------------------------------------------------------------------

pub record JoinsC (v : Venue) (c : Complex) (i : ℕ) : Type 0 where
  pub fine : Fine v
  pub range : InRange c
  pub new : v.last < c.id
  pub there : i < 32
  pub free : held (cx v i).quantity ≡ false
  pub behind : (n : ℕ) → held (cx v n).quantity ≡ true → n < i

module _ (v : Venue) (c : Complex) (i : ℕ) where
  abbrev pub with_complex_order : Venue
  with_complex_order = with_complex (with_last v c.id) (set v.complex i c)

  module _ (joins : JoinsC v c i) where
    fits_c : i < length v.complex
    fits_c = rw joins.fine.good.len2 joins.there

    lower_c : (n : ℕ) → held (cx v n).quantity ≡ true → (cx v n).id < c.id
    lower_c n h = let z = joins.fine.good.xlast n h in omega arith

    abbrev id-of_c : Complex → ℕ
    id-of_c x = x.id

    abbrev quantity-of_c : Complex → ℕ
    quantity-of_c x = x.quantity

    -- no legging order has its home at a free place
    home-old : (n : ℕ) (l : Legging) → held l.quantity ≡ true → Home v n l → Home with_complex_order n l
    unfolding with_complex with_last
    home-old n l h o =
        let ne : o.at ≢ i = λ e. (let z = held-pos l.quantity h in let y = o.enough in let w = free-none (cx v i).quantity joins.free in
        let u : (cx v o.at).quantity ≡ (cx v i).quantity = ap (λ (m : ℕ). (cx v m).quantity) e in omega arith) in
        let s = get_or-set_other v.complex i o.at c no_complex ne in
        record { at = o.at; fits = rw length-set o.fits; id = rw s o.id; leg = rw s o.leg; even = rw s o.even; enough = rw s o.enough }

    complex-fine : Fine with_complex_order
    unfolding with_complex with_last
    complex-fine = record {
      good = record {
        len1 = joins.fine.good.len1;
        len2 = length-set v.complex i c ∙ joins.fine.good.len2;
        ranges = put-each no_complex id-of_c quantity-of_c v.complex i c fits_c lower_c InRange joins.range joins.fine.good.ranges;
        rise1 = joins.fine.good.rise1;
        rise2 = put-rises no_complex id-of_c quantity-of_c v.complex i c fits_c lower_c joins.behind joins.fine.good.rise2;
        rx = λ a j h k e.
            (let z = joins.fine.good.rlast a h in
            let x = put-old no_complex id-of_c quantity-of_c v.complex i c fits_c lower_c (reg v a).id j (omega arith) k (sym e) in
            joins.fine.good.rx a j h x.0 (e ∙ ap id-of_c x.1));
        rlast = λ a h. let z = joins.fine.good.rlast a h in omega arith;
        xlast = put-most no_complex id-of_c quantity-of_c v.complex i c fits_c lower_c;
      };
      homes = record { len = joins.fine.homes.len; home = λ n h. home-old n _ h (joins.fine.homes.home n h) };
    }

    alone_c : (a b : ℕ) → held (cx with_complex_order a).quantity ≡ true → held (cx with_complex_order b).quantity ≡ true →
        (cx with_complex_order a).id ≡ (cx with_complex_order b).id → a ≡ b
    unfolding with_complex with_last
    alone_c = put_alone no_complex id-of_c quantity-of_c v.complex i c fits_c lower_c (good-xx joins.fine.good)

    complex-cx : ComplexId c with_complex_order
    unfolding with_complex with_last
    complex-cx = record {
      home = λ a h e. same-legs (put-new no_complex id-of_c quantity-of_c v.complex i c fits_c lower_c a h e);
      alone = λ a b h k p q. alone_c a b h k (p ∙ sym q);
      none = λ a h e. let z = joins.fine.good.rlast a h in omega arith;
    }

    old_c : (y a : ℕ) → y ≤ v.last → held (cx with_complex_order a).quantity ≡ true → (cx with_complex_order a).id ≡ y →
        (held (cx v a).quantity ≡ true) × (cx with_complex_order a ≡ cx v a)
    unfolding with_complex with_last
    old_c y a le h e = put-old no_complex id-of_c quantity-of_c v.complex i c fits_c lower_c y a (omega arith) h e

    complex-keeps-cx : (m : Complex) → m.id ≤ v.last → ComplexId m v → ComplexId m with_complex_order
    unfolding with_complex with_last
    complex-keeps-cx m le r = record {
      home = λ a h e. (let x = old_c m.id a le h e in subst (λ (z : Complex). SameLegs z m) (sym x.1) (r.home a x.0 (sym (ap id-of_c x.1) ∙ e)));
      alone = λ a b h k p q. alone_c a b h k (p ∙ sym q);
      none = r.none;
    }

    complex-keeps-reg : (y s : ℕ) → y ≤ v.last → RegularId y s v → RegularId y s with_complex_order
    unfolding with_complex with_last
    complex-keeps-reg y s le r = record {
      home = r.home;
      alone = r.alone;
      none = λ j h e. (let x = old_c y j le h e in r.none j x.0 (sym (ap id-of_c x.1) ∙ e));
    }

    complex-open : (y : ℕ) → open_complex y with_complex_order.complex ≡ open_complex y v.complex + (if eqb c.id y then c.quantity else 0)
    unfolding with_complex with_last
    complex-open y = open-put no_complex id-of_c quantity-of_c y v.complex i c fits_c (free-none _ joins.free)

    pub complex-admitted : Admitted v with_complex_order
    unfolding with_complex with_last
    complex-admitted = record {
      fine = complex-fine;
      later = (let z = joins.new in omega arith);
      regs = complex-keeps-reg;
      cxs = complex-keeps-cx;
      open_r = λ y le. refl;
      open_c = λ y le. (let z = complex-open y in omega (arith, rw (ne_eqb c.id y (λ e. (let u = joins.new in omega arith))) at z));
    }

    none-yet_c : open_complex c.id v.complex ≡ 0
    none-yet_c = open_none no_complex id-of_c quantity-of_c c.id v.complex (λ n h e. (let z = lower_c n h in omega arith))

    pub complex-new : NewComplex v with_complex_order c
    unfolding with_complex with_last
    complex-new = record {
      new = joins.new;
      known = omega arith;
      own = complex-cx;
      whole = (let z = complex-open c.id in let y = none-yet_c in omega (arith, rw (eq-eqb c.id c.id refl) at z));
    }
