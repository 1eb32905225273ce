-- The invariant of a venue, place by place: what soundness asks (`Soundness` has the test), in the form that every effect keeps.
-- `Good`: shapes, ranges and ids. `Homes`: each legging order has a resting parent whose leg it is and which has as much open.
-- `Tidy`: no gap, and free places are all zero; `Showing`: each order shows what it should; these hold between messages.
-- `Uncrossed`: no series is locked or crossed. `Edited`: editions rise in both numbers. `Priced`: resting prices are on the increments in force.
-- `Busy`: the generations counted.
use mathlib.Core.Path.{◌∙◌, ◌≡◌, ap, refl, sym}
use mathlib.Core.Bool.{Bool, false, false≢true, true, true≢false}
use mathlib.Core.Logic.{◌≢◌, ◌⊎◌, inl, inr}
use mathlib.Core.List.{List}
use Prim.Native.Nat.{◌%◌, ◌/◌, ◌<◌, ◌≤◌, ℕ}
use native.Mathlib.Decide.{dec_lt}
use native.Mathlib.Omega.{arith}
use lib.Dec.{eqb}
use lib.IntN.{ℤ}
use lib.ListN.{get_or, length, length-set}
use lib.Seq.{get_or-set_other}
use borrow.Author.Tests.{eqb-true}
use Rattle.rules.specs.declared.Cause.{Cause}
use Rattle.rules.specs.declared.Cause.TheVariants.{Executed}
use Rattle.rules.specs.declared.Complex.{Complex}
use Rattle.rules.specs.declared.Legging.{Legging}
use Rattle.rules.specs.declared.Venue.{Venue}
use Rattle.rules.specs.declared.Verdict.{Verdict}
use Rattle.rules.specs.Base.{held, place_where}
use Rattle.rules.specs.Words.{buy, complex_at, is_complex_of, no_complex, no_legging, one_to_one, sell, with_complex, with_legging}
use Rattle.rules.specs.Records.{Report}
use Rattle.rules.specs.Effects.{◌⟫◌, report}
use Rattle.rules.specs.Removal.{remove, remove_of}
use Rattle.rules.specs.Standing.{find_complex, other_leg, parent_of}
use Rattle.rules.specs.Trading.{fill_complex, less_complex, pair_off}
use Rattle.rules.specs.Places.{blank_complex, blank_regular}
use Rattle.rules.specs.Sound.{editions_sound}
use Rattle.rules.proofs.Dating.{Priced}
use Rattle.rules.proofs.Filling.{LesserC, cx, lg, reg, still-held, still-held_c}
use Rattle.rules.proofs.Finding.{LegOf, leg-series, place_is}
use Rattle.rules.proofs.Generating.{AllStand}
use Rattle.rules.proofs.Hitting.{other-is₁, other-is₂}
use Rattle.rules.proofs.Ledger.{Moved}
use Rattle.rules.proofs.Owning.{Own}
use Rattle.rules.proofs.Removing.{length-stayers, stay_of}
use Rattle.rules.proofs.Settling.{SameOrGone, stayers-kept}
use Rattle.rules.proofs.Showing.{Showing}
use Rattle.rules.proofs.Tests.{and_l, and_r, held-pos, pos-held}
use Rattle.rules.proofs.Traffic.{Busy}
use Rattle.rules.proofs.Widths.{Ranged}

-- a complex order in range
pub record InRange (c : Complex) : Type 0 where
  pub side1 : c.side1 < 2
  pub side2 : c.side2 < 2
  pub series1 : c.series1 < 8
  pub series2 : c.series2 < 8
  pub apart : c.series1 ≢ c.series2

-- shapes, ranges and ids: 1 of regular orders, 2 of complex ones
pub record Good (v : Venue) : Type 0 where
  pub len1 : length v.regular ≡ 128
  pub len2 : length v.complex ≡ 32
  -- resting complex orders are in range
  pub ranges : (j : ℕ) → held (cx v j).quantity ≡ true → InRange (cx v j)
  -- ids rise by place
  pub rise1 : (i j : ℕ) → i < j → held (reg v i).quantity ≡ true → held (reg v j).quantity ≡ true → (reg v i).id < (reg v j).id
  pub rise2 : (i j : ℕ) → i < j → held (cx v i).quantity ≡ true → held (cx v j).quantity ≡ true → (cx v i).id < (cx v j).id
  -- no id rests in both books
  pub rx : (i j : ℕ) → held (reg v i).quantity ≡ true → held (cx v j).quantity ≡ true → (reg v i).id ≡ (cx v j).id → ⊥
  -- and none is above the last
  pub rlast : (i : ℕ) → held (reg v i).quantity ≡ true → (reg v i).id ≤ v.last
  pub xlast : (j : ℕ) → held (cx v j).quantity ≡ true → (cx v j).id ≤ v.last

-- rising ids are distinct
apart-rise : (h : ℕ → Bool) (f : ℕ → ℕ) → ((i j : ℕ) → i < j → h i ≡ true → h j ≡ true → f i < f j) → (i j : ℕ) → h i ≡ true → h j ≡ true → f i ≡ f j → i ≡ j
apart-rise h f r i j a b e =
    elim (dec_lt i j) [
      | yes p ↦ let z = r i j p a b in absurd (omega arith)
      | no p ↦ elim (dec_lt j i) [ yes q ↦ let z = r j i q b a in absurd (omega arith) | no q ↦ omega arith ]
    ]

pub good-rr : {v : Venue} → Good v → (i j : ℕ) → held (reg v i).quantity ≡ true → held (reg v j).quantity ≡ true → (reg v i).id ≡ (reg v j).id → i ≡ j
good-rr {v} g = apart-rise (λ i. held (reg v i).quantity) (λ i. (reg v i).id) g.rise1

pub good-xx : {v : Venue} → Good v → (i j : ℕ) → held (cx v i).quantity ≡ true → held (cx v j).quantity ≡ true → (cx v i).id ≡ (cx v j).id → i ≡ j
good-xx {v} g = apart-rise (λ i. held (cx v i).quantity) (λ i. (cx v i).id) g.rise2

range-kept : {a b : Complex} → LesserC a b → InRange b → InRange a
range-kept h r =
    let l = h.legs in
    record {
      side1 = rw l.side1 r.side1;
      side2 = rw l.side2 r.side2;
      series1 = rw l.series1 r.series1;
      series2 = rw l.series2 r.series2;
      apart = λ e. r.apart (sym l.series1 ∙ e ∙ l.series2);
    }

-- whatever moves the ledger keeps it
pub good-kept : {v w : Venue} {rs : List Report} → Moved v rs w → Good v → Good w
good-kept {v} {w} m g =
    let f = m.regular in
    let c = m.complex in
    record {
      len1 = f.same ∙ g.len1;
      len2 = c.same ∙ g.len2;
      ranges = λ j h. range-kept (c.lesser j) (g.ranges j (still-held_c (c.lesser j) h));
      rise1 = λ i j q h k. rw ((f.lesser i).id, (f.lesser j).id) (g.rise1 i j q (still-held (f.lesser i) h) (still-held (f.lesser j) k));
      rise2 = λ i j q h k. rw ((c.lesser i).id, (c.lesser j).id) (g.rise2 i j q (still-held_c (c.lesser i) h) (still-held_c (c.lesser j) k));
      rx = λ i j h k e. g.rx i j (still-held (f.lesser i) h) (still-held_c (c.lesser j) k) (sym (f.lesser i).id ∙ e ∙ (c.lesser j).id);
      rlast = λ i h. rw ((f.lesser i).id, m.last) (g.rlast i (still-held (f.lesser i) h));
      xlast = λ j h. rw ((c.lesser j).id, m.last) (g.xlast j (still-held_c (c.lesser j) h));
    }

-- Homes ---------------------------------------------------------------------------------------

-- the parent of the legging order l at place n
pub record Home (v : Venue) (n : ℕ) (l : Legging) : Type 0 where
  pub at : ℕ
  pub fits : at < length v.complex
  pub id : (cx v at).id ≡ l.parent
  pub leg : LegOf (cx v at) (n / 2) (n % 2)
  pub even : one_to_one (cx v at) ≡ true
  pub enough : l.quantity ≤ (cx v at).quantity

pub record Homes (v : Venue) : Type 0 where
  pub len : length v.legging ≡ 16
  pub home : (n : ℕ) → held (lg v n).quantity ≡ true → Home v n (lg v n)

pub home_same : {v w : Venue} {n : ℕ} {l : Legging} → w.complex ≡ v.complex → Home v n l → Home w n l
home_same {v} {w} e h = record {
  at = h.at;
  fits = rw e h.fits;
  id = ap (λ (x : List Complex). (get_or x h.at no_complex).id) e ∙ h.id;
  leg = rw e h.leg;
  even = rw e h.even;
  enough = rw e h.enough;
}

pub homes-thin : {v w : Venue} → w.complex ≡ v.complex → length w.legging ≡ length v.legging → ((n : ℕ) → SameOrGone (lg w n) (lg v n)) → Homes v → Homes w
unfolding SameOrGone
homes-thin {v} {w} e len k h = record { len = len ∙ h.len; home = λ n. go n (k n) }
  where
    go : (n : ℕ) → (lg w n ≡ lg v n) ⊎ (lg w n ≡ no_legging) → held (lg w n).quantity ≡ true → Home w n (lg w n)
    go n (inl p) t = rw p (home_same e (h.home n (rw p at t)))
    go n (inr p) t = absurd (false≢true (rw p at t))

pub homes-remove : (f : ℕ → Legging → Verdict) (v : Venue) → Homes v → Homes (remove f v).venue
unfolding remove with_legging
homes-remove f v h = homes-thin refl (length-stayers f 0 v.legging) (stayers-kept f 0 v.legging) h

pub homes_same : {v w : Venue} → w.complex ≡ v.complex → w.legging ≡ v.legging → Homes v → Homes w
unfolding SameOrGone
homes_same {v} {w} e l h = homes-thin e (ap length l) (λ n. inl (ap (λ (x : List Legging). get_or x n no_legging) l)) h

-- an order is filled, and its legging orders go
pub homes-fill : (j k : ℕ) (c : Cause) (v : Venue) → Homes v → Homes (remove_of (cx v j).id c (fill_complex j k v)).venue
unfolding remove_of remove with_legging fill_complex with_complex
homes-fill j k c v h = record {
  len = length-stayers _ 0 v.legging ∙ h.len;
  home = λ n t.
      let p = stay_of (cx v j).id c 0 v.legging n t in
      let old = h.home n (rw p.0 at t) in
      rw p.0 (moved n (lg v n) old (λ e. p.1 (ap (λ (x : Legging). x.parent) p.0 ∙ sym old.id ∙ ap (λ (a : ℕ). (cx v a).id) e)));
}
  where
    moved : (n : ℕ) (l : Legging) (o : Home v n l) → o.at ≢ j → Home (remove_of (cx v j).id c (fill_complex j k v)).venue n l
    moved n l o ne =
        let s = get_or-set_other v.complex j o.at (less_complex k (complex_at v j)) no_complex ne in
        record {
          at = o.at;
          fits = rw length-set o.fits;
          id = rw s o.id;
          leg = rw s o.leg;
          even = rw s o.even;
          enough = rw s o.enough;
        }

-- k of the order at place j are paired
pub homes-pair_off : (j id : ℕ) (n : ℤ) (k : ℕ) (v : Venue) → id ≡ (cx v j).id → Homes v → Homes (pair_off j id n k v).venue
unfolding pair_off report ◌⟫◌
homes-pair_off j id n k v e h = rw e (homes-fill j k Executed v h)

pub record Fine (v : Venue) : Type 0 where
  pub good : Good v
  pub homes : Homes v

-- The parent that is found --------------------------------------------------------------------

module _ (v : Venue) (g : Good v) (j : ℕ) (f : j < length v.complex) (h : held (cx v j).quantity ≡ true) where
  only : (i : ℕ) → held (cx v i).quantity ≡ true → (cx v i).id ≡ (cx v j).id → i ≡ j
  only i q e = good-xx g i j q h e

  pub place_at : place_where (is_complex_of (cx v j).id) v.complex ≡ j
  place_at = (place_is v.complex j f h only).0

  pub found : find_complex (cx v j).id v.complex ≡ cx v j
  found = (place_is v.complex j f h only).1

-- the parent of a legging order is the one at its home, and its other leg is in another series
module _ (v : Venue) (f : Fine v) (n : ℕ) (h : held (lg v n).quantity ≡ true) where
  abbrev home : Home v n (lg v n)
  home = f.homes.home n h

  pub home-held : held (cx v home.at).quantity ≡ true
  home-held = let z = held-pos (lg v n).quantity h in let e = home.enough in pos-held (cx v home.at).quantity (omega arith)

  pub parent-found : parent_of v (lg v n) ≡ cx v home.at
  unfolding parent_of
  parent-found = rw (← home.id) (found v f.good home.at home.fits home-held)

  pub other-apart : n / 2 ≢ (other_leg (cx v home.at) (n / 2)).series
  other-apart = go (leg-series (cx v home.at) _ _ home.leg)
    where
      c : Complex
      c = cx v home.at

      ne : c.series1 ≢ c.series2
      ne = (f.good.ranges home.at home-held).apart

      go : (n / 2 ≡ c.series1) ⊎ (n / 2 ≡ c.series2) → n / 2 ≢ (other_leg c (n / 2)).series
      go (inl e) x = ne (sym e ∙ x ∙ other-is₂ c (n / 2) (sym e))
      go (inr e) x = ne (sym (sym e ∙ x ∙ other-is₁ c (n / 2) (λ y. ne (y ∙ e))))

-- an order that is one to one
pub even-first : (c : Complex) → one_to_one c ≡ true → c.ratio1 ≡ 1
unfolding one_to_one
even-first c e = eqb-true c.ratio1 1 (and_l (eqb c.ratio1 1) (eqb c.ratio2 1) e)

pub even-second : (c : Complex) → one_to_one c ≡ true → c.ratio2 ≡ 1
unfolding one_to_one
even-second c e = eqb-true c.ratio2 1 (and_r (eqb c.ratio1 1) (eqb c.ratio2 1) e)

-- Between messages ----------------------------------------------------------------------------

-- no gap: a place before a held one is held; and a free place is all zero
pub record Tidy (v : Venue) : Type 0 where
  pub dense1 : (i j : ℕ) → i < j → held (reg v j).quantity ≡ true → held (reg v i).quantity ≡ true
  pub dense2 : (i j : ℕ) → i < j → held (cx v j).quantity ≡ true → held (cx v i).quantity ≡ true
  pub blank1 : (i : ℕ) → held (reg v i).quantity ≡ false → blank_regular (reg v i) ≡ true
  pub blank2 : (i : ℕ) → held (cx v i).quantity ≡ false → blank_complex (cx v i) ≡ true

-- a free place is after every held one
after-all : (h : ℕ → Bool) → ((i j : ℕ) → i < j → h j ≡ true → h i ≡ true) → (i : ℕ) → h i ≡ false → (n : ℕ) → h n ≡ true → n < i
after-all h d i free n t = elim (dec_lt n i) [
  | yes q ↦ q
  | no q ↦ elim (dec_lt i n) [
    | yes p ↦ absurd (true≢false (sym (d i n p t) ∙ free))
    | no p ↦ let e : n ≡ i = omega arith in absurd (true≢false (sym t ∙ ap h e ∙ free))
  ]
]

pub after-regular : {v : Venue} → Tidy v → (i : ℕ) → held (reg v i).quantity ≡ false → (n : ℕ) → held (reg v n).quantity ≡ true → n < i
after-regular {v} t = after-all (λ i. held (reg v i).quantity) t.dense1

pub after-complex : {v : Venue} → Tidy v → (i : ℕ) → held (cx v i).quantity ≡ false → (n : ℕ) → held (cx v n).quantity ≡ true → n < i
after-complex {v} t = after-all (λ i. held (cx v i).quantity) t.dense2

abbrev pub Uncrossed : Venue → Type 0
Uncrossed v = (s a b : ℕ) → s < 8 → Own v s buy a → Own v s sell b → a < b

-- editions: their places, and that they rise in both numbers
pub record Edited (v : Venue) : Type 0 where
  pub len : length v.editions ≡ 32
  pub rise : editions_sound v ≡ true

pub record Invariant (v : Venue) : Type 0 where
  pub fine : Fine v
  pub stand : AllStand v
  pub tidy : Tidy v
  pub ranged : Ranged v
  pub showing : Showing v
  pub uncrossed : Uncrossed v
  pub edited : Edited v
  pub priced : Priced v
  pub busy : Busy v
  pub reached : v.reached ≤ v.last
