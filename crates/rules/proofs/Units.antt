-- Whole units: how many of a complex order a step of legging in trades. Of one contract of each leg a price always fills one.
use Rattle.std.specs.Prelude.{if◌then◌else◌}
use mathlib.Core.Path.{◌≡◌, refl}
use mathlib.Core.Bool.{true, false≢true}
use Prim.Native.Nat.{ℕ, ◌+◌, ◌*◌, ◌/◌, ◌≤◌, ◌<◌, min}
use native.Mathlib.Nat.{le_trans, mul-div-le, mul-le-mul_left}
use native.Mathlib.Omega.{arith}
use lib.Dec.{eqb}
use lib.ListN.{get_or}
use borrow.Author.Tests.{eq-eqb, eqb-true, le-leb, ne_eqb}
use Rattle.rules.specs.declared.Complex.{Complex}
use Rattle.rules.specs.declared.Legging.{Legging}
use Rattle.rules.specs.declared.Venue.{Venue}
use Rattle.rules.specs.Base.{held}
use Rattle.rules.specs.Words.{legging_at, no_regular, one_to_one, opposite}
use Rattle.rules.specs.Prices.{best_own, best_regular, best_size, better, better_of, own_price, own_size, shows_at, shows_for, size_in}
use Rattle.rules.specs.Complex.{fills_unit, touches, units_in}
use Rattle.rules.proofs.Better.{best-best, better-irrefl, is_false}
use Rattle.rules.proofs.Cases.{if-by}
use Rattle.rules.proofs.Sizes.{best-some, size_none}
use Rattle.rules.proofs.Tests.{and_l, and_r, held-pos}

-- Legging in ----------------------------------------------------------------------------------

least : (q x y : ℕ) → (min q (min x y) ≤ q) × (min q (min x y) ≤ x) × (min q (min x y) ≤ y)
least q x y = (omega arith, omega arith, omega arith)

-- k units of r contracts, where no more than x / r are filled
fit : (r x k : ℕ) → k ≤ x / r → r * k ≤ x
fit r x k h = le_trans (mul-le-mul_left r h) (mul-div-le x r)

module _ (v : Venue) (c : Complex) where
  abbrev size1 : ℕ
  size1 = best_size v c.series1 (opposite c.side1)

  abbrev size2 : ℕ
  size2 = best_size v c.series2 (opposite c.side2)

  -- no more than is open, and no more contracts than either size
  pub units-open : units_in v c ≤ c.quantity
  unfolding units_in
  units-open = (least c.quantity (size1 / c.ratio1) (size2 / c.ratio2)).0

  pub units-size1 : c.ratio1 * units_in v c ≤ size1
  unfolding units_in
  units-size1 = fit c.ratio1 size1 _ (least c.quantity (size1 / c.ratio1) (size2 / c.ratio2)).1

  pub units-size2 : c.ratio2 * units_in v c ≤ size2
  unfolding units_in
  units-size2 = fit c.ratio2 size2 _ (least c.quantity (size1 / c.ratio1) (size2 / c.ratio2)).2

-- Touching ------------------------------------------------------------------------------------

own_held : (l : Legging) → held (own_price l) ≡ true → 0 < l.quantity
unfolding own_price
own_held l = if-by (λ p. held p ≡ true → 0 < l.quantity) (held l.quantity) (λ h _. held-pos l.quantity h) (λ _ h. absurd (false≢true h))

-- a side that has a price has some size at it
own-some : (v : Venue) (s d : ℕ) → held (best_own v s d) ≡ true → 0 < own_size v s d
unfolding own_size best_own better_of best_size
own-some v s d =
    let l = legging_at v s d in
    if-by (λ p. held p ≡ true → 0 < size_in s d p v.regular + (if eqb (own_price l) p then l.quantity else 0)) (better d (own_price l) (best_regular v s d))
    (λ _ h. rw (eq-eqb (own_price l) (own_price l) refl) (let z = own_held l h in omega arith))
    (λ _ h. (let z : 0 < best_size v s d = best-some v s d h in omega arith))

-- request (g) leaves kind 2 as it was: what it touches goes with cause 8
pub even-fills : (v : Venue) (c : Complex) → one_to_one c ≡ true → touches v c ≡ true → fills_unit v c ≡ true
unfolding fills_unit touches one_to_one
even-fills v c e t =
    let a = eqb-true c.ratio1 1 (and_l (eqb c.ratio1 1) (eqb c.ratio2 1) e) in
    let b = eqb-true c.ratio2 1 (and_r (eqb c.ratio1 1) (eqb c.ratio2 1) e) in
    let x = own-some v c.series1 (opposite c.side1) (search (and_l, and_r, t) depth 8) in
    let y = own-some v c.series2 (opposite c.side2) (search (and_l, and_r, t) depth 8) in
    rw (le-leb c.ratio1 (own_size v c.series1 (opposite c.side1)) (omega arith), le-leb c.ratio2 (own_size v c.series2 (opposite c.side2)) (omega arith))

-- the size at the best own price, by the level of the best regular price: at a better one no regular order shows
none-beyond : (v : Venue) (s d p : ℕ) → better d p (best_regular v s d) ≡ true → size_in s d p v.regular ≡ 0
unfolding best_regular shows_for
none-beyond v s d p b =
    size_none s d p v.regular (λ i _.
    let o = get_or v.regular i no_regular in
    is_false _ (λ h. best-best s d v.regular i (and_l (shows_at s d o) (eqb o.price p) h) (rw (eqb-true o.price p (and_r (shows_at s d o) (eqb o.price p) h)) b)))

pub own-size : (v : Venue) (s d : ℕ) →
    own_size v s d ≡
    (if eqb (best_regular v s d) (best_own v s d) then best_size v s d else 0) + (if eqb (own_price (legging_at v s d)) (best_own v s d) then (legging_at v s d).quantity else 0)
unfolding own_size best_own better_of best_size
own-size v s d =
    let own = own_price (legging_at v s d) in
    let best = best_regular v s d in
    if-by (λ p. size_in s d p v.regular + (if eqb own p then (legging_at v s d).quantity else 0) ≡
    (if eqb best p then size_in s d best v.regular else 0) + (if eqb own p then (legging_at v s d).quantity else 0)) (better d own best)
    (λ b. rw (none-beyond v s d own b, ne_eqb best own (λ e. better-irrefl d own (rw e at b))) refl)
    (λ _. rw (eq-eqb best best refl) refl)
