-- A step of legging in that empties neither level and leaves some of the order open is its last: what is left at one of the two prices fills no unit.
use Rattle.std.specs.Prelude.{if◌then◌else◌}
use mathlib.Core.Path.{◌∙◌, ◌≡◌, ap, refl, sym}
use mathlib.Core.Bool.{Bool, true, false, ◌&&◌}
use mathlib.Core.Logic.{◌≢◌, ◌⊎◌, inl, inr, ⊎_elim}
use mathlib.Core.List.{List, [], ◌∷◌}
use Prim.Native.Nat.{ℕ, zero, suc, ◌+◌, ◌-◌, ◌*◌, ◌/◌, ◌≤◌, ◌<◌, min}
use native.Mathlib.Nat.{div-eq_of_lt, div-zero, lt-mul-div-succ, mul-add, mul-one}
use native.Mathlib.Omega.{arith}
use native.Mathlib.Decide.{dec_le}
use lib.Dec.{eqb}
use lib.ListN.{get_or}
use lib.Seq.{get_or-set_same}
use borrow.Author.Tests.{eqb-true}
use Rattle.rules.specs.declared.Complex.{Complex}
use Rattle.rules.specs.declared.Regular.{Regular}
use Rattle.rules.specs.declared.Venue.{Venue}
use Rattle.rules.specs.Base.{held}
use Rattle.rules.specs.Words.{complex_at, no_complex, no_regular, opposite, regular_at, with_complex, with_regular}
use Rattle.rules.specs.Records.{Report}
use Rattle.rules.specs.Effects.{Effect, ended}
use Rattle.rules.specs.Prices.{best_in, best_regular, best_size, better, rests_at, shown_size, shows_at, shows_for, size_in}
use Rattle.rules.specs.Trading.{fill_complex, fill_regular, less_complex, less_regular, trade_at_price}
use Rattle.rules.specs.Complex.{leg_in, leg_in_turn, legs_in, units_in}
use Rattle.rules.proofs.Better.{best-best, better-none, better-same}
use Rattle.rules.proofs.Filling.{Fewer, Lesser, cx, fewer-trans, held-fits_c, placewise-set, reg, still-held}
use Rattle.rules.proofs.Pairing.{leg_in-filled, leg_in-venue, legged, pair-regular}
use Rattle.rules.proofs.Sizes.{ShowsAt, best-is, rests-held, rests-shows, shown-lessens, shows-rests}
use Rattle.rules.proofs.TradingLaws.{Chain, chain-elsewhere, chain-fewer, no-more, at-price-chain, at-price-left, traded}
use Rattle.rules.proofs.Tests.{and-false, and_l, and_r, free-none, held-pos, pos-held}

-- The best price that is left -----------------------------------------------------------------

-- some order shows where there is size
size-shows : (s d p : ℕ) (os : List Regular) → 0 < size_in s d p os → ShowsAt s d p os
unfolding size_in shows_for
size-shows s d p [] h = absurd (omega arith)
size-shows s d p (o ∷ os) h = go (shows_at s d o && eqb o.price p) refl h (size-shows s d p os)
  where
    go : (b : Bool) → (shows_at s d o && eqb o.price p) ≡ b → 0 < (if b then shown_size o + size_in s d p os else size_in s d p os) →
        (0 < size_in s d p os → ShowsAt s d p os) → ShowsAt s d p (o ∷ os)
    go true e h ih = record { at = 0; shows = and_l (shows_at s d o) (eqb o.price p) e; price = eqb-true o.price p (and_r (shows_at s d o) (eqb o.price p) e) }
    go false e h ih = let r = ih h in record { at = suc r.at; shows = r.shows; price = r.price }

-- no trade makes an order show more
fill-dims : (i k : ℕ) (v : Venue) (j : ℕ) → shown_size (reg (fill_regular i k v) j) ≤ shown_size (reg v j)
unfolding fill_regular with_regular regular_at
fill-dims i k v =
    (placewise-set no_regular (λ a b. shown_size a ≤ shown_size b) (λ o. omega arith) v.regular i (less_regular k (reg v i)) (let z = shown-lessens k (reg v i) in omega arith)).lesser

chain-dims : {x s d p : ℕ} {v w : Venue} {rs : List Report} → Chain x s d p v rs w → (j : ℕ) → shown_size (reg w j) ≤ shown_size (reg v j)
chain-dims no-more j = omega arith
chain-dims (traded {v = v} i q f r e le c) j = let a = chain-dims c j in let b = fill-dims i q v j in omega arith

-- what shows with less open, and shows no more, showed before
lesser-shows : (s d : ℕ) {a b : Regular} → Lesser a b → shown_size a ≤ shown_size b → shows_at s d a ≡ true → shows_at s d b ≡ true
unfolding rests_at
lesser-shows s d {a} {b} l dim h =
    let r = shows-rests s d a h in
    let g : held (shown_size a) ≡ true = unfold shows_at in (search (and_l, and_r, h)) in
    let e = held-pos (shown_size a) g in
    let x = still-held l (rests-held s d a r) in
    let y : eqb b.series s ≡ true = rw (← l.series) (search (and_l, and_r, r)) in
    let z : eqb b.side d ≡ true = rw (← l.side) (search (and_l, and_r, r)) in
    rests-shows s d b (pos-held (shown_size b) (omega arith)) (rw (x, y, z))

-- while size is left at the best price, it is the best
best-still : (s d : ℕ) (os ps : List Regular) → Fewer ps os → ((j : ℕ) → shown_size (get_or ps j no_regular) ≤ shown_size (get_or os j no_regular)) → held
    (best_in s d os) ≡ true → 0 < size_in s d (best_in s d os) ps → best_in s d ps ≡ best_in s d os
best-still s d os ps f dims h n = go (held (best_in s d ps)) refl
  where
    p : ℕ
    p = best_in s d os

    q : ℕ
    q = best_in s d ps

    x : ShowsAt s d p ps
    x = size-shows s d p ps n

    -- no price is better than what is left
    no-better : better d p q ≡ true → ⊥
    no-better b = best-best s d ps x.at x.shows (rw x.price b)

    go : (b : Bool) → held q ≡ b → q ≡ p
    go false e = absurd (no-better (rw (free-none q e) (better-none d p (held-pos p h))))
    go true e =
        let y = best-is s d ps e in
        let z = f.lesser y.at in
        better-same d q p (held-pos q e) (held-pos p h)
        (λ b. best-best s d os y.at (lesser-shows s d z (dims y.at) y.shows) (rw (sym z.price ∙ y.price) b)) no-better

-- What fills no unit --------------------------------------------------------------------------

-- the least of three is the first, or one of the others
which : (q x y k : ℕ) → k ≡ min q (min x y) → k < q → (k ≡ x) ⊎ (k ≡ y)
which q x y k e lt = elim (dec_le x y) [ yes h ↦ inl (omega arith) | no h ↦ inr (omega arith) ]

-- k units are all that x contracts fill: what is left of them fills none
rest-none : (r x k t : ℕ) → 0 < k → k ≡ x / r → t + r * k ≡ x → t / r ≡ 0
rest-none zero x k t h e s = absurd (let z = div-zero x in omega arith)
rest-none (suc r) x k t h e s =
    let z : x < suc r * (x / suc r + 1) = lt-mul-div-succ x (omega arith) in
    let y : suc r * (x / suc r + 1) ≡ suc r * k + suc r = rw (← e, mul-add (suc r) k 1, mul-one (suc r)) refl in
    div-eq_of_lt {n = t} {m = suc r} (omega arith)

none_of : (q x y : ℕ) → (x ≡ 0) ⊎ (y ≡ 0) → min q (min x y) ≡ 0
none_of q x y (inl e) = omega arith
none_of q x y (inr e) = omega arith

-- The step ------------------------------------------------------------------------------------

module _ (i : ℕ) (v : Venue) where
  abbrev c : Complex
  c = cx v i

  abbrev d₁ : ℕ
  d₁ = opposite c.side1

  abbrev d₂ : ℕ
  d₂ = opposite c.side2

  abbrev a : ℕ
  a = best_in c.series1 d₁ v.regular

  abbrev b : ℕ
  b = best_in c.series2 d₂ v.regular

  abbrev s₁ : ℕ
  s₁ = size_in c.series1 d₁ a v.regular

  abbrev s₂ : ℕ
  s₂ = size_in c.series2 d₂ b v.regular

  abbrev k : ℕ
  k = units_in v c

  abbrev first : Effect
  first = trade_at_price (c.ratio1 * k) c.id c.series1 c.side1 a (c.ratio1 * k) v

  abbrev w : Venue
  w = legged v i a b k

  abbrev after : Venue
  after = (leg_in i a b k v).venue

  less : held c.quantity ≡ true → cx after i ≡ less_complex k c
  unfolding fill_complex with_complex complex_at
  less holds =
      ap (λ (l : List Complex). get_or l i no_complex) (leg_in-filled v i a b k)
      ∙ get_or-set_same v.complex i (less_complex k c) no_complex (held-fits_c v.complex i holds)

  -- nothing is open: so is a step that leaves none of the order
  pub all_in : held c.quantity ≡ true → c.quantity ≤ k → leg_in_turn i (leg_in i a b k v).venue ≡ ended
  unfolding leg_in_turn legs_in complex_at less_complex
  all_in holds whole = let z : c.quantity - k ≡ 0 = omega arith in rw (less holds, z)

  module _ (holds : held c.quantity ≡ true) (apart : c.series1 ≢ c.series2) (ha : held a ≡ true) (hb : held b ≡ true)
      (some : 0 < k) (part : k < c.quantity) (more1 : c.ratio1 * k < s₁) (more2 : c.ratio2 * k < s₂) where
    fewer : Fewer w.regular v.regular
    fewer = fewer-trans (chain-fewer (at-price-chain c.id c.series2 c.side2 b (c.ratio2 * k) (c.ratio2 * k) first.venue))
        (chain-fewer (at-price-chain c.id c.series1 c.side1 a (c.ratio1 * k) (c.ratio1 * k) v))

    dims : (j : ℕ) → shown_size (reg w j) ≤ shown_size (reg v j)
    dims j =
        let x = chain-dims (at-price-chain c.id c.series2 c.side2 b (c.ratio2 * k) (c.ratio2 * k) first.venue) j in
        let y = chain-dims (at-price-chain c.id c.series1 c.side1 a (c.ratio1 * k) (c.ratio1 * k) v) j in
        omega arith

    -- what is left at the two prices
    left1 : size_in c.series1 d₁ a w.regular + c.ratio1 * k ≡ s₁
    left1 =
        rw ((chain-elsewhere (at-price-chain c.id c.series2 c.side2 b (c.ratio2 * k) (c.ratio2 * k) first.venue)).size c.series1 d₁ a (λ e. apart (sym e)))
        (at-price-left c.id c.series1 c.side1 a (c.ratio1 * k) (c.ratio1 * k) v (omega arith) (omega arith))

    was2 : size_in c.series2 d₂ b first.venue.regular ≡ s₂
    was2 = (chain-elsewhere (at-price-chain c.id c.series1 c.side1 a (c.ratio1 * k) (c.ratio1 * k) v)).size c.series2 d₂ b apart

    left2 : size_in c.series2 d₂ b w.regular + c.ratio2 * k ≡ s₂
    left2 = at-price-left c.id c.series2 c.side2 b (c.ratio2 * k) (c.ratio2 * k) first.venue (omega arith) (rw was2 (omega arith)) ∙ was2

    same1 : best_in c.series1 d₁ w.regular ≡ a
    same1 = best-still c.series1 d₁ v.regular w.regular fewer dims ha (omega (arith, left1))

    same2 : best_in c.series2 d₂ w.regular ≡ b
    same2 = best-still c.series2 d₂ v.regular w.regular fewer dims hb (omega (arith, left2))

    -- one of the two fills no unit
    none : (size_in c.series1 d₁ a w.regular / c.ratio1 ≡ 0) ⊎ (size_in c.series2 d₂ b w.regular / c.ratio2 ≡ 0)
    none =
        ⊎_elim (λ e. inl (rest-none c.ratio1 s₁ k _ some e left1)) (λ e. inr (rest-none c.ratio2 s₂ k _ some e left2))
        (which c.quantity (s₁ / c.ratio1) (s₂ / c.ratio2) k (unfold units_in best_size best_regular in refl) part)

    same-regular : after.regular ≡ w.regular
    same-regular = ap (λ (u : Venue). u.regular) (leg_in-venue v i a b k) ∙ pair-regular i c.id _ k w

    no-units : units_in after (less_complex k c) ≡ 0
    unfolding units_in best_size best_regular less_complex
    no-units = rw (same-regular, same1, same2) (none_of (c.quantity - k) _ _ none)

    pub stops : leg_in_turn i (leg_in i a b k v).venue ≡ ended
    unfolding leg_in_turn complex_at
    stops = rw (less holds, no-units, and-false)
