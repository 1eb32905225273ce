-- Bounds on prices and nets: best, clear and away prices, the net of two prices, and the price of a new legging order.
use mathlib.Core.Path.{◌∙◌, ◌≡◌, refl, sym}
use mathlib.Core.Bool.{◌&&◌, ◌||◌, false, not, true, true≢false}
use mathlib.Core.Logic.{◌⊎◌, inl, inr, ⊎_elim}
use mathlib.Core.List.{List, [], ◌∷◌}
use Prim.Native.Nat.{◌*◌, ◌+◌, ◌-◌, ◌/◌, ◌<◌, ◌≤◌, min, suc, zero, ℕ}
use native.Mathlib.Nat.{div-add-mod', mod-lt}
use native.Mathlib.Omega.{arith}
use lib.Dec.{eqb, leb, ltb}
use lib.IntN.{◌+ℤ◌, negsuc, neg_ℤ, pos, ℤ}
use lib.ListN.{get_or}
use borrow.Author.Tests.{le-leb, leb-false, leb-true, ltb-true, not-true}
use Rattle.rules.specs.declared.Complex.{Complex}
use Rattle.rules.specs.declared.Regular.{Regular}
use Rattle.rules.specs.declared.Venue.{Venue}
use Rattle.rules.specs.Base.{held}
use Rattle.rules.specs.Words.{buy, is_away, is_id, is_price, is_quantity, legging_at, no_regular, not_listed, opposite, sell, sign_times, within}
use Rattle.rules.specs.Settings.{increment}
use Rattle.rules.specs.Records.{FourSigned}
use Rattle.rules.specs.Prices.{away, best_in, best_own, best_regular, better, better_of, clear_price, displayed_price, in_band, market_best, own_price, reaches, shows_at, taken1, taken2}
use Rattle.rules.specs.Standing.{other_size}
use Rattle.rules.specs.Generation.{leg_price, new_legging, reaches_any}
use Rattle.rules.specs.Refusals.{complex_in_range, two_leg_in_range}
use Rattle.rules.specs.Sound.{listed_in_range}
use Rattle.rules.proofs.Editions.{dated-steps}
use Rattle.rules.proofs.Cases.{if-by}
use Rattle.rules.proofs.Generating.{Makes, zero-out}
use Rattle.rules.proofs.Integers.{add_is, minus, neg-minus, neg-plus, plus}
use Rattle.rules.proofs.Sizes.{other-some}
use Rattle.rules.proofs.Tests.{and_l, and_r, held-pos, pos-held}
use Rattle.rules.proofs.Widths.{CxFits, LgFits, Ranged, RegFits}

-- Prices and nets -----------------------------------------------------------------------------

best-small : (s d : ℕ) (os : List Regular) → ((i : ℕ) → RegFits (get_or os i no_regular)) → best_in s d os ≤ 100000
unfolding best_in better_of
best-small s d [] h = omega arith
best-small s d (o ∷ os) h =
    let rest = best-small s d os (λ i. h (suc i)) in
    if-by (λ p. p ≤ 100000) (shows_at s d o)
    (λ _. if-by (λ p. p ≤ 100000) (better d o.price (best_in s d os)) (λ _. (h 0).price) (λ _. rest))
    (λ _. rest)

pub regular-small : (v : Venue) → Ranged v → (s d : ℕ) → best_regular v s d ≤ 100000
unfolding best_regular
regular-small v r s d = best-small s d v.regular r.regular

pub clear-small : (v : Venue) → Ranged v → (s d : ℕ) → clear_price v s d ≤ 100000
unfolding clear_price
clear-small v r s d = if-by (λ p. p ≤ 100000) (better d (own_price (legging_at v s d)) (best_regular v s d)) (λ _. omega arith) (λ _. regular-small v r s d)

small-i32 : (z : ℤ) → plus z ≤ 1000000 → minus z ≤ 1000000 → FourSigned z
unfolding plus minus
small-i32 (pos n) p m = omega arith
small-i32 (negsuc n) p m = omega arith

sign-times-size : (d a : ℕ) → plus (sign_times d (pos a)) + minus (sign_times d (pos a)) ≡ a
unfolding sign_times
sign-times-size d a =
    if-by (λ z. plus z + minus z ≡ a) (eqb d buy) (λ _. unfold plus minus in (omega arith))
    (λ _. rw (neg-plus (pos a), neg-minus (pos a)) (unfold plus minus in (omega arith)))

-- at least one part of an integer is 0
one-part : (z : ℤ) (a b : ℕ) → plus z + b ≡ minus z + a → (plus z ≤ a) × (minus z ≤ b)
unfolding plus minus
one-part (pos n) a b h = (omega arith, omega arith)
one-part (negsuc n) a b h = (omega arith, omega arith)

pub net-i32 : (d e a b : ℕ) → a ≤ 300000 → b ≤ 300000 → FourSigned (sign_times d (pos a) +ℤ sign_times e (pos b))
net-i32 d e a b p q =
    let x = sign_times d (pos a) in
    let y = sign_times e (pos b) in
    let s = one-part (x +ℤ y) (plus x + plus y) (minus x + minus y) (add_is x y) in
    let t = sign-times-size d a in
    let u = sign-times-size e b in
    small-i32 (x +ℤ y) (omega arith) (omega arith)

pub neg-i32 : (z : ℤ) → plus z ≤ 600000 → minus z ≤ 600000 → FourSigned (neg_ℤ z)
neg-i32 z p m = small-i32 (neg_ℤ z) (rw (neg-plus z) (omega arith)) (rw (neg-minus z) (omega arith))

-- A new legging order -------------------------------------------------------------------------

-- in band, both sides that the legs would take have a market best
pub band-first : (v : Venue) (c : Complex) (n : ℤ) → in_band v c n ≡ true → held (market_best v c.series1 (opposite c.side1)) ≡ true
unfolding in_band taken1
band-first v c n h = search (and_l, and_r, h)

pub band-second : (v : Venue) (c : Complex) (n : ℤ) → in_band v c n ≡ true → held (market_best v c.series2 (opposite c.side2)) ≡ true
unfolding in_band taken2
band-second v c n h = search (and_l, and_r, h)

-- a price is at most its displayed price to sell, for any increment
up : (i p : ℕ) → 0 < i → p ≤ (p + (i - 1)) / i * i
up i p h = let a = div-add-mod' (p + (i - 1)) i in let b = mod-lt (p + (i - 1)) h in omega arith

pub sell-displayed : (i d p : ℕ) → 0 < i → eqb d buy ≡ false → p ≤ displayed_price i d p
unfolding displayed_price
sell-displayed i d p h f = rw f (up i p h)

pub displayed-small : (low i d p : ℕ) → within low 100000 (displayed_price i d p) ≡ true → displayed_price i d p ≤ 100000
unfolding within
displayed-small low i d p z = leb-true (displayed_price i d p) 100000 (and_r (leb low (displayed_price i d p)) _ z)

away-small : (v : Venue) → Ranged v → (s d : ℕ) → away v s d ≤ 100000
unfolding away listed_in_range is_away within
away-small v r s d =
    let x = get_or v.series s not_listed in
    let z = r.listed s in
    if-by (λ p. p ≤ 100000) (eqb d buy)
    (λ _. leb-true x.bid 100000 (search (and_l, and_r, z) depth 8))
    (λ _. leb-true x.offer 100000 (search (and_l, and_r, z) depth 8))

-- where the better of two prices is there, one of them is
better-either : (d a x : ℕ) → held (better_of d a x) ≡ true → (held a ≡ true) ⊎ (held x ≡ true)
unfolding better_of
better-either d a x = if-by (λ q. held q ≡ true → (held a ≡ true) ⊎ (held x ≡ true)) (better d a x) (λ _ h. inl h) (λ _ h. inr h)

-- of offers it is no higher than one that is there
offer-lower : (y x : ℕ) → held x ≡ true → (held (better_of sell y x) ≡ true) × (better_of sell y x ≤ x)
unfolding better_of better
offer-lower y x h =
    if-by (λ q. (held q ≡ true) × (q ≤ x)) (held y && (not (held x) || ltb y x))
    (λ e. (let z = ltb-true y x (rw h at (and_r (held y) (not (held x) || ltb y x) e)) in (and_l (held y) _ e, omega arith)))
    (λ _. (h, omega arith))

-- a bid that does not reach an offer is below it
not-reached : (p q : ℕ) → held q ≡ true → q ≤ 100000 → not (reaches_any buy p q) ≡ true → p ≤ 100000
unfolding reaches_any reaches
not-reached p q h le n = let z = leb-false q p (rw h at (not-true (held q && leb q p) n)) in omega arith

-- to buy: the own price reaches no offer, and there is one, by the band
buy-small : (v : Venue) (s p : ℕ) → Ranged v → held (market_best v s sell) ≡ true →
    not (reaches_any buy p (best_own v s sell)) ≡ true → not (reaches_any buy p (away v s sell)) ≡ true → p ≤ 100000
unfolding market_best best_own
buy-small v s p r m inside outside =
    ⊎_elim (λ a. not-reached p (away v s sell) a (away-small v r s sell) outside)
    (λ x.
    let o = offer-lower (own_price (legging_at v s sell)) (best_regular v s sell) x in
    let le = o.1 in
    let q = regular-small v r s sell in
    not-reached p _ o.0 (omega arith) inside)
    (better-either sell (away v s sell) (best_regular v s sell) m)

pub price-small : {number : ℕ} (v : Venue) (c : Complex) (s d : ℕ) → s < 8 → d < 2 → Makes number v c s d → held (market_best v s (opposite d)) ≡ true → Ranged v → leg_price v c s d ≤ 100000
unfolding opposite
price-small v c s zero s8 d2 m t r = buy-small v s (leg_price v c s 0) r t m.inside m.outside
price-small v c s (suc zero) s8 d2 m t r =
    let x = displayed-small _ (increment v s) 1 (leg_price v c s 1) m.range in
    let y = sell-displayed (increment v s) 1 (leg_price v c s 1) (dated-steps v r.dated s s8) refl in
    omega arith
price-small v c s (suc (suc d)) s8 d2 m t r = absurd (omega arith)

-- the new order is in range
pub new-fits : {number : ℕ} (v : Venue) (c : Complex) (s d : ℕ) → CxFits c → held c.quantity ≡ true → s < 8 → d < 2 → Makes number v c s d → held (market_best v s (opposite d)) ≡ true → Ranged v →
    LgFits (new_legging v c s d)
unfolding new_legging complex_in_range two_leg_in_range is_id is_price is_quantity within
new-fits v c s d f h s8 d2 m t r =
    let z = f.ok h in
    let i1 : leb 1 c.id ≡ true = search (and_l, and_r, z) depth 14 in
    let i2 : leb c.id 4294967295 ≡ true = search (and_l, and_r, z) depth 14 in
    let p = held-pos (leg_price v c s d) (zero-out (increment v s) d (leg_price v c s d) (dated-steps v r.dated s s8) m.range) in
    let u = price-small v c s d s8 d2 m t r in
    let q = f.quantity in
    let n : 0 < min c.quantity (other_size v c s) = (let x = held-pos c.quantity h in let y = other-some v c s m.clear in omega arith) in
    record {
      parent = f.id;
      price = u;
      quantity = omega arith;
      ok = λ _. rw (
        i1,
        i2,
        le-leb 1 (leg_price v c s d) p,
        le-leb (leg_price v c s d) 100000 u,
        le-leb 1 (min c.quantity (other_size v c s)) n,
        le-leb (min c.quantity (other_size v c s)) 10000 (omega arith),
      );
      zero = λ e. absurd (true≢false (sym (pos-held _ n) ∙ e));
    }
