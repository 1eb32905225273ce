-- Document 01, "Prices of a side". A price of 0 means that there is none.
use Rattle.std.specs.Prelude.{◌≡◌, Bool, true, false, not, ◌&&◌, ◌||◌, List, [], ◌∷◌, ℕ, ◌+◌, ◌-◌, ◌*◌, ◌/◌, ◌%◌, ◌≤◌, ◌<◌, leb, ltb, eqb, ℤ, pos, nat_abs, ◌+ℤ◌, ◌*ℤ◌, if◌then◌else◌}
use Rattle.std.specs.Int.Signed.{le_z}
use Rattle.rules.specs.declared.Regular.{Regular}
use Rattle.rules.specs.declared.Complex.{Complex}
use Rattle.rules.specs.declared.Legging.{Legging}
use Rattle.rules.specs.declared.Venue.{Venue}
use Rattle.rules.specs.Base.{held}
use Rattle.rules.specs.Words.{buy, opposite, sign_times, legging_at, listed_at}
use Rattle.rules.specs.Settings.{percent}

-- Prices compared -----------------------------------------------------------------------------

-- a is strictly better than b at side d: "higher to buy, lower to sell"; any price is better than none
unfoldable pub better : (side a b : ℕ) → Bool
better d a b = if eqb d buy then ltb b a else (held a && (not (held b) || ltb a b))

-- the better of two prices
unfoldable pub better_of : (side a b : ℕ) → ℕ
better_of d a b = if better d a b then a else b

-- a price p of side d and a price q of the other side "cross or are equal"
unfoldable pub reaches : (side p q : ℕ) → Bool
reaches d p q = if eqb d buy then leb q p else leb p q

-- Regular orders ------------------------------------------------------------------------------

-- a regular order rests in series s at side d, whether or not it shows any size
unfoldable pub rests_at : (series side : ℕ) → Regular → Bool
rests_at s d o = held o.quantity && eqb o.series s && eqb o.side d

-- what an order shows: what is left of it but for its reserve. (e): "Best price, size, clear price and legging quantity count shown size
-- only."
unfoldable pub shown_size : Regular → ℕ
shown_size o = o.quantity - o.reserve

-- it shows some size in series s at side d
unfoldable pub shows_at : (series side : ℕ) → Regular → Bool
shows_at s d o = held (shown_size o) && eqb o.series s && eqb o.side d

-- and that at price p
unfoldable pub shows_for : (series side price : ℕ) → Regular → Bool
shows_for s d p o = shows_at s d o && eqb o.price p

-- the best price of those in a list
unfoldable pub best_in : (series side : ℕ) → List Regular → ℕ
best_in s d [] = 0
best_in s d (o ∷ os) =
    let rest = best_in s d os in
    if shows_at s d o then better_of d o.price rest else rest

-- their total size at a price
unfoldable pub size_in : (series side price : ℕ) → List Regular → ℕ
size_in s d p [] = 0
size_in s d p (o ∷ os) =
    let rest = size_in s d p os in
    if shows_for s d p o then shown_size o + rest else rest

-- "Per series and side: best regular price and its total size"
unfoldable pub best_regular : Venue → (series side : ℕ) → ℕ
best_regular v s d = best_in s d v.regular

unfoldable pub best_size : Venue → (series side : ℕ) → ℕ
best_size v s d = size_in s d (best_regular v s d) v.regular

-- Legging orders ------------------------------------------------------------------------------

-- the own price of what stands at a legging place; none where it is free
unfoldable pub own_price : Legging → ℕ
own_price l = if held l.quantity then l.price else 0

-- the best own price of a side, "legging included"
unfoldable pub best_own : Venue → (series side : ℕ) → ℕ
best_own v s d = better_of d (own_price (legging_at v s d)) (best_regular v s d)

-- request (g): the size, "shown and legging", at that price
unfoldable pub own_size : Venue → (series side : ℕ) → ℕ
own_size v s d =
    let p = best_own v s d in
    let l = legging_at v s d in
    size_in s d p v.regular + (if eqb (own_price l) p then l.quantity else 0)

-- "clear price: the best regular price, absent if there is none or if a legging order of that side has a strictly better own price";
-- the filing's "best displayed bid or offer (other than Legging Orders)", (C)(1)(ii) and (C)(4)(ii)
unfoldable pub clear_price : Venue → (series side : ℕ) → ℕ
clear_price v s d =
    let best = best_regular v s d in
    if better d (own_price (legging_at v s d)) best then 0 else best

-- "Displayed price of a legging order: its own, down (buy) or up (sell) to the increment"; (C)(2): "rounded to the nearest minimum
-- increment", and which way by the filing's Item 3
unfoldable pub displayed_price : (increment side price : ℕ) → ℕ
displayed_price i d p = if eqb d buy then p / i * i else (p + (i - 1)) / i * i

-- "down (buy) or up (sell) to the increment": a multiple of it, not above the price to buy, not below it to sell, and less than one
-- increment away
pub record Rounds (increment side price rounded : ℕ) : Type 0 where
  pub multiple : rounded % increment ≡ 0
  pub down : eqb side buy ≡ true → (rounded ≤ price) × (price < rounded + increment)
  pub up : eqb side buy ≡ false → (price ≤ rounded) × (rounded < price + increment)

-- "the rounding to an increment … be proved those of document 01 for every … price, side and series" (request (c)): of every increment,
-- and no other price is so rounded
abbrev pub DisplayedRounds : Type 0
DisplayedRounds = (i d p : ℕ) → 0 < i → Rounds i d p (displayed_price i d p) × ((r : ℕ) → Rounds i d p r → r ≡ displayed_price i d p)

-- The market and the band ---------------------------------------------------------------------

-- the away price of a side
unfoldable pub away : Venue → (series side : ℕ) → ℕ
away v s d =
    let x = listed_at v s in
    if eqb d buy then x.bid else x.offer

-- "Market best: the better of away and best regular."
unfoldable pub market_best : Venue → (series side : ℕ) → ℕ
market_best v s d = better_of d (away v s d) (best_regular v s d)

-- what a leg adds to the net: sign × price; request (g): "the net weighs each leg by its ratio"
unfoldable pub weighed : (ratio side price : ℕ) → ℤ
weighed r d p = sign_times d (pos (r * p))

-- "Net = the sum over both legs of sign × price": of prices a and b at the legs of c
unfoldable pub net : Complex → (a b : ℕ) → ℤ
net c a b = weighed c.ratio1 c.side1 a +ℤ weighed c.ratio2 c.side2 b

-- "the market bests that the legs would take"
unfoldable pub taken1 : Venue → Complex → ℕ
taken1 v c = market_best v c.series1 (opposite c.side1)

unfoldable pub taken2 : Venue → Complex → ℕ
taken2 v c = market_best v c.series2 (opposite c.side2)

-- "100t ≤ 100·O + 5·|O|", with a percentage
unfoldable pub near_net : (percent : ℕ) (O t : ℤ) → Bool
near_net x O t = le_z (pos 100 *ℤ t) (pos 100 *ℤ O +ℤ pos (x * nat_abs O))

-- "O = net of the market bests that the legs would take. A net t is in band when 100t ≤ 100·O + 5·|O| (ACE of 5 percent);
-- never if a market best is missing." The ACE parameter of (C)(2)(iii) and (C)(4)(v); its percentage is the one in force.
unfoldable pub in_band : Venue → Complex → (t : ℤ) → Bool
in_band v c t =
    let a = taken1 v c in
    let b = taken2 v c in
    held a && held b && near_net (percent v) (net c a b) t
