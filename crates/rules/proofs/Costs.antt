-- What each effect costs, at its rates: nothing, but for the trades and the pair of a hit or of an order's last round of legging in, a new order's own worth,
-- and what is generated.
use Rattle.std.specs.Prelude.{if◌then◌else◌}
use mathlib.Core.Path.{◌∙◌, ◌≡◌, ap, refl, subst, sym}
use mathlib.Core.Bool.{Bool, true, false, ◌&&◌}
use mathlib.Core.Logic.{◌≢◌}
use mathlib.Core.List.{List, [], ◌∷◌}
use Prim.Native.Nat.{ℕ, zero, suc, ◌+◌, ◌*◌, ◌/◌, ◌≤◌, ◌<◌, min}
use native.Mathlib.Omega.{arith}
use native.Mathlib.Decide.{dec_le}
use native.Mathlib.Nat.{div-one}
use lib.Dec.{eqb}
use lib.IntN.{ℤ}
use lib.ListN.{get_or}
use borrow.Author.Tests.{eqb-true}
use Rattle.rules.specs.declared.Complex.{Complex}
use Rattle.rules.specs.declared.Legging.{Legging}
use Rattle.rules.specs.declared.Venue.{Venue}
use Rattle.rules.specs.declared.Cause.{Cause}
use Rattle.rules.specs.declared.Cause.TheVariants.{Executed}
use Rattle.rules.specs.Base.{held}
use Rattle.rules.specs.Words.{opposite, no_complex, one_to_one, regular_at, complex_at}
use Rattle.rules.specs.Prices.{best_regular, best_size, size_in, net}
use Rattle.rules.specs.Records.{Report, trade, pair, crossed}
use Rattle.rules.specs.Effects.{Effect, nothing, report, ◌⟫◌, Turn, ended, turned, repeat}
use Rattle.rules.specs.Removal.{remove, remove_of}
use Rattle.rules.specs.Standing.{settle}
use Rattle.rules.specs.Trading.{fill_regular, fill_complex, trade_at_price, pair_off}
use Rattle.rules.specs.Order.{at_once, meet, hit}
use Rattle.rules.specs.Complex.{crosses, cross, cross_turn, touches, touch, legs_in, leg_in, units_in, leg_in_turn, any_closed, work, each_of}
use Rattle.rules.proofs.Tests.{and_l, and_r, held-pos}
use Rattle.rules.proofs.Picking.{At}
use Rattle.rules.specs.Lengths.{record_length, per_round, per_regular}
use Rattle.rules.proofs.Summing.{sum, sum_mono, due-held}
use Rattle.rules.proofs.Worth.{worth, fill-le, fills-free, fill_c-le, even-frees, fills_c-free, spent, spent-nothing, spent-report, spent-then, spent-remove, spent-lower, spent-settle}
use Rattle.rules.proofs.Sizes.{best-some}
use Rattle.rules.proofs.TradingLaws.{chain-elsewhere, at-price-chain}
use Rattle.rules.proofs.Cases.{cross_turn-by, if-by, repeat-by}
use Rattle.rules.proofs.Ending.{legs-facts, units-some}
use Rattle.rules.proofs.Filling.{FewerC, SameLegs, cx, fewer_c-refl, fill-fewer_c, still-held_c}
use Rattle.rules.proofs.EffectsLaws.{keeps-crossing, keeps-touch}
use Rattle.rules.proofs.Pairing.{leg_in-filled}
use Rattle.rules.proofs.Stopping.{all_in, stops}
use Rattle.rules.proofs.Sweeping.{fewer-lasts, work-fewer}
use Rattle.rules.proofs.Spending.{spare, trade-spent, at-price-cheap, at-price-empties}

-- c bytes more than the venue was worth
unfoldable pub Costs : (a b c : ℕ) → Venue → Effect → Type 0
Costs a b c v e = spent a b e ≤ worth a b v + c

module _ (a b : ℕ) where
  pub costs-then : (c d : ℕ) (v : Venue) (e : Effect) (f : Venue → Effect) → Costs a b c v e → Costs a b d e.venue (f e.venue) → Costs a b (c + d) v (e ⟫ f)
  unfolding Costs
  costs-then c d v e f h k = let z = spent-then a b e f in omega arith

  pub costs-more : (c d : ℕ) (v : Venue) (e : Effect) → c ≤ d → Costs a b c v e → Costs a b d v e
  unfolding Costs
  costs-more c d v e le h = omega arith

  pub costs-nothing : (v : Venue) → Costs a b 0 v (nothing v)
  unfolding Costs
  costs-nothing v = let z = spent-nothing a b v in omega arith

  pub costs-remove : (f : ℕ → Legging → _) (v : Venue) → Costs a b 0 v (remove f v)
  unfolding Costs
  costs-remove f v = let z = spent-remove a b f v in omega arith

  pub costs-remove_of : (id : ℕ) (c : Cause) (v : Venue) → Costs a b 0 v (remove_of id c v)
  unfolding remove_of
  costs-remove_of id c v = costs-remove _ v

  -- a record, and the removals of one party or of two
  pub report-then : (r : Report) (w : Venue) (f : Venue → Effect) → Costs a b 0 w (f w) → spent a b (report r w ⟫ f) ≤ record_length r + worth a b w
  unfolding Costs report
  report-then r w f h = let x = spent-report a b r w in let y = spent-then a b (report r w) f in omega arith

  pub costs-report : (r : Report) (v w : Venue) → worth a b w ≤ worth a b v → Costs a b (record_length r) v (report r w)
  unfolding Costs
  costs-report r v w h = let z = spent-report a b r w in omega arith

  pub costs-at-price : 22 ≤ a → (fuel x s d p k : ℕ) (v : Venue) → Costs a b 22 v (trade_at_price fuel x s d p k v)
  unfolding Costs
  costs-at-price pays fuel x s d p k v = at-price-cheap a b pays x s d p fuel k v

  pub pair-spent : (i id : ℕ) (n : ℤ) (k : ℕ) (v : Venue) → spent a b (pair_off i id n k v) ≤ 16 + worth a b (fill_complex i k v)
  unfolding pair_off record_length
  pair-spent i id n k v = report-then (pair id n k) (fill_complex i k v) (remove_of id Executed) (costs-remove_of id Executed (fill_complex i k v))

  pub costs-pair : (i id : ℕ) (n : ℤ) (k : ℕ) (v : Venue) → Costs a b 16 v (pair_off i id n k v)
  unfolding Costs
  costs-pair i id n k v = let y = pair-spent i id n k v in let z = fill_c-le a b i k v in omega arith

-- what is done, and then settling: regular orders have paid
pub settled-costs : (a b c : ℕ) (v : Venue) (e : Effect) → Costs a b c v e → spent 0 0 (e ⟫ settle) ≤ worth a b v + c
unfolding Costs
settled-costs a b c v e h = let x = spent-then 0 0 e settle in let y = spent-settle e.venue in let z = spent-lower a b e in omega arith

-- Order ---------------------------------------------------------------------------------------

-- the rates of an order's matching: a resting order trades with it twice at most, what it shows and then its reserve
abbrev pub per_trade : ℕ
per_trade = 22

-- an order met: the taker is gone, or what the maker shows, or all of it
pub costs-meet : (i j k : ℕ) (v : Venue) → i ≢ j → 0 < (regular_at v i).quantity → 0 < (regular_at v j).quantity →
    k ≡ min (regular_at v i).quantity (at_once (regular_at v j)) → Costs per_trade per_trade 0 v (meet i j k v)
unfolding Costs meet
costs-meet i j k v ne p q e =
    let t = trade-spent per_trade per_trade (regular_at v i).id (regular_at v i).side j k (fill_regular i k v) in
    let f = fills-free per_trade per_trade i k v per_trade (omega arith) (omega arith) j ne p q e in
    omega arith

-- a hit: two trades and the pair, beside the trades that leave their maker nothing shown
pub costs-hit : (i : ℕ) (l : Legging) (k : ℕ) (v : Venue) → Costs per_trade per_trade 60 v (hit i l k v)
unfolding hit record_length
costs-hit i l k v =
    costs-then _ _ 44 16 v _ _
    (costs-then _ _ 22 22 v _ _
    (costs-report _ _ (trade _ _ _ k _ _) v (fill_regular i k v) (fill-le per_trade per_trade i k v))
    (costs-at-price _ _ (omega arith) k _ _ _ _ k _))
    (costs-pair _ _ _ _ _ k _)

-- Complex -------------------------------------------------------------------------------------

-- the rates of a complex order's work: it takes shown size only
abbrev pub Works : (c : ℕ) → Venue → Effect → Type 0
Works = Costs per_regular 0

-- a cross: a party's place is freed
pub costs-cross : (i j k : ℕ) (v : Venue) → 0 < (complex_at v i).quantity → 0 < (complex_at v j).quantity →
    k ≡ min (complex_at v i).quantity (complex_at v j).quantity → Works 0 v (cross i j k v)
unfolding Costs cross record_length
costs-cross i j k v p q e =
    let w = fill_complex j k (fill_complex i k v) in
    let r : Works 20 w (cross i j k v) =
    costs-then _ _ 20 0 w _ _ (costs-then _ _ 20 0 w _ _ (costs-report _ _ (crossed _ _ _ k) w w (omega arith)) (costs-remove_of _ _ _ Executed _)) (costs-remove_of _ _ _ Executed _) in
    let f = fills_c-free per_regular 0 i k v j p q e in
    omega arith

pub costs-touch : (i : ℕ) (v : Venue) → Works 0 v (touch i v)
unfolding touch
costs-touch i v = if-by (Works 0 v) (touches v (complex_at v i)) (λ _. costs-remove _ _ _ v) (λ _. costs-nothing _ _ v)

-- what an order's last round of legging in may cost: of one that is one to one each round pays for itself
unfoldable pub share : Complex → ℕ
share c = if one_to_one c then 0 else per_round

pub share-most : (c : Complex) → share c ≤ per_round
unfolding share
share-most c = go (one_to_one c)
  where
    go : (b : Bool) → (if b then 0 else per_round) ≤ per_round
    go true = omega arith
    go false = omega arith

pub share-same : {c e : Complex} → SameLegs c e → share c ≡ share e
unfolding share one_to_one
share-same l = rw (l.ratio1, l.ratio2)

-- what the next round may cost yet
unfoldable ahead : (i : ℕ) → Venue → ℕ
ahead i v = elim (leg_in_turn i v) as (λ _. ℕ) [ ended ↦ 0 | turned e ↦ share (complex_at v i) ]

ahead-most : (i : ℕ) (v : Venue) → ahead i v ≤ share (complex_at v i)
unfolding ahead
ahead-most i v = go (leg_in_turn i v)
  where
    go : (t : Turn) → (elim t as (λ _. ℕ) [ ended ↦ 0 | turned e ↦ share (complex_at v i) ]) ≤ share (complex_at v i)
    go ended = omega arith
    go (turned e) = omega arith

ahead_none : (i : ℕ) (v : Venue) → leg_in_turn i v ≡ ended → ahead i v ≡ 0
unfolding ahead
ahead_none i v e = rw (e, ahead)

ahead-some : (i : ℕ) (v : Venue) (g : Effect) → leg_in_turn i v ≡ turned g → ahead i v ≡ share (complex_at v i)
unfolding ahead
ahead-some i v g e = rw (e, ahead)

-- a round of legging in
module _ (i : ℕ) (v : Venue) where
  abbrev c : Complex
  c = complex_at v i

  abbrev a : ℕ
  a = best_regular v c.series1 (opposite c.side1)

  abbrev b : ℕ
  b = best_regular v c.series2 (opposite c.side2)

  abbrev size1 : ℕ
  size1 = best_size v c.series1 (opposite c.side1)

  abbrev size2 : ℕ
  size2 = best_size v c.series2 (opposite c.side2)

  -- the contracts of each leg for k units
  abbrev first-leg : (k : ℕ) → Effect
  first-leg k = trade_at_price (c.ratio1 * k) c.id c.series1 c.side1 a (c.ratio1 * k) v

  abbrev second-leg : (k : ℕ) → Effect
  second-leg k = trade_at_price (c.ratio2 * k) c.id c.series2 c.side2 b (c.ratio2 * k) (first-leg k).venue

  abbrev paid : Effect → ℕ
  paid = spent per_regular 0

  abbrev worths : Venue → ℕ
  worths = worth per_regular 0

  -- the three parts together
  leg_in-spent : (k : ℕ) → paid (leg_in i a b k v) + worths (first-leg k).venue + worths (second-leg k).venue ≤
      paid (first-leg k) + paid (second-leg k) + (16 + worths (fill_complex i k (second-leg k).venue))
  unfolding leg_in ◌⟫◌
  leg_in-spent k =
      let x = spent-then per_regular 0 (first-leg k) (trade_at_price (c.ratio2 * k) c.id c.series2 c.side2 b (c.ratio2 * k)) in
      let y = spent-then per_regular 0 (first-leg k ⟫ trade_at_price (c.ratio2 * k) c.id c.series2 c.side2 b (c.ratio2 * k)) (pair_off i c.id (net c a b) k) in
      let z = pair-spent per_regular 0 i c.id (net c a b) k (second-leg k).venue in
      omega arith

  -- taking leaves the complex orders as they were
  same-complex : (k : ℕ) → complex_at (second-leg k).venue i ≡ c
  unfolding complex_at
  same-complex k =
      let x = (chain-elsewhere (at-price-chain c.id c.series1 c.side1 a (c.ratio1 * k) (c.ratio1 * k) v)).complex in
      let y = (chain-elsewhere (at-price-chain c.id c.series2 c.side2 b (c.ratio2 * k) (c.ratio2 * k) (first-leg k).venue)).complex in
      ap (λ (l : List Complex). get_or l i no_complex) (y ∙ x)

  -- and the second leg's level, in another series
  same_size : (k : ℕ) → c.series1 ≢ c.series2 → size_in c.series2 (opposite c.side2) b (first-leg k).venue.regular ≡ size2
  unfolding best_size
  same_size k ne = (chain-elsewhere (at-price-chain c.id c.series1 c.side1 a (c.ratio1 * k) (c.ratio1 * k) v)).size c.series2 (opposite c.side2) b ne

  -- one to one, a round uses up the order or all of a level
  even-uses : one_to_one c ≡ true → units_in v c < c.quantity → c.ratio1 * units_in v c < size1 → c.ratio2 * units_in v c < size2 → ⊥
  unfolding one_to_one units_in
  even-uses e part more1 more2 = go c.ratio1 c.ratio2 (eqb-true _ 1 (and_l _ _ e)) (eqb-true _ 1 (and_r (eqb c.ratio1 1) _ e)) part more1 more2
    where
      go : (r s : ℕ) → r ≡ 1 → s ≡ 1 → let k = min c.quantity (min (size1 / r) (size2 / s)) in k < c.quantity → r * k < size1 → s * k < size2 → ⊥
      go r s x y = rw (x, y, div-one size1, div-one size2) (λ p q t. omega arith)

  -- A round for the units that are filled pays for itself where it frees an order that is one to one or empties a level; else it costs its two last trades
  -- and its pair, and is the last one.
  leg_in-round : c.series1 ≢ c.series2 → held c.quantity ≡ true → held a ≡ true → held b ≡ true → 0 < units_in v c →
      paid (leg_in i a b (units_in v c) v) + ahead i (leg_in i a b (units_in v c) v).venue ≤ worths v + share c
  unfolding best_size best_regular complex_at
  leg_in-round ne h ha hb some = go (one_to_one c) refl (dec_le c.quantity k) (dec_le size1 (c.ratio1 * k)) (dec_le size2 (c.ratio2 * k))
    where
      k : ℕ
      k = units_in v c

      x1 : paid (first-leg k) ≤ worths v + 22
      x1 = at-price-cheap per_regular 0 (omega arith) c.id c.series1 c.side1 a (c.ratio1 * k) (c.ratio1 * k) v

      x2 : paid (second-leg k) ≤ worths (first-leg k).venue + 22
      x2 = at-price-cheap per_regular 0 (omega arith) c.id c.series2 c.side2 b (c.ratio2 * k) (c.ratio2 * k) (first-leg k).venue

      z : worths (fill_complex i k (second-leg k).venue) ≤ worths (second-leg k).venue
      z = fill_c-le per_regular 0 i k (second-leg k).venue

      more : ahead i (leg_in i a b k v).venue ≤ share c
      more =
          let x = ahead-most i (leg_in i a b k v).venue in
          let f : FewerC (leg_in i a b k v).venue.complex v.complex = rw (leg_in-filled v i a b k) (fill-fewer_c i k v) in
          omega (arith, share-same (f.lesser i).legs)

      last : leg_in_turn i (leg_in i a b k v).venue ≡ ended → one_to_one c ≡ false → paid (leg_in i a b k v) + ahead i (leg_in i a b k v).venue ≤ worths v + share c
      last e odd =
          let n = ahead_none i _ e in
          let s : share c ≡ per_round = unfold share in (rw odd) in
          omega (arith, leg_in-spent k, x1, x2, z)

      go : (t : Bool) → one_to_one c ≡ t → Dec (c.quantity ≤ k) → Dec (size1 ≤ c.ratio1 * k) → Dec (size2 ≤ c.ratio2 * k) →
          paid (leg_in i a b k v) + ahead i (leg_in i a b k v).venue ≤ worths v + share c
      go true e (yes whole) y1 y2 =
          let s = same-complex k in
          let q = held-pos c.quantity h in
          let f = even-frees per_regular 0 i k (second-leg k).venue (rw s e) (rw s q) (rw s whole) in
          omega (arith, leg_in-spent k, x1, x2, more)
      go false e (yes whole) y1 y2 = last (all_in i v h whole) e
      go _ _ (no part) (yes all) y2 =
          let f = at-price-empties per_regular 0 (omega arith) c.id c.series1 c.side1 a (c.ratio1 * k) (c.ratio1 * k) v all (omega arith) in
          omega (arith, leg_in-spent k, x2, z, due-held spare size1 (best-some v _ _ ha), more)
      go _ _ (no part) (no more1) (yes all) =
          let s = same_size k ne in
          let f = at-price-empties per_regular 0 (omega arith) c.id c.series2 c.side2 b (c.ratio2 * k) (c.ratio2 * k) (first-leg k).venue (omega arith) (omega arith) in
          omega (arith, leg_in-spent k, x1, z, due-held spare (size_in c.series2 (opposite c.side2) b (first-leg k).venue.regular) (omega (arith, best-some v _ _ hb)), more)
      go true e (no part) (no more1) (no more2) = absurd (even-uses e (omega arith) (omega arith) (omega arith))
      go false e (no part) (no more1) (no more2) = last (stops i v h ne ha hb some (omega arith) (omega arith) (omega arith)) e

-- Loops ---------------------------------------------------------------------------------------

-- a turn upon v leaves P, and costs nothing beside what `extra` falls by
abbrev pub Turned : (a b : ℕ) (P : Venue → Type 0) (extra : Venue → ℕ) → Venue → Turn → Type 0
Turned a b P extra v ended = Unit {0}
Turned a b P extra v (turned e) = P e.venue × (spent a b e + extra e.venue ≤ worth a b v + extra v)

pub repeat-costs : (a b : ℕ) (P : Venue → Type 0) (extra : Venue → ℕ) (turn : Venue → Turn) → ((v : Venue) → P v → Turned a b P extra v (turn v)) →
    (fuel : ℕ) (v : Venue) → P v → spent a b (repeat fuel turn v) ≤ worth a b v + extra v
repeat-costs a b P extra turn ok zero v h = unfold repeat in (let z = spent-nothing a b v in omega arith)
repeat-costs a b P extra turn ok (suc fuel) v h =
    repeat-by (λ e. spent a b e ≤ worth a b v + extra v) fuel turn v (λ _. let z = spent-nothing a b v in omega arith)
    (λ e is.
    let k = subst (Turned a b P extra v) is (ok v h) in
    let z = spent-then a b e (repeat fuel turn) in
    omega (arith, repeat-costs a b P extra turn ok fuel e.venue k.0, k.1))

-- a turn that costs nothing
abbrev Free : Venue → Turn → Type 0
Free v ended = Unit {0}
Free v (turned e) = Works 0 v e

pub repeat-free : (turn : Venue → Turn) → ((v : Venue) → Free v (turn v)) → (fuel : ℕ) (v : Venue) → Works 0 v (repeat fuel turn v)
unfolding Costs
repeat-free turn ok fuel v = repeat-costs per_regular 0 (λ _. Unit {0}) (λ _. 0) turn (λ w _. go w (turn w) (ok w)) fuel v tt
  where
    go : (w : Venue) (t : Turn) → Free w t → Turned per_regular 0 (λ _. Unit {0}) (λ _. 0) w t
    go w ended h = tt
    go w (turned e) h = (tt, omega arith)

crossing-some : (i : ℕ) (v : Venue) (j : ℕ) (m : Complex) → At no_complex (crosses v (complex_at v i)) v.complex j m →
    ((complex_at v j).quantity ≡ m.quantity) × (0 < m.quantity)
unfolding complex_at crosses
crossing-some i v j m a =
    let z = a.is in
    (ap (λ (x : Complex). x.quantity) a.at, held-pos m.quantity (search (and_l, and_r, z)))

cross_turn-free : (i : ℕ) (v : Venue) → Free v (cross_turn i v)
cross_turn-free i v =
    cross_turn-by (Free v) i v (λ _. tt) (λ _ _. tt)
    (λ h j m a. let z = crossing-some i v j m a in costs-cross i j _ v (held-pos (complex_at v i).quantity h) (omega arith) (omega arith))

-- a resting order has its legs in two series
unfoldable pub Apart : (i : ℕ) → Venue → Type 0
Apart i v = held (cx v i).quantity ≡ true → (cx v i).series1 ≢ (cx v i).series2

pub apart-fewer : (i : ℕ) (v w : Venue) → FewerC w.complex v.complex → Apart i v → Apart i w
unfolding Apart
apart-fewer i v w f two h = let l = f.lesser i in λ e. two (still-held_c l h) (sym l.legs.series1 ∙ e ∙ l.legs.series2)

abbrev Round : (i : ℕ) → Venue → Turn → Type 0
Round i v ended = Unit {0}
Round i v (turned e) = Apart i e.venue × (spent per_regular 0 e + ahead i e.venue ≤ worth per_regular 0 v + share (complex_at v i))

leg_in_turn-round : (i : ℕ) (v : Venue) → Apart i v → Round i v (leg_in_turn i v)
unfolding leg_in_turn
leg_in_turn-round i v two =
    let c = complex_at v i in
    if-by (Round i v) (legs_in v c (a i v) (b i v) && held (units_in v c))
    (λ e.
    let h = legs-facts v c (a i v) (b i v) (and_l _ (held (units_in v c)) e) in (
      apart-fewer i v _ (rw (leg_in-filled v i (a i v) (b i v) (units_in v c)) (fill-fewer_c i (units_in v c) v)) two,
      leg_in-round i v (unfold Apart complex_at in (two h.0)) h.0 h.1 h.2 (units-some v c (a i v) (b i v) e),
    ))
    (λ _. tt)

legging-costs : (i fuel : ℕ) (v : Venue) → Apart i v → Works (share (complex_at v i)) v (repeat fuel (leg_in_turn i) v)
unfolding Costs
legging-costs i fuel v two =
    let z = ahead-most i v in
    omega (arith, repeat-costs per_regular 0 (Apart i) (ahead i) (leg_in_turn i) (λ w x. go w (leg_in_turn i w) refl (leg_in_turn-round i w x)) fuel v two)
  where
    go : (w : Venue) (t : Turn) → leg_in_turn i w ≡ t → Round i w t → Turned per_regular 0 (Apart i) (ahead i) w t
    go w ended e h = tt
    go w (turned g) e h = (h.0, (let x = h.1 in omega (arith, ahead-some i w g e)))

-- crossing and touching
before-legging : (i n : ℕ) (v : Venue) → FewerC (repeat n (cross_turn i) v ⟫ touch i).venue.complex v.complex
unfolding ◌⟫◌
before-legging i n v = keeps-touch (fewer-lasts v) i _ (keeps-crossing (fewer-lasts v) i n v (fewer_c-refl _))

-- the work of an order: its last round of legging in may not be paid for
pub costs-work : (i : ℕ) (v : Venue) → Apart i v → Works (share (complex_at v i)) v (work i v)
unfolding work
costs-work i v two =
    let n = (complex_at v i).quantity in
    let f = before-legging i n v in
    let same : share (complex_at (repeat n (cross_turn i) v ⟫ touch i).venue i) ≡ share (complex_at v i) = unfold complex_at in (share-same (f.lesser i).legs) in
    if-by (Works (share (complex_at v i)) v) (any_closed v (complex_at v i)) (λ _. costs-more _ _ 0 _ v _ (omega arith) (costs-nothing _ _ v))
    (λ _. costs-more _ _ (0 + share (complex_at v i)) _ v _ (omega arith)
    (costs-then _ _ 0 (share (complex_at v i)) v _ _ (costs-then _ _ 0 0 v _ _ (repeat-free (cross_turn i) (cross_turn-free i) n v) (costs-touch i _))
    (costs-more _ _ _ _ _ _ (omega (arith, same)) (legging-costs i n _ (apart-fewer i v _ f two)))))

-- the work of a sweep
pub costs-works : (places : List ℕ) (v : Venue) → ((i : ℕ) → Apart i v) → Works (sum (λ i. share (cx v i)) places) v (each_of work places v)
unfolding each_of sum
costs-works [] v two = costs-nothing _ _ v
costs-works (i ∷ places) v two =
    let f = work-fewer i v in
    let own : share (complex_at v i) ≡ share (cx v i) = unfold complex_at in refl in
    let rest = sum_mono (λ j. share (cx v j)) (λ j. share (cx (work i v).venue j)) (λ j. let e = share-same (f.lesser j).legs in omega arith) places in
    costs-more _ _ (share (complex_at v i) + sum (λ j. share (cx (work i v).venue j)) places) (share (cx v i) + sum (λ j. share (cx v j)) places) v _ (omega arith)
    (costs-then _ _ _ _ v (work i v) (each_of work places) (costs-work i v (two i)) (costs-works places _ (λ j. apart-fewer j v _ f (two j))))
