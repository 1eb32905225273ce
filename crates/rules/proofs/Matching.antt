-- What an order's matching costs: what it meets costs nothing, and it hits one legging order at most, whose place is then free.
use Rattle.std.specs.Prelude.{if◌then◌else◌}
use mathlib.Core.Path.{◌∙◌, ◌≡◌, ap, refl, subst, sym}
use mathlib.Core.Bool.{Bool, false, false≢true, true, true≢false}
use mathlib.Core.Logic.{◌≢◌}
use Prim.Native.Nat.{◌+◌, ◌-◌, ◌<◌, ◌≤◌, min, ℕ}
use native.Mathlib.Omega.{arith}
use borrow.Author.Tests.{eqb-true}
use Rattle.rules.specs.declared.Legging.{Legging}
use Rattle.rules.specs.declared.Regular.{Regular}
use Rattle.rules.specs.declared.Venue.{Venue}
use Rattle.rules.specs.Base.{held}
use Rattle.rules.specs.Words.{legging_at, no_regular, opposite, place_of, regular_at, with_complex, with_legging, with_regular}
use Rattle.rules.specs.Prices.{own_price, rests_at}
use Rattle.rules.specs.Effects.{repeat, report, turned}
use Rattle.rules.specs.Removal.{remove}
use Rattle.rules.specs.Standing.{parent_of}
use Rattle.rules.specs.Trading.{fill_complex, fill_regular, free_regular, put_regular, trade_with}
use Rattle.rules.specs.Order.{enter_regular, hit, is_met, legging_first, meet, meet_turn, order}
use Rattle.rules.proofs.Again.{again-fewer}
use Rattle.rules.proofs.Better.{is_false}
use Rattle.rules.proofs.Cases.{meet_turn-by}
use Rattle.rules.proofs.Costs.{Costs, Turned, costs-hit, costs-meet, per_trade, repeat-costs, settled-costs}
use Rattle.rules.proofs.Filling.{fill-fewer, lg, reg}
use Rattle.rules.proofs.Hitting.{hit-removes, hit-stays}
use Rattle.rules.proofs.EffectsLaws.{Lasts, hit-from, meet-from}
use Rattle.rules.proofs.Picking.{At}
use Rattle.rules.proofs.Summing.{due, due-free, due-held, due-most}
use Rattle.rules.proofs.Tests.{and_l, and_r, held-pos}
use Rattle.rules.proofs.Worth.{put-worth, spent, worth}

-- A legging order and its complex order -------------------------------------------------------

-- what stands at place n has its complex order among those that rest
unfoldable pub Housed : (n : ℕ) → Venue → Type 0
Housed n v = held (lg v n).quantity ≡ true → (parent_of v (lg v n)).id ≡ (lg v n).parent

put-housed : (i : ℕ) (o : Regular) (v : Venue) (n : ℕ) → Housed n v → Housed n (put_regular i o v)
unfolding Housed put_regular with_regular parent_of
put-housed i o v n h = h

-- a hit frees the place of the legging order that is hit
hit-frees : (i k : ℕ) (v : Venue) (n : ℕ) → (parent_of v (lg v n)).id ≡ (lg v n).parent → held (lg (hit i (lg v n) k v).venue n).quantity ≡ false
hit-frees i k v n e =
    is_false _ (λ h. hit-removes v i k (lg v n) n h (ap (λ (l : Legging). l.parent) (hit-stays v i k (lg v n) n h) ∙ sym e))

-- Its series and side -------------------------------------------------------------------------

-- the order at place i is of side d of series s
pub record Of (i s d : ℕ) (v : Venue) : Type 0 where
  pub series : (regular_at v i).series ≡ s
  pub side : (regular_at v i).side ≡ d

met_some : (i : ℕ) (v : Venue) (j : ℕ) (m : Regular) → At no_regular (is_met (regular_at v i).series (regular_at v i).side (regular_at v i).price) v.regular j m →
    (regular_at v j ≡ m) × (0 < m.quantity) × (i ≢ j)
unfolding regular_at is_met rests_at opposite
met_some i v j m a =
    let z = a.is in
    let side = eqb-true m.side (1 - (reg v i).side) (search (and_l, and_r, z) depth 6) in
    let at : (reg v j).side ≡ m.side = ap (λ (x : Regular). x.side) a.at in
    (a.at, held-pos m.quantity (search (and_l, and_r, z) depth 6), λ e. (let same : (reg v i).side ≡ (reg v j).side = ap (λ (n : ℕ). (reg v n).side) e in omega arith))

-- where a legging order goes first it has a quantity
own_held : (o : Regular) (x : Legging) (p : ℕ) → legging_first o x p ≡ true → held x.quantity ≡ true
unfolding legging_first own_price
own_held o x p h = go (held x.quantity) (search (and_l, and_r, h))
  where
    go : (b : Bool) → held (if b then x.price else 0) ≡ true → b ≡ true
    go true e = refl
    go false e = absurd (false≢true e)

module _ (i s d : ℕ) where
  -- fills, removals and showing again leave it so
  of_lasts : Lasts (Of i s d)
  unfolding regular_at fill_complex with_complex remove with_legging
  of_lasts = record {
    fill_r = λ j k v h. let z = (fill-fewer j k v).lesser i in record { series = z.series ∙ h.series; side = z.side ∙ h.side };
    fill_c = λ j k v h. record { series = h.series; side = h.side };
    gone = λ f v h. record { series = h.series; side = h.side };
    again = λ v h. let z = (again-fewer v).lesser i in record { series = z.series ∙ h.series; side = z.side ∙ h.side };
  }

  -- Matching ------------------------------------------------------------------------------------

  -- the place of the legging order that it may hit
  abbrev n : ℕ
  n = place_of s (opposite d)

  pub record Ready (v : Venue) : Type 0 where
    pub is : Of i s d v
    pub housed : Housed n v

  -- the bytes of a hit, while it is there
  abbrev extra : Venue → ℕ
  extra v = due 60 (lg v n).quantity

  met : (j k : ℕ) (v : Venue) → Ready v → Costs per_trade per_trade 0 v (meet i j k v) → Turned per_trade per_trade Ready extra v (turned (meet i j k v))
  unfolding Housed parent_of meet trade_with report fill_regular with_regular Costs
  met j k v h c = (record { is = meet-from of_lasts i j k v (of_lasts.fill_r i k v h.is); housed = h.housed }, omega arith)

  hitting : (k : ℕ) (v : Venue) → Ready v → held (lg v n).quantity ≡ true → Turned per_trade per_trade Ready extra v (turned (hit i (lg v n) k v))
  unfolding Housed Costs
  hitting k v h e =
      let f = hit-frees i k v n (h.housed e) in
      let z = due-free 60 (lg (hit i (lg v n) k v).venue n).quantity f in
      let y = due-held 60 (lg v n).quantity (held-pos (lg v n).quantity e) in (
        record { is = hit-from of_lasts i (lg v n) k v (of_lasts.fill_r i k v h.is); housed = λ t. absurd (true≢false (sym t ∙ f)) },
        omega (arith, costs-hit i (lg v n) k v),
      )

  same_place : (v : Venue) → Of i s d v → legging_at v (regular_at v i).series (opposite (regular_at v i).side) ≡ lg v n
  unfolding legging_at
  same_place v h = rw (h.series, h.side)

  turn-costs : (v : Venue) → Ready v → Turned per_trade per_trade Ready extra v (meet_turn i v)
  turn-costs v h =
      meet_turn-by (Turned per_trade per_trade Ready extra v) i v (λ _. tt) (λ _ _ _. tt)
      (λ _ p e.
      let same = same_place v h.is in
      let k = min (regular_at v i).quantity (legging_at v (regular_at v i).series (opposite (regular_at v i).side)).quantity in
      subst (λ (y : Legging). Turned per_trade per_trade Ready extra v (turned (hit i y k v))) (sym same) (hitting k v h (rw same at (own_held _ _ p e))))
      (λ q j m a _.
      let z = met_some i v j m a in
      met j _ v h (costs-meet i j _ v z.2 (held-pos (regular_at v i).quantity q) (rw z.0 z.1) (rw z.0)))

  matching-costs : (fuel : ℕ) (v : Venue) → Ready v → Costs per_trade per_trade 60 v (repeat fuel (meet_turn i) v)
  unfolding Costs
  matching-costs fuel v h = let z = repeat-costs per_trade per_trade Ready extra (meet_turn i) turn-costs fuel v h in let y = due-most 60 (lg v n).quantity in omega arith

-- an order that arrives: its own worth, and one hit
entered : (o : Regular) (v : Venue) → ((n : ℕ) → Housed n v) → Costs per_trade per_trade 104 v (enter_regular o v)
unfolding enter_regular Costs
entered o v h =
    let m = matching-costs i (regular_at w i).series (regular_at w i).side o.quantity w ready in
    let p = put-worth per_trade per_trade i o v in
    omega arith
  where
    i : ℕ
    i = free_regular v

    w : Venue
    w = put_regular i o v

    ready : Ready i (regular_at w i).series (regular_at w i).side w
    ready = record { is = record { series = refl; side = refl }; housed = put-housed i o v _ (h _) }

pub costs-order : (o : Regular) (v : Venue) → ((n : ℕ) → Housed n v) → spent 0 0 (order o v) ≤ worth per_trade per_trade v + 104
unfolding order
costs-order o v h = settled-costs per_trade per_trade 104 v (enter_regular o v) (entered o v h)
