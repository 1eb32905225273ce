-- A pair of k units: in the records the contracts in each of the two series are those paired by the leg's ratio, what is open of the complex order falls
-- by as many, and its legging orders go. Here for a leg-in step; `Hitting` has the hit.
use Rattle.std.specs.Prelude.{if◌then◌else◌}
use mathlib.Core.Path.{◌∙◌, ◌≡◌, ap, refl, sym}
use mathlib.Core.Bool.{Bool, false, true}
use mathlib.Core.Logic.{◌≢◌}
use mathlib.Core.List.{List}
use Prim.Native.Nat.{◌*◌, ◌+◌, ◌<◌, ◌≤◌, ℕ}
use native.Mathlib.Omega.{arith}
use lib.Dec.{eqb}
use lib.IntN.{ℤ}
use lib.ListN.{length}
use borrow.Author.Tests.{eqb-false, eqb-true}
use Rattle.rules.specs.declared.Complex.{Complex}
use Rattle.rules.specs.declared.Venue.{Venue}
use Rattle.rules.specs.Base.{held}
use Rattle.rules.specs.Words.{complex_at, opposite, with_complex, with_legging}
use Rattle.rules.specs.Records.{Report, trade}
use Rattle.rules.specs.Effects.{Effect, ◌⟫◌, report}
use Rattle.rules.specs.Prices.{net, size_in}
use Rattle.rules.specs.Removal.{remove, remove_of}
use Rattle.rules.specs.Trading.{fill_complex, pair_off, trade_at_price}
use Rattle.rules.specs.Complex.{leg_in}
use Rattle.rules.specs.Sums.{cancelled_of, contracts, crossed_for, open_complex, open_regular, paired, total}
use Rattle.rules.proofs.Adding.{open-fill_c, remove-silent, total-append, total-then}
use Rattle.rules.proofs.Filling.{Fewer, cx, fewer-trans, fewer_c-refl, fill-fewer_c, lg}
use Rattle.rules.proofs.Ledger.{ComplexId, Moves, RegularId, Settles, cx-kept, ratio-none, reg-kept}
use Rattle.rules.proofs.Moving.{chain-cx, chain-reg}
use Rattle.rules.proofs.Removing.{stay_of}
use Rattle.rules.proofs.TradingLaws.{Chain, chain-elsewhere, chain-fewer, chain-last, chain-other, chain-silent, at-price-chain, at-price-total}

-- The 66 and the removals ---------------------------------------------------------------------

-- what records tell of a pair: k pairs of this id, and nothing else is counted
pub record Tells (id k : ℕ) (rs : List Report) : Type 0 where
  pub pairs : (y : ℕ) → total (paired y) rs ≡ (if eqb id y then k else 0)
  pub contracts0 : (y s : ℕ) → total (contracts y s) rs ≡ 0
  pub crossed0 : (y : ℕ) → total (crossed_for y) rs ≡ 0
  pub cancelled0 : (y : ℕ) → total (cancelled_of y) rs ≡ 0

module _ (i id : ℕ) (n : ℤ) (k : ℕ) (v : Venue) where
  -- "then 66": its quantity is the k that was traded and filled
  pub pair-tells : Tells id k (pair_off i id n k v).reports
  unfolding pair_off report total contracts paired crossed_for cancelled_of
  pair-tells = record {
    pairs = λ y. rw (total-then, remove-silent (paired y) (λ _ _ _ _. refl)) (omega arith);
    contracts0 = λ y s. rw (total-then, remove-silent (contracts y s) (λ _ _ _ _. refl));
    crossed0 = λ y. rw (total-then, remove-silent (crossed_for y) (λ _ _ _ _. refl));
    cancelled0 = λ y. rw (total-then, remove-silent (cancelled_of y) (λ _ _ _ _. refl));
  }

  pub pair-regular : (pair_off i id n k v).venue.regular ≡ v.regular
  unfolding pair_off report ◌⟫◌ remove_of remove with_legging fill_complex with_complex
  pair-regular = refl

  pub pair-complex : (pair_off i id n k v).venue.complex ≡ (fill_complex i k v).complex
  unfolding pair_off report ◌⟫◌ remove_of remove with_legging
  pair-complex = refl

  pub pair-last : (pair_off i id n k v).venue.last ≡ v.last
  unfolding pair_off report ◌⟫◌ remove_of remove with_legging fill_complex with_complex
  pair-last = refl

  -- "then removal of all its parent's legging orders (cause 3)": none of them is left
  pub pair-removes : (place : ℕ) → held (lg (pair_off i id n k v).venue place).quantity ≡ true →
      (lg (pair_off i id n k v).venue place ≡ lg v place) × ((lg (pair_off i id n k v).venue place).parent ≢ id)
  unfolding pair_off report ◌⟫◌ remove_of remove with_legging fill_complex with_complex
  pair-removes place h = stay_of id _ 0 v.legging place h

-- Trades for k of the complex order at place j, and its pair ----------------------------------

-- the records rs from v to w trade and pair k of the order at place j
pub record Pairs (v : Venue) (j k : ℕ) (rs : List Report) (w : Venue) : Type 0 where
  pub first : total (contracts (cx v j).id (cx v j).series1) rs ≡ (cx v j).ratio1 * k
  pub second : total (contracts (cx v j).id (cx v j).series2) rs ≡ (cx v j).ratio2 * k
  pub others : (m : Complex) → (cx v j).id ≢ m.id → ComplexId m v → (s : ℕ) → total (contracts m.id s) rs ≡ 0
  pub pairs : (y : ℕ) → total (paired y) rs ≡ (if eqb (cx v j).id y then k else 0)
  pub crosses : (y : ℕ) → total (crossed_for y) rs ≡ 0
  pub cancels : (y : ℕ) → total (cancelled_of y) rs ≡ 0
  pub filled : w.complex ≡ (fill_complex j k v).complex

-- so they settle the account of every complex order
pub pairs-settle : {v : Venue} (j k : ℕ) {rs : List Report} {w : Venue} → j < length v.complex → held (cx v j).quantity ≡ true → k ≤ (cx v j).quantity →
    Pairs v j k rs w → (m : Complex) → ComplexId m v → Settles m v rs w
pairs-settle {v} j k {rs} {w} fits h enough p m r = go (eqb (cx v j).id m.id) refl
  where
    fall : open_complex m.id v.complex ≡ open_complex m.id w.complex + (total (paired m.id) rs + total (crossed_for m.id) rs + total (cancelled_of m.id) rs)
    fall = rw (ap (open_complex m.id) p.filled) (omega (arith, open-fill_c j k v m.id fits enough, p.pairs m.id, p.crosses m.id, p.cancels m.id))

    go : (b : Bool) → eqb (cx v j).id m.id ≡ b → Settles m v rs w
    go true e =
        let x=y = eqb-true (cx v j).id m.id e in
        let l = r.home j h x=y in
        let pk = rw e at (p.pairs m.id) in
        record {
          first = rw pk (rw (x=y, l.series1, l.ratio1) at p.first);
          second = rw pk (rw (x=y, l.series2, l.ratio2) at p.second);
          falls = fall;
        }
    go false e =
        let ne = eqb-false (cx v j).id m.id e in
        let pk = rw e at (p.pairs m.id) in
        record {
          first = ratio-none m.ratio1 _ _ (p.others m ne r m.series1) pk;
          second = ratio-none m.ratio2 _ _ (p.others m ne r m.series2) pk;
          falls = fall;
        }

-- A leg-in step -------------------------------------------------------------------------------

-- for k of the order at place i, at prices a and b
pub record LegsIn (v : Venue) (i a b k : ℕ) : Type 0 where
  pub fits : i < length v.complex
  pub holds : held (cx v i).quantity ≡ true
  pub apart : (cx v i).series1 ≢ (cx v i).series2
  pub enough : k ≤ (cx v i).quantity
  pub size1 : (cx v i).ratio1 * k ≤ size_in (cx v i).series1 (opposite (cx v i).side1) a v.regular
  pub size2 : (cx v i).ratio2 * k ≤ size_in (cx v i).series2 (opposite (cx v i).side2) b v.regular

module _ (v : Venue) (i a b k : ℕ) where
  abbrev c : Complex
  c = cx v i

  -- the contracts of each leg
  abbrev k₁ : ℕ
  k₁ = c.ratio1 * k

  abbrev k₂ : ℕ
  k₂ = c.ratio2 * k

  abbrev first-trades : Effect
  first-trades = trade_at_price k₁ c.id c.series1 c.side1 a k₁ v

  abbrev second-trades : Effect
  second-trades = trade_at_price k₂ c.id c.series2 c.side2 b k₂ first-trades.venue

  -- the venue when both legs have traded
  abbrev pub legged : Venue
  legged = second-trades.venue

  ch₁ : Chain c.id c.series1 c.side1 a v first-trades.reports first-trades.venue
  ch₁ = at-price-chain c.id c.series1 c.side1 a k₁ k₁ v

  ch₂ : Chain c.id c.series2 c.side2 b first-trades.venue second-trades.reports legged
  ch₂ = at-price-chain c.id c.series2 c.side2 b k₂ k₂ first-trades.venue

  pub legged-complex : legged.complex ≡ v.complex
  legged-complex = (chain-elsewhere ch₂).complex ∙ (chain-elsewhere ch₁).complex

  pub legged-legging : legged.legging ≡ v.legging
  legged-legging = (chain-elsewhere ch₂).legging ∙ (chain-elsewhere ch₁).legging

  legged-fewer : Fewer legged.regular v.regular
  legged-fewer = fewer-trans (chain-fewer ch₂) (chain-fewer ch₁)

  pub leg_in-venue : (leg_in i a b k v).venue ≡ (pair_off i c.id (net c a b) k legged).venue
  unfolding leg_in ◌⟫◌ complex_at
  leg_in-venue = refl

  -- the 66, and the removals
  abbrev pairing : Effect
  pairing = pair_off i c.id (net c a b) k legged

  tells : Tells c.id k pairing.reports
  tells = pair-tells i c.id (net c a b) k legged

  leg_in-total : (f : Report → ℕ) → total f (leg_in i a b k v).reports ≡ total f first-trades.reports + total f second-trades.reports + total f pairing.reports
  unfolding leg_in ◌⟫◌ complex_at
  leg_in-total f = rw (total-append, total-append)

  -- what counts no trades counts the pair alone
  quiet : (f : Report → ℕ) → ((p q s t x y : ℕ) → f (trade p q s t x y) ≡ 0) → total f (leg_in i a b k v).reports ≡ total f pairing.reports
  quiet f t = omega (arith, leg_in-total f, chain-silent f t ch₁, chain-silent f t ch₂)

  pub leg_in-filled : (leg_in i a b k v).venue.complex ≡ (fill_complex i k v).complex
  leg_in-filled = ap (λ (w : Venue). w.complex) leg_in-venue ∙ pair-complex i c.id (net c a b) k legged ∙ refill
    where
      refill : (fill_complex i k legged).complex ≡ (fill_complex i k v).complex
      refill = unfold fill_complex with_complex complex_at in (rw legged-complex)

  module _ (m : LegsIn v i a b k) where
    -- the first leg's trades leave the second leg's size as it was
    size2' : k₂ ≤ size_in c.series2 (opposite c.side2) b first-trades.venue.regular
    size2' = rw ((chain-elsewhere ch₁).size c.series2 (opposite c.side2) b m.apart) m.size2

    -- in a leg-in step's records the contracts in each series are those paired by the leg's ratio
    pub leg_in-pairs : Pairs v i k (leg_in i a b k v).reports (leg_in i a b k v).venue
    unfolding paired crossed_for cancelled_of
    leg_in-pairs = record {
      first =
          omega (
            arith,
            leg_in-total (contracts c.id c.series1),
            at-price-total c.id c.series1 c.side1 a k₁ k₁ v (omega arith) m.size1,
            chain-other c.id c.series1 (λ e. m.apart (sym e)) ch₂,
            tells.contracts0 c.id c.series1,
          );
      second =
          omega (
            arith,
            leg_in-total (contracts c.id c.series2),
            at-price-total c.id c.series2 c.side2 b k₂ k₂ first-trades.venue (omega arith) size2',
            chain-other c.id c.series2 m.apart ch₁,
            tells.contracts0 c.id c.series2,
          );
      others = λ q ne r s.
          (let r₁ = cx-kept {w = first-trades.venue} (chain-fewer ch₁) (rw (chain-elsewhere ch₁).complex (fewer_c-refl _)) r in
          omega (
            arith,
            leg_in-total (contracts q.id s),
            chain-cx q.id s ne r.none ch₁,
            chain-cx q.id s ne r₁.none ch₂,
            tells.contracts0 q.id s,
          ));
      pairs = λ y. quiet (paired y) (λ _ _ _ _ _ _. refl) ∙ tells.pairs y;
      crosses = λ y. quiet (crossed_for y) (λ _ _ _ _ _ _. refl) ∙ tells.crossed0 y;
      cancels = λ y. quiet (cancelled_of y) (λ _ _ _ _ _ _. refl) ∙ tells.cancelled0 y;
      filled = leg_in-filled;
    }

    leg-orders : (y s : ℕ) → RegularId y s v →
        open_regular y v.regular ≡ open_regular y legged.regular + (total (contracts y s) (leg_in i a b k v).reports + total (cancelled_of y) (leg_in i a b k v).reports)
    leg-orders y s r =
        let x≠y : c.id ≢ y = λ g. r.none i m.holds g in
        let r₁ = reg-kept {w = first-trades.venue} (chain-fewer ch₁) (rw (chain-elsewhere ch₁).complex (fewer_c-refl _)) r in
        omega (
          arith,
          chain-reg y s x≠y r ch₁,
          chain-reg y s x≠y r₁ ch₂,
          leg_in-total (contracts y s),
          tells.contracts0 y s,
          leg_in-pairs.cancels y,
        )

    same-regular : (leg_in i a b k v).venue.regular ≡ legged.regular
    same-regular = ap (λ (w : Venue). w.regular) leg_in-venue ∙ pair-regular i c.id (net c a b) k legged

    pub moves-leg_in : Moves v (leg_in i a b k v)
    moves-leg_in = record {
      regular = rw same-regular legged-fewer;
      complex = rw leg_in-filled (fill-fewer_c i k v);
      last = ap (λ (w : Venue). w.last) leg_in-venue ∙ pair-last i c.id (net c a b) k legged ∙ chain-last ch₂ ∙ chain-last ch₁;
      orders = λ y s r. rw same-regular (leg-orders y s r);
      complexes = pairs-settle i k m.fits m.holds m.enough leg_in-pairs;
    }
