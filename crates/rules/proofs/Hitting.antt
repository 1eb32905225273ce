-- A hit on a legging order for k: its trade, k contracts of the other leg, the pair, and the removal of its parent's legging orders.
use Rattle.std.specs.Prelude.{if◌then◌else◌}
use mathlib.Core.Path.{◌∙◌, ◌≡◌, ap, refl, subst, sym}
use mathlib.Core.Bool.{Bool, ◌||◌, false, true}
use mathlib.Core.Logic.{◌≢◌, ◌⊎◌, inl, inr}
use mathlib.Core.List.{List, ◌++◌, ◌∷◌}
use Prim.Native.Nat.{◌+◌, ◌<◌, ◌≤◌, ℕ}
use native.Mathlib.Nat.{one-mul}
use native.Mathlib.Omega.{arith}
use lib.Dec.{eqb}
use lib.IntN.{ℤ}
use lib.ListN.{get_or, length}
use borrow.Author.Tests.{eq-eqb, eqb-false, eqb-true, ne_eqb}
use Rattle.rules.specs.declared.Cause.TheVariants.{Executed}
use Rattle.rules.specs.declared.Complex.{Complex}
use Rattle.rules.specs.declared.Legging.{Legging}
use Rattle.rules.specs.declared.Regular.{Regular}
use Rattle.rules.specs.declared.Venue.{Venue}
use Rattle.rules.specs.Base.{held, place_where}
use Rattle.rules.specs.Words.{complex_at, is_complex_of, no_legging, opposite, regular_at, with_complex}
use Rattle.rules.specs.Records.{Report, pair, trade}
use Rattle.rules.specs.Effects.{Effect, ◌⟫◌, report}
use Rattle.rules.specs.Prices.{size_in}
use Rattle.rules.specs.Removal.{remove, remove_of}
use Rattle.rules.specs.Standing.{leg_net, other_clear, other_leg, parent_of}
use Rattle.rules.specs.Trading.{fill_complex, fill_regular, pair_off, trade_at_price}
use Rattle.rules.specs.Order.{hit}
use Rattle.rules.specs.Sums.{cancelled_of, contracts, crossed_for, open_regular, paired, total}
use Rattle.rules.proofs.Adding.{count-elsewhere, count-neither, count-taker, open-fill, total-append}
use Rattle.rules.proofs.Filling.{cx, fewer-trans, fill-complex, fill-fewer, fill-fewer_c, fill-last, fill-legging, lg, reg}
use Rattle.rules.proofs.Ledger.{Moves, RegularId}
use Rattle.rules.proofs.Moving.{chain-cx, chain-reg, cx-fill, reg-fill}
use Rattle.rules.proofs.Pairing.{Pairs, Tells, pair-complex, pair-last, pair-regular, pair-removes, pair-tells, pairs-settle}
use Rattle.rules.proofs.Sizes.{fill-elsewhere}
use Rattle.rules.proofs.TradingLaws.{Chain, chain-elsewhere, chain-fewer, chain-last, chain-other, chain-silent, at-price-apart, at-price-chain, at-price-total}

pub other-is₂ : (c : Complex) (s : ℕ) → c.series1 ≡ s → (other_leg c s).series ≡ c.series2
unfolding other_leg
other-is₂ c s h = rw (eq-eqb c.series1 s h, other_leg)

pub other-is₁ : (c : Complex) (s : ℕ) → c.series1 ≢ s → (other_leg c s).series ≡ c.series1
unfolding other_leg
other-is₁ c s h = rw (ne_eqb c.series1 s h, other_leg)

-- The effect, for any venue -------------------------------------------------------------------

module _ (v : Venue) (i k : ℕ) (l : Legging) where
  abbrev o : Regular
  o = reg v i

  -- its complex order, and the other leg
  abbrev q : Complex
  q = parent_of v l

  abbrev t : ℕ
  t = (other_leg q o.series).series

  abbrev e : ℕ
  e = (other_leg q o.series).side

  abbrev p : ℕ
  p = other_clear v q o.series

  abbrev net-of : ℤ
  net-of = leg_net q o.series (opposite o.side) l.price p

  abbrev trades : Effect
  trades = trade_at_price k q.id t e p k (fill_regular i k v)

  -- the venue when both legs have traded
  abbrev pub hitting : Venue
  hitting = trades.venue

  chn : Chain q.id t e p (fill_regular i k v) trades.reports hitting
  chn = at-price-chain q.id t e p k k (fill_regular i k v)

  pub hitting-complex : hitting.complex ≡ v.complex
  hitting-complex = (chain-elsewhere chn).complex ∙ fill-complex i k v

  pub hitting-legging : hitting.legging ≡ v.legging
  hitting-legging = (chain-elsewhere chn).legging ∙ fill-legging i k v

  pub hit-venue : (hit i l k v).venue ≡ (pair_off (place_where (is_complex_of q.id) hitting.complex) q.id net-of k hitting).venue
  unfolding hit report ◌⟫◌ regular_at
  hit-venue = refl

  -- "then removal of all its parent's legging orders (cause 3, by place)": after a hit none of its parent's legging orders is left
  pub hit-removes : (place : ℕ) → held (lg (hit i l k v).venue place).quantity ≡ true → (lg (hit i l k v).venue place).parent ≢ q.id
  hit-removes place h = rw hit-venue (pair-removes _ q.id net-of k hitting place (rw hit-venue at h)).1

  -- and what is left is as it was
  pub hit-stays : (place : ℕ) → held (lg (hit i l k v).venue place).quantity ≡ true → lg (hit i l k v).venue place ≡ lg v place
  hit-stays place h =
      rw hit-venue ((pair-removes _ q.id net-of k hitting place (rw hit-venue at h)).0 ∙ ap (λ (x : List Legging). get_or x place no_legging) hitting-legging)

  -- the 66, and the removals
  abbrev pairing : Effect
  pairing = pair_off (place_where (is_complex_of q.id) hitting.complex) q.id net-of k hitting

  tells : Tells q.id k pairing.reports
  tells = pair-tells _ q.id net-of k hitting

  hit-total : (f : Report → ℕ) →
      total f (hit i l k v).reports ≡ f (trade o.series o.side l.price k o.id q.id) + total f trades.reports + total f pairing.reports
  unfolding hit report total ◌⟫◌ regular_at
  hit-total f = rw (total-append f trades.reports pairing.reports) (omega arith)

  -- what counts no trades counts the pair alone
  hit-quiet : (f : Report → ℕ) → ((a b c d g h : ℕ) → f (trade a b c d g h) ≡ 0) → total f (hit i l k v).reports ≡ total f pairing.reports
  hit-quiet f t = omega (arith, hit-total f, chain-silent f t chn, t o.series o.side l.price k o.id q.id)

  -- The hit, record by record, upon the venue as it stands: its trade; k contracts of the other leg, which the incoming order's own fill changes in
  -- nothing; the 66; and the removals.
  after-trades : pairing.reports ≡ pair q.id net-of k ∷ (remove_of q.id Executed v).reports
  unfolding pair_off report ◌⟫◌ remove_of remove fill_complex with_complex
  after-trades = rw hitting-legging

  pub hit-is : o.series ≢ t → (hit i l k v).reports ≡
      trade o.series o.side l.price k o.id q.id ∷ ((trade_at_price k q.id t e p k v).reports ++ (pair q.id net-of k ∷ (remove_of q.id Executed v).reports))
  hit-is ne = rw (← after-trades, ← at-price-apart q.id t e p i k k k v ne) (unfold hit report ◌⟫◌ regular_at in refl)

count-own : (y s d p k x : ℕ) → contracts y s (trade s d p k x y) ≡ k
unfolding contracts
count-own y s d p k x = rw (eq-eqb s s refl, eq-eqb y y refl) (go (eqb x y))
  where
    go : (b : Bool) → (if b || true then k else 0) ≡ k
    go true = refl
    go false = refl

-- The pairing ---------------------------------------------------------------------------------

-- the order at place i hits the legging order l for k, and l's parent is at place j
pub record Hits (v : Venue) (i j k : ℕ) (l : Legging) : Type 0 where
  pub fits : i < length v.regular
  pub holds : held (reg v i).quantity ≡ true
  pub enough : k ≤ (reg v i).quantity
  pub parent : parent_of v l ≡ cx v j
  pub fits_c : j < length v.complex
  pub holds_c : held (cx v j).quantity ≡ true
  pub enough_c : k ≤ (cx v j).quantity
  pub place : place_where (is_complex_of (cx v j).id) v.complex ≡ j
  pub leg : ((reg v i).series ≡ (cx v j).series1) ⊎ ((reg v i).series ≡ (cx v j).series2)
  pub apart : (cx v j).series1 ≢ (cx v j).series2
  -- one to one
  pub even1 : (cx v j).ratio1 ≡ 1
  pub even2 : (cx v j).ratio2 ≡ 1
  pub size : k ≤ size_in (other_leg (parent_of v l) (reg v i).series).series (opposite (other_leg (parent_of v l) (reg v i).series).side)
      (other_clear v (parent_of v l) (reg v i).series) v.regular

module _ (v : Venue) (i j k : ℕ) (l : Legging) (m : Hits v i j k l) where
  abbrev c : Complex
  c = parent_of v l

  abbrev u : ℕ
  u = (other_leg c (reg v i).series).series

  -- the other leg is in another series, and the two series are the parent's
  other-series : (((reg v i).series ≡ c.series1) × (u ≡ c.series2)) ⊎ (((reg v i).series ≡ c.series2) × (u ≡ c.series1))
  other-series = go m.leg
    where
      go : ((reg v i).series ≡ (cx v j).series1) ⊎ ((reg v i).series ≡ (cx v j).series2) → (((reg v i).series ≡ c.series1) × (u ≡ c.series2)) ⊎ (((reg v i).series ≡ c.series2) × (u ≡ c.series1))
      go (inl g) =
          inl (subst (λ (x : Complex). ((reg v i).series ≡ x.series1) × ((other_leg x (reg v i).series).series ≡ x.series2)) (sym m.parent)
          (g, other-is₂ (cx v j) (reg v i).series (sym g)))
      go (inr g) =
          inr (subst (λ (x : Complex). ((reg v i).series ≡ x.series2) × ((other_leg x (reg v i).series).series ≡ x.series1)) (sym m.parent)
          (g, other-is₁ (cx v j) (reg v i).series (λ h. m.apart (h ∙ g))))

  series-apart : (reg v i).series ≢ u
  series-apart h = elim other-series [
    | inl g ↦ m.apart (rw m.parent at (sym g.0 ∙ h ∙ g.1))
    | inr g ↦ m.apart (rw m.parent at (sym g.1 ∙ sym h ∙ g.0))
  ]

  size-then : k ≤ size_in u (opposite (other_leg c (reg v i).series).side) (other_clear v c (reg v i).series) (fill_regular i k v).regular
  size-then = rw ((fill-elsewhere i k (reg v i).series v refl).size u _ _ series-apart) m.size

  -- k contracts in its own series, and k in the other leg's
  own-contracts : total (contracts c.id (reg v i).series) (hit i l k v).reports ≡ k
  unfolding contracts
  own-contracts =
      omega (
        arith,
        hit-total v i k l (contracts c.id (reg v i).series),
        (tells v i k l).contracts0 c.id (reg v i).series,
        chain-other c.id (reg v i).series (λ g. series-apart (sym g)) (chn v i k l),
        count-own c.id (reg v i).series (reg v i).side l.price k (reg v i).id,
      )

  other-contracts : total (contracts c.id u) (hit i l k v).reports ≡ k
  unfolding contracts
  other-contracts =
      omega (
        arith,
        hit-total v i k l (contracts c.id u),
        (tells v i k l).contracts0 c.id u,
        at-price-total c.id u _ _ k k (fill_regular i k v) (omega arith) size-then,
        count-elsewhere c.id u (reg v i).series (reg v i).side l.price k (reg v i).id c.id series-apart,
      )

  both : (total (contracts c.id c.series1) (hit i l k v).reports ≡ k) × (total (contracts c.id c.series2) (hit i l k v).reports ≡ k)
  both = elim other-series [
    | inl h ↦ (rw h.0 at own-contracts, rw h.1 at other-contracts)
    | inr h ↦ (rw h.1 at other-contracts, rw h.0 at own-contracts)
  ]

  hit-filled : (hit i l k v).venue.complex ≡ (fill_complex j k v).complex
  hit-filled = ap (λ (w : Venue). w.complex) (hit-venue v i k l) ∙ pair-complex _ c.id _ k (hitting v i k l) ∙ refill
    where
      refill : (fill_complex (place_where (is_complex_of c.id) (hitting v i k l).complex) k (hitting v i k l)).complex ≡ (fill_complex j k v).complex
      refill = unfold fill_complex with_complex complex_at in (rw (hitting-complex v i k l, m.parent, m.place))

  -- in a hit's records the contracts in each series are those paired
  pub hit-pairs : Pairs v j k (hit i l k v).reports (hit i l k v).venue
  unfolding contracts paired crossed_for cancelled_of
  hit-pairs = record {
    first = (rw m.parent at both.0) ∙ rw m.even1 (sym (one-mul k));
    second = (rw m.parent at both.1) ∙ rw m.even2 (sym (one-mul k));
    others = λ d ne r s.
        omega (
          arith,
          hit-total v i k l (contracts d.id s),
          (tells v i k l).contracts0 d.id s,
          chain-cx d.id s (rw m.parent ne) (cx-fill i k v r).none (chn v i k l),
          count-neither d.id s (reg v i).series (reg v i).side l.price k (reg v i).id c.id (λ g. r.none i m.holds g) (rw m.parent ne),
        );
    pairs = λ y. rw m.parent at (hit-quiet v i k l (paired y) (λ _ _ _ _ _ _. refl) ∙ (tells v i k l).pairs y);
    crosses = λ y. hit-quiet v i k l (crossed_for y) (λ _ _ _ _ _ _. refl) ∙ (tells v i k l).crossed0 y;
    cancels = λ y. hit-quiet v i k l (cancelled_of y) (λ _ _ _ _ _ _. refl) ∙ (tells v i k l).cancelled0 y;
    filled = hit-filled;
  }

  -- the incoming order's contracts, and those of the orders that the other leg takes
  own-trade : (y s : ℕ) → RegularId y s v → c.id ≢ y →
      contracts y s (trade (reg v i).series (reg v i).side l.price k (reg v i).id c.id) ≡ (if eqb (reg v i).id y then k else 0)
  own-trade y s r x≠y = go (eqb (reg v i).id y) refl
    where
      go : (b : Bool) → eqb (reg v i).id y ≡ b → contracts y s (trade (reg v i).series (reg v i).side l.price k (reg v i).id c.id) ≡ (if b then k else 0)
      go true g = let i=y = eqb-true (reg v i).id y g in count-taker y s _ _ _ k _ _ i=y (r.home i m.holds i=y)
      go false g = count-neither y s _ _ _ k _ _ (eqb-false (reg v i).id y g) x≠y

  hit-orders : (y s : ℕ) → RegularId y s v →
      open_regular y v.regular ≡ open_regular y (hitting v i k l).regular + (total (contracts y s) (hit i l k v).reports + total (cancelled_of y) (hit i l k v).reports)
  hit-orders y s r =
      let x≠y : c.id ≢ y = λ g. r.none j m.holds_c (rw m.parent at g) in
      omega (
        arith,
        open-fill i k v y m.fits m.enough,
        chain-reg y s x≠y (reg-fill i k v r) (chn v i k l),
        hit-total v i k l (contracts y s),
        own-trade y s r x≠y,
        (tells v i k l).contracts0 y s,
        hit-pairs.cancels y,
      )

  same-regular : (hit i l k v).venue.regular ≡ (hitting v i k l).regular
  same-regular = ap (λ (w : Venue). w.regular) (hit-venue v i k l) ∙ pair-regular _ c.id _ k (hitting v i k l)

  pub moves-hit : Moves v (hit i l k v)
  moves-hit = record {
    regular = rw same-regular (fewer-trans (chain-fewer (chn v i k l)) (fill-fewer i k v));
    complex = rw hit-filled (fill-fewer_c j k v);
    last = ap (λ (w : Venue). w.last) (hit-venue v i k l) ∙ pair-last _ c.id _ k (hitting v i k l) ∙ chain-last (chn v i k l) ∙ fill-last i k v;
    orders = λ y s r. rw same-regular (hit-orders y s r);
    complexes = pairs-settle j k m.fits_c m.holds_c m.enough_c hit-pairs;
  }
