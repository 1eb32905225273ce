-- Taking k contracts at a price, by id: where the size there is at least k, exactly k are had; and `trade_at_price` as a chain of trades.
use mathlib.Core.Path.{◌∙◌, ◌≡◌, ap, refl, subst, sym}
use mathlib.Core.Bool.{Bool, false, true, true≢false}
use mathlib.Core.Logic.{◌≢◌}
use mathlib.Core.List.{List, [], ◌∷◌}
use Prim.Native.Nat.{◌+◌, ◌-◌, ◌<◌, ◌≤◌, min, suc, zero, ℕ}
use native.Mathlib.Omega.{arith}
use lib.ListN.{length}
use lib.Seq.{get_or-set_other, set_comm}
use borrow.Author.Tests.{eq-eqb, eqb-true}
use Rattle.rules.specs.declared.Regular.{Regular}
use Rattle.rules.specs.declared.Venue.{Venue}
use Rattle.rules.specs.Base.{Choice, first, held, nobody, picked}
use Rattle.rules.specs.Words.{earlier, no_regular, opposite, regular_at, with_regular}
use Rattle.rules.specs.Records.{Report, trade}
use Rattle.rules.specs.Effects.{Effect, ◌⟫◌, nothing, report}
use Rattle.rules.specs.Prices.{shown_size, shows_at, shows_for, size_in}
use Rattle.rules.specs.Trading.{fill_regular, less_regular, put_regular, trade_at_price, trade_with}
use Rattle.rules.specs.Sums.{contracts, contracts_at, total}
use Rattle.rules.proofs.Adding.{count-elsewhere, count-taker}
use Rattle.rules.proofs.Cases.{at-price-by}
use Rattle.rules.proofs.Filling.{Fewer, fewer-refl, fewer-trans, fill-fewer, fill-last, filled-other, reg}
use Rattle.rules.proofs.Picking.{At, Chosen, first-chosen, first-set}
use Rattle.rules.proofs.Sizes.{Elsewhere, elsewhere-refl, elsewhere-trans, fill-elsewhere, no-price, not_there, rests-series, shows-rests, size_less, size_none}
use Rattle.rules.proofs.Tests.{and_l, and_r, free-none, held-pos}

-- How many are had ----------------------------------------------------------------------------

module _ (x s d p : ℕ) where
  module _ (i : ℕ) (o : Regular) (v : Venue) (h : At no_regular (shows_for s (opposite d) p) v.regular i o) where
    taken-series : (regular_at v i).series ≡ s
    unfolding regular_at shows_for shows_at
    taken-series = let z = h.is in rw h.at (eqb-true o.series s (search (and_l, and_r, z)))

    pub some-shown : 0 < shown_size o
    unfolding shows_for shows_at
    some-shown =
        let z = h.is in
        let b : held (shown_size o) ≡ true = search (and_l, and_r, z) in
        held-pos _ b

    -- what is left at the price
    pub left : (q : ℕ) → q ≤ shown_size o → size_in s (opposite d) p v.regular ≡ q + size_in s (opposite d) p (fill_regular i q v).regular
    unfolding fill_regular with_regular regular_at
    left q le = size_less s (opposite d) p q v.regular i h.fits (rw h.at h.is) (rw h.at le)

  -- one trade as taker, and then f
  one_more : (i q : ℕ) (v : Venue) (f : Venue → Effect) → (regular_at v i).series ≡ s →
      total (contracts x s) (trade_with x d i q v ⟫ f).reports ≡ q + total (contracts x s) (f (fill_regular i q v)).reports
  unfolding ◌⟫◌ trade_with report total
  one_more i q v f e = rw (count-taker x s _ _ _ q x _ refl e)

  -- "k contracts of the other leg at its clear price": they are had, all k
  pub at-price-total : (fuel k : ℕ) (v : Venue) → k ≤ fuel → k ≤ size_in s (opposite d) p v.regular →
      total (contracts x s) (trade_at_price fuel x s d p k v).reports ≡ k
  unfolding total nothing
  at-price-total zero k v a b = unfold trade_at_price in (omega arith)
  at-price-total (suc fuel) k v a b =
      at-price-by (λ e. total (contracts x s) e.reports ≡ k) fuel x s d p k v
      (λ n. sym (free-none k n))
      (λ w h. let z = size_none s (opposite d) p v.regular h in omega arith)
      (λ w i o h.
      let q = min k (shown_size o) in
      let y = held-pos k w in
      let z = some-shown i o v h in
      let l = left i o v h q (omega arith) in
      rw (one_more i q v _ (taken-series i o v h), at-price-total fuel (k - q) (fill_regular i q v) (omega arith) (omega arith)) (omega arith))

module _ (x s d p : ℕ) where
  -- and as many fewer are left there
  pub at-price-left : (fuel k : ℕ) (v : Venue) → k ≤ fuel → k ≤ size_in s (opposite d) p v.regular →
      size_in s (opposite d) p (trade_at_price fuel x s d p k v).venue.regular + k ≡ size_in s (opposite d) p v.regular
  unfolding nothing ◌⟫◌ trade_with report
  at-price-left zero k v a b = unfold trade_at_price in (omega arith)
  at-price-left (suc fuel) k v a b =
      at-price-by (λ e. size_in s (opposite d) p e.venue.regular + k ≡ size_in s (opposite d) p v.regular) fuel x s d p k v
      (λ n. let z = free-none k n in omega arith)
      (λ w h. let z = size_none s (opposite d) p v.regular h in omega arith)
      (λ w i o h.
      let q = min k (shown_size o) in
      let y = held-pos k w in
      let z = some-shown x s d p i o v h in
      let l = left x s d p i o v h q (omega arith) in
      let r = at-price-left fuel (k - q) (fill_regular i q v) (omega arith) (omega arith) in
      omega arith)

-- The chain of trades -------------------------------------------------------------------------

-- trades of side-d taker x in series s at price p, from v to w, each for no more than the maker shows
pub data Chain (x s d p : ℕ) : Venue → List Report → Venue → Type 0 where
  no-more : {v : Venue} → Chain x s d p v [] v
  traded : {v : Venue} (i q : ℕ) {rs : List Report} {w : Venue} →
      i < length v.regular → shows_at s (opposite d) (regular_at v i) ≡ true → (regular_at v i).price ≡ p → q ≤ shown_size (regular_at v i) →
      Chain x s d p (fill_regular i q v) rs w →
      Chain x s d p v (trade (regular_at v i).series d (regular_at v i).price q x (regular_at v i).id ∷ rs) w

-- the order that was picked
module _ (x s d p k i : ℕ) (o : Regular) (v : Venue) (h : At no_regular (shows_for s (opposite d) p) v.regular i o) where
  is-there : regular_at v i ≡ o
  unfolding regular_at
  is-there = h.at

  shows : shows_at s (opposite d) (regular_at v i) ≡ true
  unfolding shows_for
  shows = let z = h.is in rw is-there (search (and_l, z))

  at-price : (regular_at v i).price ≡ p
  unfolding shows_for
  at-price = let z = h.is in rw is-there (eqb-true o.price p (search (and_l, and_r, z)))

  step-chain : (f : Venue → Effect) → ((w : Venue) → Chain x s d p w (f w).reports (f w).venue) →
      Chain x s d p v (trade_with x d i (min k (shown_size o)) v ⟫ f).reports (trade_with x d i (min k (shown_size o)) v ⟫ f).venue
  unfolding ◌⟫◌ trade_with report
  step-chain f ih = traded i (min k (shown_size o)) h.fits shows at-price (rw is-there (omega arith)) (ih _)

pub at-price-chain : (x s d p fuel k : ℕ) (v : Venue) → Chain x s d p v (trade_at_price fuel x s d p k v).reports (trade_at_price fuel x s d p k v).venue
unfolding nothing
at-price-chain x s d p zero k v = unfold trade_at_price in no-more
at-price-chain x s d p (suc fuel) k v =
    at-price-by (λ e. Chain x s d p v e.reports e.venue) fuel x s d p k v (λ n. no-more) (λ w h. no-more)
    (λ w i o h. step-chain x s d p k i o v h _ (at-price-chain x s d p fuel _))

-- What a chain leaves as it was, and what its records count -----------------------------------

shows-series : (s d : ℕ) (o : Regular) → shows_at s d o ≡ true → o.series ≡ s
shows-series s d o z = rests-series s d o (shows-rests s d o z)

module _ {x s d p : ℕ} where
  pub chain-fewer : {v w : Venue} {rs : List Report} → Chain x s d p v rs w → Fewer w.regular v.regular
  chain-fewer no-more = fewer-refl _
  chain-fewer (traded i q f r e le c) = fewer-trans (chain-fewer c) (fill-fewer i q _)

  -- the books of other series, the complex and the legging orders are as they were
  pub chain-elsewhere : {v w : Venue} {rs : List Report} → Chain x s d p v rs w → Elsewhere s v w
  chain-elsewhere no-more = elsewhere-refl s _
  chain-elsewhere (traded {v = v} i q f r e le c) =
      elsewhere-trans (fill-elsewhere i q s v (unfold regular_at in (shows-series s (opposite d) (reg v i) r))) (chain-elsewhere c)

  -- and every order of another series
  pub chain-place : {v w : Venue} {rs : List Report} → Chain x s d p v rs w → (n : ℕ) → (reg v n).series ≢ s → reg w n ≡ reg v n
  unfolding regular_at
  chain-place no-more n ne = refl
  chain-place (traded {v = v} i q f z e le c) n ne =
      let same = filled-other i q v n (λ g. ne (ap (λ (a : ℕ). (reg v a).series) g ∙ shows-series s (opposite d) (reg v i) z)) in
      chain-place c n (λ g. ne (sym (ap (λ (o : Regular). o.series) same) ∙ g)) ∙ same

  pub chain-last : {v w : Venue} {rs : List Report} → Chain x s d p v rs w → w.last ≡ v.last
  chain-last no-more = refl
  chain-last (traded {v = v} i q f r e le c) = chain-last c ∙ fill-last i q v

  -- no record of another series
  pub chain-other : (y t : ℕ) {v w : Venue} {rs : List Report} → s ≢ t → Chain x s d p v rs w → total (contracts y t) rs ≡ 0
  unfolding total
  chain-other y t ne no-more = refl
  chain-other y t ne (traded {v = v} i q f r e le c) =
      let z = shows-series s (opposite d) (regular_at v i) r in
      rw (count-elsewhere y t (regular_at v i).series d (regular_at v i).price q x (regular_at v i).id (λ g. ne (sym z ∙ g)), chain-other y t ne c)

  -- nor do they say anything of pairs, crosses or cancels
  pub chain-silent : (f : Report → ℕ) → ((a b c e g h : ℕ) → f (trade a b c e g h) ≡ 0) → {v w : Venue} {rs : List Report} → Chain x s d p v rs w → total f rs ≡ 0
  unfolding total
  chain-silent f z no-more = refl
  chain-silent f z (traded i q a b c le ch) = rw (z, chain-silent f z ch)

  -- all at the one price
  pub chain-at : (y t : ℕ) {v w : Venue} {rs : List Report} → Chain x s d p v rs w → total (contracts_at y t p) rs ≡ total (contracts y t) rs
  unfolding total contracts_at
  chain-at y t no-more = refl
  chain-at y t (traded {v = v} i q f z e le c) = rw (eq-eqb (regular_at v i).price p e, chain-at y t c)

-- Another order at a place --------------------------------------------------------------------

-- o at place i shows nothing at the price that is taken, and what stood there did not either: the same is taken with it as without
module _ (x s d p i : ℕ) (o : Regular) where
  abbrev there : Regular → Bool
  there = shows_for s (opposite d) p

  abbrev with_it : Venue → Venue
  with_it v = put_regular i o v

  same_first : (v : Venue) → there (reg v i) ≡ false → there o ≡ false → first there earlier (with_it v).regular ≡ first there earlier v.regular
  unfolding put_regular with_regular
  same_first v a b = first-set no_regular there earlier 0 v.regular i o a b

  -- the order that is taken from is another one
  apart : (v : Venue) (j : ℕ) (y : Regular) → At no_regular there v.regular j y → there (reg v i) ≡ false → i ≢ j
  apart v j y h a e = true≢false (sym h.is ∙ ap there (sym h.at) ∙ ap (λ (n : ℕ). there (reg v n)) (sym e) ∙ a)

  same-order : (v : Venue) (j : ℕ) → i ≢ j → regular_at (with_it v) j ≡ regular_at v j
  unfolding put_regular with_regular regular_at
  same-order v j ne = get_or-set_other v.regular i j _ no_regular (λ e. ne (sym e))

  put_fill : (j m : ℕ) (v : Venue) → i ≢ j → fill_regular j m (with_it v) ≡ with_it (fill_regular j m v)
  unfolding fill_regular put_regular with_regular regular_at
  put_fill j m v ne =
      rw (get_or-set_other v.regular i j _ no_regular (λ e. ne (sym e))) (ap (λ (l : List Regular). with_regular v l) (set_comm v.regular i j _ _ ne))

  still : (j m : ℕ) (v : Venue) → i ≢ j → there (reg v i) ≡ false → there (reg (fill_regular j m v) i) ≡ false
  unfolding fill_regular with_regular
  still j m v ne a = rw (get_or-set_other v.regular j i _ no_regular ne) a

  -- one turn of taking, by what is picked
  abbrev turn : (fuel k : ℕ) → Bool → Choice Regular → Venue → Effect
  turn fuel k b y v = elim b [
    | false ↦ nothing v
    | true ↦ elim y [ nobody ↦ nothing v | picked j z ↦ trade_with x d j (min k (shown_size z)) v ⟫ trade_at_price fuel x s d p (k - min k (shown_size z)) ]
  ]

  abbrev Same : (fuel : ℕ) → Type 0
  Same fuel = (k : ℕ) (v : Venue) → there (reg v i) ≡ false → there o ≡ false → (trade_at_price fuel x s d p k (with_it v)).reports ≡ (trade_at_price fuel x s d p k v).reports

  same_turn : (fuel : ℕ) → Same fuel → (k : ℕ) (v : Venue) → there (reg v i) ≡ false → there o ≡ false → (b : Bool) (y : Choice Regular) → Chosen no_regular there v.regular y →
      (turn fuel k b y (with_it v)).reports ≡ (turn fuel k b y v).reports
  unfolding nothing ◌⟫◌ trade_with report
  same_turn fuel ih k v a b false y c = refl
  same_turn fuel ih k v a b true nobody c = refl
  same_turn fuel ih k v a b true (picked j z) c =
      let m = min k (shown_size z) in
      let ne = apart v j z c a in
      rw (same-order v j ne, put_fill j m v ne, ih (k - m) (fill_regular j m v) (still j m v ne a) b)

  same_more : (fuel : ℕ) → Same fuel → Same (suc fuel)
  unfolding trade_at_price
  same_more fuel ih k v a b =
      subst (λ (y : Choice Regular). (turn fuel k (held k) y (with_it v)).reports ≡ (turn fuel k (held k) (first there earlier v.regular) v).reports) (sym (same_first v a b))
      (same_turn fuel ih k v a b (held k) (first there earlier v.regular) (first-chosen no_regular there earlier v.regular))

  pub at-price-put : (fuel : ℕ) → Same fuel
  unfolding nothing
  at-price-put zero = λ k v a b. unfold trade_at_price in refl
  at-price-put (suc fuel) = same_more fuel (at-price-put fuel)

-- the order at place i is of another series: what is taken in series s is the same whether or not it has been filled
pub at-price-apart : (x s d p i q fuel k : ℕ) (v : Venue) → (reg v i).series ≢ s → (trade_at_price fuel x s d p k (fill_regular i q v)).reports ≡ (trade_at_price fuel x s d p k v).reports
unfolding fill_regular put_regular regular_at less_regular
at-price-apart x s d p i q fuel k v ne =
    let none : shows_for s (opposite d) p (reg v i) ≡ false = no-price s (opposite d) p (reg v i) (not_there s (opposite d) (reg v i) ne) in
    at-price-put x s d p i (less_regular q (reg v i)) fuel k v none (no-price s (opposite d) p _ (not_there s (opposite d) _ ne))
