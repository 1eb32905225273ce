-- Demand 3, the legging orders: where all stand, each is best displayed, in band, and its hits find their contracts.
use mathlib.Core.Path.{◌∙◌, ◌≡◌, ap, refl, subst, sym}
use mathlib.Core.Bool.{false, true, true≢false}
use mathlib.Core.Logic.{◌≢◌, inl, inr}
use mathlib.Core.List.Memᴰ
use mathlib.Core.List.{List, Memᴰ, ◌++◌, ◌∷◌}
use Prim.Native.Nat.{◌%◌, ◌/◌, ◌<◌, ◌≤◌, ℕ}
use native.Mathlib.Omega.{arith}
use lib.Dec.{leb}
use lib.ListN.{length}
use lib.Seq.{get_or-set_same}
use borrow.Author.Tests.{eq-eqb, leb-true, not-true}
use Rattle.rules.specs.declared.Cause.TheVariants.{Executed}
use Rattle.rules.specs.declared.Complex.{Complex}
use Rattle.rules.specs.declared.Legging.{Legging}
use Rattle.rules.specs.declared.Regular.{Regular}
use Rattle.rules.specs.declared.Venue.{Venue}
use Rattle.rules.specs.Base.{all, held}
use Rattle.rules.specs.Words.{is_complex_of, legging_at, no_regular, opposite, place_of, regular_at, with_regular}
use Rattle.rules.specs.Settings.{increment}
use Rattle.rules.specs.Prices.{best_in, best_regular, best_size, better, clear_price, displayed_price, rests_at, shown_size, shows_at, size_in}
use Rattle.rules.specs.Records.{Report, pair, trade}
use Rattle.rules.specs.Removal.{remove, remove_of}
use Rattle.rules.specs.Standing.{has_leg, leg_net, other_clear, other_leg, other_size, pairs, parent_of, displayed_no_worse, verdict}
use Rattle.rules.specs.Trading.{fill_regular, put_regular, trade_at_price}
use Rattle.rules.specs.Order.{hit}
use Rattle.rules.specs.Calls.{one}
use Rattle.demands.specs.Demand.{FromResting, Hit, Standing, other_trades}
use Rattle.rules.proofs.Again.{Shown}
use Rattle.rules.proofs.Better.{best-best, better-irrefl, better-past, is_false}
use Rattle.rules.proofs.Filling.{Fewer, Lesser, cx, fewer-refl, fewer-trans, fill-fewer, lg, reg}
use Rattle.rules.proofs.Finding.{leg-in}
use Rattle.rules.proofs.Generating.{AllStand, place-series, place-side}
use Rattle.rules.proofs.Hitting.{hit-is}
use Rattle.rules.proofs.Owning.{rests-lesser}
use Rattle.rules.proofs.Settling.{clear-best}
use Rattle.rules.proofs.Sizes.{best-set, fill-shown, free-shows, no-price, not_there, rests-held, rests-series, rests-shows, shows-rests}
use Rattle.rules.proofs.TradingLaws.{Chain, chain-at, no-more, at-price-chain, at-price-put, at-price-total, traded}
use Rattle.rules.proofs.Tests.{and_in, and_l, and_r}
use Rattle.rules.proofs.Verdicts.{Passes, passed}
use Rattle.demands.proofs.Homes.{Fine, Home, home-held, other-apart, parent-found}

opposite-twice : (d : ℕ) → d < 2 → opposite (opposite d) ≡ d
unfolding opposite
opposite-twice d d2 = omega arith

-- The hit of `Order`, record by record, of a legging order of c ---------------------------------

module _ (c : Complex) (s d : ℕ) (l : Legging) (apart : s ≢ (other_leg c s).series) (d2 : d < 2) where
  -- its own trade by an order of this id, the other leg's trades, the 66 and the removals, upon the venue as it stands
  abbrev written : Venue → (k id : ℕ) → List Report
  written v k id =
      trade s (opposite d) l.price k id c.id
      ∷ (other_trades v c s k ++ (pair c.id (leg_net c s d l.price (other_clear v c s)) k ∷ (remove_of c.id Executed v).reports))

  -- by an order of the other side
  writes : (v : Venue) → parent_of v l ≡ c → (k i : ℕ) → (regular_at v i).series ≡ s → (regular_at v i).side ≡ opposite d → (hit i l k v).reports ≡ written v k (regular_at v i).id
  unfolding regular_at
  writes v is k i at of =
      let q = parent_of v l in
      let t = (reg v i).series in
      let other : t ≢ (other_leg q t).series = rw (is, at) apart in
      let h : (hit i l k v).reports ≡
      trade t (reg v i).side l.price k (reg v i).id q.id
      ∷ (other_trades v q t k ++ (pair q.id (leg_net q t (opposite (reg v i).side) l.price (other_clear v q t)) k ∷ (remove_of q.id Executed v).reports)) =
      hit-is v i k l other in
      rw (is, at, of, opposite-twice d d2) at h

  -- by one that arrives at a free place: the other leg finds what it found before
  module _ (v : Venue) (i : ℕ) (o : Regular) (fits : i < length v.regular) (free : held (regular_at v i).quantity ≡ false) (at : o.series ≡ s) where
    abbrev t : ℕ
    t = (other_leg c s).series

    abbrev w : Venue
    w = put_regular i o v

    none_before : (e : ℕ) → shows_at t e (reg v i) ≡ false
    unfolding regular_at
    none_before e = free-shows t e (reg v i) free

    none_after : (e : ℕ) → shows_at t e o ≡ false
    none_after e = not_there t e o (λ z. apart (sym at ∙ z))

    placed-there : regular_at w i ≡ o
    unfolding regular_at put_regular with_regular
    placed-there = get_or-set_same v.regular i o no_regular fits

    same-clear : other_clear w c s ≡ other_clear v c s
    unfolding other_clear clear_price best_regular legging_at put_regular with_regular
    same-clear = rw (best-set t (opposite (other_leg c s).side) v.regular i o (none_before _) (none_after _))

    same-trades : (k : ℕ) → other_trades w c s k ≡ other_trades v c s k
    same-trades k =
        let e = (other_leg c s).side in
        let p = other_clear v c s in
        ap (λ (y : ℕ). (trade_at_price k c.id t e y k w).reports) same-clear
        ∙ at-price-put c.id t e p i o k k v (no-price t (opposite e) p _ (none_before _)) (no-price t (opposite e) p o (none_after _))

    same-removals : (remove_of c.id Executed w).reports ≡ (remove_of c.id Executed v).reports
    unfolding remove_of remove put_regular with_regular
    same-removals = refl

    same-parent : parent_of w l ≡ parent_of v l
    unfolding parent_of put_regular with_regular
    same-parent = refl

    arrives : parent_of v l ≡ c → (k : ℕ) → o.side ≡ opposite d → (hit i l k w).reports ≡ written v k o.id
    arrives is k of =
        rw (placed-there, same-trades k, same-clear, same-removals) at
        (writes w (same-parent ∙ is) k i (ap (λ (y : Regular). y.series) placed-there ∙ at) (ap (λ (y : Regular). y.side) placed-there ∙ of))

-- The makers of a chain of trades -----------------------------------------------------------------

-- each place of u shows no more than in v
abbrev NoMore : (u v : Venue) → Type 0
NoMore u v = (i : ℕ) → shown_size (regular_at u i) ≤ shown_size (regular_at v i)

filled-no-more : (u v : Venue) (j q : ℕ) → NoMore u v → NoMore (fill_regular j q u) v
unfolding regular_at
filled-no-more u v j q n i = let a = fill-shown j q u i in let b = n i in omega arith

-- of a chain upon u, where each place has what it has in v, or less of it, and shows no more
module _ {x s d p : ℕ} (v : Venue) where
  maker : (u : Venue) (i q : ℕ) → Lesser (regular_at u i) (regular_at v i) → NoMore u v → rests_at s (opposite d) (regular_at u i) ≡ true → (regular_at u i).price ≡ p →
      q ≤ shown_size (regular_at u i) → FromResting v x s d p (trade (regular_at u i).series d (regular_at u i).price q x (regular_at u i).id)
  maker u i q less n there e le = record {
    at = i;
    rests = rests-lesser s (opposite d) less there;
    priced = sym less.price ∙ e;
    contracts = q;
    within_shown = (let z = n i in omega arith);
    is = rw (rests-series s (opposite d) (regular_at u i) there, e, less.id);
  }

  chain-makers : {u w : Venue} {rs : List Report} → Fewer u.regular v.regular → NoMore u v → Chain x s d p u rs w → (r : Report) → Memᴰ r rs → FromResting v x s d p r
  chain-makers f n no-more r m = absurd (Memᴰ.not-nil m)
  chain-makers {u = u} f n (traded i q fits z e le c) r m = elim (Memᴰ.cases_cons m) [
    | inl is ↦ subst (FromResting v x s d p) (sym is) (maker u i q (unfold regular_at in (f.lesser i)) n (shows-rests s (opposite d) (regular_at u i) z) e le)
    | inr h ↦ chain-makers (fewer-trans (fill-fewer i q u) f) (filled-no-more u v i q n) c r h
  ]

module _ (v : Venue) (c : Complex) (s d : ℕ) (l : Legging) (p : Passes v c s d l) where
  -- no regular order is better than what is displayed: each shows some size, and so counts for the best price
  displayed-best : Shown v → (i : ℕ) → rests_at s d (regular_at v i) ≡ true → better d (regular_at v i).price (displayed_price (increment v s) d l.price) ≡ false
  unfolding displayed_no_worse best_regular regular_at
  displayed-best all i r =
      is_false _ (λ b. true≢false
      (sym (better-past d (reg v i).price (best_in s d v.regular) (displayed_price (increment v s) d l.price) b (best-best s d v.regular i (rests-shows s d _ (all i (rests-held s d _ r)) r)))
      ∙ not-true _ p.displayed))

  -- the size at the clear price is at least its quantity, so k contracts are there
  hits : parent_of v l ≡ c → s ≢ (other_leg c s).series → d < 2 → (k : ℕ) → k ≤ l.quantity → Hit v c s d l k
  unfolding pairs best_size best_regular other_clear other_size
  hits is apart d2 k le =
      let q = p.pair in
      let t = (other_leg c s).series in
      let e = (other_leg c s).side in
      let a : held (clear_price v t (opposite e)) ≡ true = search (and_l, and_r, q) in
      let n : leb l.quantity (size_in t (opposite e) (best_in t (opposite e) v.regular) v.regular) ≡ true = search (and_l, and_r, q) in
      let m = leb-true l.quantity (size_in t (opposite e) (best_in t (opposite e) v.regular) v.regular) n in
      record {
        clear = a;
        net = search (and_l, and_r, q);
        found = chain-at c.id t (at-price-chain c.id t e (clear_price v t (opposite e)) k k v)
            ∙ at-price-total c.id t e (clear_price v t (opposite e)) k k v (omega arith) (rw (clear-best v t (opposite e) a) (omega arith));
        makers = chain-makers v (fewer-refl _) (λ _. omega arith) (at-price-chain c.id t e (clear_price v t (opposite e)) k k v);
        written = writes c s d l apart d2 v is k;
        arrives = λ i o fits free at of. arrives c s d l apart d2 v i o fits free at is k of;
      }

module _ (v : Venue) (f : Fine v) (all : AllStand v) (show : Shown v) (s d : ℕ) (d2 : d < 2) where
  abbrev n : ℕ
  n = place_of s d

  abbrev l : Legging
  l = lg v n

  -- place n is the one of side d of series s
  only : (m : ℕ) → m / 2 ≡ s → m % 2 ≡ d → m ≡ n
  unfolding place_of
  only m p q = omega arith

  module _ (h : held l.quantity ≡ true) where
    abbrev c : Complex
    c = parent_of v l

    passes : Passes v c s d l
    unfolding AllStand verdict
    passes = passed (rw (h, place-series s d d2, place-side s d d2) at (all n))

    abbrev home : Home v n l
    home = f.homes.home n h

    rests : is_complex_of l.parent c ≡ true
    unfolding is_complex_of
    rests = rw (parent-found v f n h) (and_in _ _ (home-held v f n h) (eq-eqb (cx v home.at).id l.parent home.id))

    leg : has_leg c s d ≡ true
    leg = rw (parent-found v f n h) (leg-in (cx v home.at) s d (rw (place-series s d d2, place-side s d d2) at home.leg))

    apart : s ≢ (other_leg c s).series
    apart = rw (parent-found v f n h) (rw (place-series s d d2) at (other-apart v f n h))

    stands : Standing v s d l
    stands = record {
      rests = rests;
      leg = leg;
      even = rw (parent-found v f n h) home.even;
      best = displayed-best v c s d l passes show;
      best_legging = λ m p q _. is_false _ (λ b. better-irrefl _ _ (rw (only m p q) at b));
      band = passes.band;
      hit = λ k one le. hits v c s d l passes refl apart d2 k le;
    }

pub standing : (v : Venue) → Fine v → AllStand v → Shown v → (s d : ℕ) → d < 2 → held (legging_at v s d).quantity ≡ true → Standing v s d (legging_at v s d)
unfolding legging_at
standing v f all show s d d2 h = stands v f all show s d d2 h
