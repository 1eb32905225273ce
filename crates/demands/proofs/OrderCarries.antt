-- What an incoming regular order does: its turns, each a trade or a hit, carry the invariant. The one fact kept meanwhile is `Ready`: the
-- legging order that it could hit can still be paid for.
use mathlib.Core.Path.{◌∙◌, ◌≡◌, ap, subst, sym}
use mathlib.Core.Bool.{true}
use mathlib.Core.Logic.{◌≢◌, ◌⊎◌}
use mathlib.Core.List.{List}
use Prim.Native.Nat.{◌<◌, ◌≤◌, min, ℕ}
use native.Mathlib.Omega.{arith}
use lib.ListN.{get_or, length}
use Rattle.rules.specs.declared.Complex.{Complex}
use Rattle.rules.specs.declared.Legging.{Legging}
use Rattle.rules.specs.declared.Regular.{Regular}
use Rattle.rules.specs.declared.Venue.{Venue}
use Rattle.rules.specs.Base.{held, place_where}
use Rattle.rules.specs.Words.{is_complex_of, legging_at, no_complex, no_legging, no_regular, opposite, place_of, regular_at}
use Rattle.rules.specs.Effects.{repeat, report, turned}
use Rattle.rules.specs.Prices.{best_regular, best_size, clear_price, rests_at, size_in}
use Rattle.rules.specs.Standing.{other_clear, other_leg, other_size, parent_of}
use Rattle.rules.specs.Trading.{fill_regular, trade_with}
use Rattle.rules.specs.Order.{at_once, hit, is_met, meet, meet_turn}
use Rattle.rules.proofs.Cases.{meet_turn-by}
use Rattle.rules.proofs.Filling.{cx, lg, reg}
use Rattle.rules.proofs.Finding.{leg-series}
use Rattle.rules.proofs.Generating.{place-series}
use Rattle.rules.proofs.Hitting.{Hits, hit-removes, hit-stays, hit-venue, hitting, hitting-complex, hitting-legging, moves-hit}
use Rattle.rules.proofs.Moving.{Meets, moves-meet, other-same}
use Rattle.rules.proofs.Owning.{first-held}
use Rattle.rules.proofs.Picking.{At}
use Rattle.rules.proofs.Settling.{clear-best}
use Rattle.rules.proofs.Sizes.{Elsewhere, elsewhere-trans, fill-elsewhere, once-most, rests-held, rests-series, rests-side}
use Rattle.rules.proofs.Tests.{and_l}
use Rattle.demands.proofs.ComplexCarries.{Carries, TurnOk, opposite-not, repeat-carries}
use Rattle.demands.proofs.Homes.{even-first, even-second, Fine, Home, Homes, home-held, homes-pair_off, homes_same, parent-found, place_at}

-- The legging order that the order could hit --------------------------------------------------

-- its other leg can be paid for
pub record Pays (v : Venue) (s : ℕ) (l : Legging) : Type 0 where
  pub apart : s ≢ (other_leg (parent_of v l) s).series
  pub clear : held (other_clear v (parent_of v l) s) ≡ true
  pub size : l.quantity ≤ other_size v (parent_of v l) s

module _ {s : ℕ} {v w : Venue} (x : Elsewhere s v w) where
  clear-same : (c : Complex) → s ≢ (other_leg c s).series → other_clear w c s ≡ other_clear v c s
  unfolding other_clear clear_price legging_at best_regular
  clear-same c ne = rw (x.best _ _ ne, x.legging)

  size_same : (c : Complex) → s ≢ (other_leg c s).series → other_size w c s ≡ other_size v c s
  unfolding other_size best_size best_regular
  size_same c ne = rw (x.best _ _ ne, x.size _ _ _ ne)

  parent-same : (l : Legging) → parent_of w l ≡ parent_of v l
  unfolding parent_of
  parent-same l = rw x.complex

  pub pays-kept : (l : Legging) → Pays v s l → Pays w s l
  pays-kept l p = record {
    apart = rw parent-same p.apart;
    clear = rw (parent-same, clear-same (parent_of v l) p.apart) p.clear;
    size = rw (parent-same, size_same (parent_of v l) p.apart) p.size;
  }

  pub pays-there : (n : ℕ) → (held (lg v n).quantity ≡ true → Pays v s (lg v n)) → held (lg w n).quantity ≡ true → Pays w s (lg w n)
  pays-there n p t =
      let same : lg w n ≡ lg v n = ap (λ (y : List Legging). get_or y n no_legging) x.legging in
      subst (λ (y : Legging). Pays w s y) (sym same) (pays-kept (lg v n) (p (subst (λ (y : Legging). held y.quantity ≡ true) same t)))

-- the order at place i, of side d in series s, and what it could hit
pub record Ready (i s d : ℕ) (v : Venue) : Type 0 where
  pub fits : i < 128
  pub series : (reg v i).series ≡ s
  pub side : (reg v i).side ≡ d
  pub small : opposite d < 2
  pub pays : held (lg v (place_of s (opposite d))).quantity ≡ true → Pays v s (lg v (place_of s (opposite d)))

module _ (i s d : ℕ) (v : Venue) (f : Fine v) (r : Ready i s d v) where
  abbrev o : Regular
  o = reg v i

  fits : i < length v.regular
  fits = rw f.good.len1 r.fits

  abbrev l : Legging
  l = lg v (place_of s (opposite d))

  -- the order meets a regular order
  module _ (j : ℕ) (m : Regular) (h : held o.quantity ≡ true)
      (a : At no_regular (is_met o.series o.side o.price) v.regular j m) where
    rests : rests_at o.series (opposite o.side) m ≡ true
    unfolding is_met
    rests = and_l _ _ a.is

    meets : Meets v i j (min o.quantity (at_once m))
    meets = record {
      apart = λ e. opposite-not o.side (ap (λ (x : Regular). x.side) (ap (λ (n : ℕ). reg v n) e ∙ a.at) ∙ rests-side _ _ m rests);
      fits1 = fits;
      fits2 = a.fits;
      held1 = h;
      held2 = rw a.at (rests-held _ _ m rests);
      series = rw a.at (rests-series _ _ m rests);
      enough1 = omega arith;
      enough2 = rw a.at (let z = once-most m in omega arith);
    }

    after-meet : Elsewhere s v (meet i j (min o.quantity (at_once m)) v).venue
    unfolding meet trade_with report
    after-meet =
        let k = min o.quantity (at_once m) in
        elsewhere-trans (fill-elsewhere i k s v r.series)
        (fill-elsewhere j k s (fill_regular i k v)
        (ap (λ (x : Regular). x.series) (other-same i j k v meets ∙ a.at) ∙ rests-series _ _ m rests ∙ r.series))

    pub carries-meet : Carries v (meet i j (min o.quantity (at_once m)) v) × Ready i s d (meet i j (min o.quantity (at_once m)) v).venue
    carries-meet =
        let mv = moves-meet i j _ v meets in
        let x = after-meet in (
          record { moves = mv; homes = homes_same x.complex x.legging f.homes },
          record {
            fits = r.fits;
            series = (mv.regular.lesser i).series ∙ r.series;
            side = (mv.regular.lesser i).side ∙ r.side;
            small = r.small;
            pays = pays-there x (place_of s (opposite d)) r.pays;
          },
        )

  -- the order hits the legging order
  module _ (h : held o.quantity ≡ true) (hl : held l.quantity ≡ true) where
    abbrev k : ℕ
    k = min o.quantity l.quantity

    abbrev home : Home v (place_of s (opposite d)) l
    home = f.homes.home (place_of s (opposite d)) hl

    abbrev j : ℕ
    j = home.at

    holds_c : held (cx v j).quantity ≡ true
    holds_c = home-held v f (place_of s (opposite d)) hl

    parent_is : parent_of v l ≡ cx v j
    parent_is = parent-found v f (place_of s (opposite d)) hl

    at-series : (o.series ≡ (cx v j).series1) ⊎ (o.series ≡ (cx v j).series2)
    at-series = rw r.series (rw (place-series s (opposite d) r.small) at (leg-series (cx v j) _ _ home.leg))

    paid : l.quantity ≤ size_in (other_leg (parent_of v l) s).series (opposite (other_leg (parent_of v l) s).side) (other_clear v (parent_of v l) s) v.regular
    unfolding best_size other_clear other_size
    paid = let p = r.pays hl in rw (clear-best v _ _ p.clear) p.size

    hits : Hits v i j k l
    hits =
        let p = r.pays hl in
        record {
          fits = fits;
          holds = h;
          enough = omega arith;
          parent = parent_is;
          fits_c = home.fits;
          holds_c = holds_c;
          enough_c = let e = home.enough in omega arith;
          place = place_at v f.good j home.fits holds_c;
          leg = at-series;
          apart = (f.good.ranges j holds_c).apart;
          even1 = even-first (cx v j) home.even;
          even2 = even-second (cx v j) home.even;
          size = rw r.series (let z = paid in omega arith);
        }

    hit-homes : Homes (hit i l k v).venue
    hit-homes =
        rw (hit-venue v i k l, place-then) (homes-pair_off j _ _ k (hitting v i k l)
        (ap (λ (c : Complex). c.id) parent_is ∙ ap (λ (x : List Complex). (get_or x j no_complex).id) (sym (hitting-complex v i k l)))
        (homes_same (hitting-complex v i k l) (hitting-legging v i k l) f.homes))
      where
        place-then : place_where (is_complex_of (parent_of v l).id) (hitting v i k l).complex ≡ j
        place-then = rw (hitting-complex v i k l, parent_is) (place_at v f.good j home.fits holds_c)

    -- its place is free afterwards
    pub emptied : held (lg (hit i l k v).venue (place_of s (opposite d))).quantity ≡ true → ⊥
    emptied q =
        hit-removes v i k l (place_of s (opposite d)) q
        (ap (λ (x : Legging). x.parent) (hit-stays v i k l (place_of s (opposite d)) q) ∙ sym home.id ∙ ap (λ (c : Complex). c.id) (sym parent_is))

    pub carries-hit : Carries v (hit i l k v) × Ready i s d (hit i l k v).venue
    carries-hit =
        let mv = moves-hit v i j k l hits in (
          record { moves = mv; homes = hit-homes },
          record {
            fits = r.fits;
            series = (mv.regular.lesser i).series ∙ r.series;
            side = (mv.regular.lesser i).side ∙ r.side;
            small = r.small;
            pays = λ q. absurd (emptied q);
          },
        )

  -- a turn
  pub legging-is : legging_at v o.series (opposite o.side) ≡ l
  unfolding legging_at
  legging-is = rw (r.series, r.side)

  pub meet_turn-ok : TurnOk (Ready i s d) v (meet_turn i v)
  unfolding regular_at
  meet_turn-ok =
      meet_turn-by (TurnOk (Ready i s d) v) i v (λ _. tt) (λ _ _ _. tt)
      (λ h p e. subst (λ (x : Legging). TurnOk (Ready i s d) v (turned (hit i x (min o.quantity x.quantity) v))) (sym legging-is)
      (carries-hit h (subst (λ (x : Legging). held x.quantity ≡ true) legging-is (first-held o _ p e))))
      (λ h j m a _. carries-meet j m h a)

pub enter-carries : (i s d fuel : ℕ) (v : Venue) → Fine v → Ready i s d v → Carries v (repeat fuel (meet_turn i) v)
enter-carries i s d fuel v f r = repeat-carries (Ready i s d) (meet_turn i) (λ w g x. meet_turn-ok i s d w g x) fuel v f r
