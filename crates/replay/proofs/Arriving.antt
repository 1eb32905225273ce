-- An order that arrives: each of its turns, a trade or a hit, tells what it does and passes nothing over.
use Rattle.std.specs.Prelude.{if◌then◌else◌}
use mathlib.Core.Path.{◌∙◌, ◌≡◌, ap, refl, subst, sym}
use mathlib.Core.Bool.{Bool, false, not, true}
use mathlib.Core.List.{List}
use Prim.Native.Nat.{◌≤◌, min, ℕ}
use native.Mathlib.Omega.{arith}
use lib.Dec.{eqb}
use lib.ListN.{get_or}
use borrow.Author.Tests.{eq-eqb, eqb-true}
use Rattle.rules.specs.declared.Complex.{Complex}
use Rattle.rules.specs.declared.Leg.{Leg}
use Rattle.rules.specs.declared.Legging.{Legging}
use Rattle.rules.specs.declared.Regular.{Regular}
use Rattle.rules.specs.declared.Venue.{Venue}
use Rattle.rules.specs.Base.{Choice, first, held, nobody, picked, place_where}
use Rattle.rules.specs.Words.{complex_at, is_complex_of, is_regular_of, legging_at, no_complex, no_regular, opposite, place_of, regular_at}
use Rattle.rules.specs.Records.{trade}
use Rattle.rules.specs.Effects.{Effect, Turn, ◌⟫◌, ended, repeat, report, turned}
use Rattle.rules.specs.Prices.{rests_at, shown_size}
use Rattle.rules.specs.Standing.{leg_net, other_clear, other_leg, parent_of}
use Rattle.rules.specs.Trading.{fill_regular, pair_off, trade_at_price}
use Rattle.rules.specs.Order.{at_once, first_met, hit, is_met, legging_first, meet, meet_turn, price_then_id}
use Rattle.rules.proofs.Cases.{if-by}
use Rattle.rules.proofs.Filling.{cx, fill-complex, lg, reg}
use Rattle.rules.proofs.Hitting.{hitting, hitting-complex}
use Rattle.rules.proofs.EffectsLaws.{keeps-at-price}
use Rattle.rules.proofs.Meeting.{legging-alone, met-first}
use Rattle.rules.proofs.Picking.{At, Chosen, first-chosen}
use Rattle.rules.proofs.Sizes.{once-most, once-shown, rests-held, rests-series, rests-side}
use Rattle.rules.proofs.Tests.{and_l, and_r}
use Rattle.demands.proofs.ComplexCarries.{TurnOk, fine-after, opposite-not}
use Rattle.demands.proofs.OrderCarries.{Pays, Ready, meet_turn-ok}
use Rattle.demands.proofs.Homes.{Fine, home-held, parent-found, place_at}
use Rattle.replay.specs.Replay.{lessen_order}
use Rattle.replay.specs.Moments.{MakerStands, NonePassedOver, legging}
use Rattle.replay.proofs.TellsLaws.{Any, Tells, TellsTurn, tells-report, tells-repeat, tells-then}
use Rattle.replay.proofs.Lessening.{Apart, apart-lasts, good-apart, lessen-no-order, lessen-order}
use Rattle.replay.proofs.Passing.{HitsFirst, Positive, clear-best-price, hit-passes-none, hits-first, met-passes-none, nobody-met, positive-kept}
use Rattle.replay.proofs.TradeTells.{best-fill, next-trade, tells-meet, tells-pair_off, tells-at-price}

-- A hit ---------------------------------------------------------------------------------------

module _ (v : Venue) (f : Fine v) (i k : ℕ) (h : held (reg v i).quantity ≡ true) where
  abbrev o : Regular
  o = reg v i

  -- the legging order's place
  abbrev n : ℕ
  n = place_of o.series (opposite o.side)

  abbrev l : Legging
  l = lg v n

  module _ (hl : held l.quantity ≡ true) (pays : Pays v o.series l) where
    abbrev a : Apart v
    a = good-apart f.good

    -- its complex order
    abbrev c : Complex
    c = parent_of v l

    abbrev j : ℕ
    j = (f.homes.home n hl).at

    holds : held (cx v j).quantity ≡ true
    holds = home-held v f n hl

    is : (cx v j).id ≡ c.id
    is = ap (λ (x : Complex). x.id) (sym (parent-found v f n hl))

    -- the order is filled, and no other: the maker is a complex order
    abbrev w : Venue
    w = fill_regular i k v

    filled : lessen_order c.id k (lessen_order o.id k v) ≡ w
    filled =
        ap (lessen_order c.id k) (lessen-order v a i k h)
        ∙ subst (λ (y : ℕ). lessen_order y k w ≡ w) (ap (λ (x : List Complex). (get_or x j no_complex).id) (fill-complex i k v) ∙ is)
        (lessen-no-order w (apart-lasts.fill_r i k v a) j k (rw (fill-complex i k v) holds))

    place : place_where (is_complex_of c.id) (hitting v i k l).complex ≡ j
    place = rw (hitting-complex v i k l, ← is) (place_at v f.good j (f.homes.home n hl).fits holds)

    -- its complex order is found there when both legs have traded
    abbrev at : ℕ
    at = place_where (is_complex_of c.id) (hitting v i k l).complex

    there : held (cx (hitting v i k l) at).quantity ≡ true
    there = subst (λ (m : ℕ). held (cx (hitting v i k l) m).quantity ≡ true) (sym place) (rw (hitting-complex v i k l) holds)

    named : (cx (hitting v i k l) at).id ≡ c.id
    named = subst (λ (m : ℕ). (cx (hitting v i k l) m).id ≡ c.id) (sym place) (rw (hitting-complex v i k l) is)

    -- the three parts of a hit
    abbrev leg : Leg
    leg = other_leg c o.series

    abbrev clear : ℕ
    clear = other_clear v c o.series

    abbrev own : Effect
    own = report (trade o.series o.side l.price k o.id c.id) w

    abbrev taking : Venue → Effect
    taking = trade_at_price k c.id leg.series leg.side clear k

    abbrev pairing : Venue → Effect
    pairing x = pair_off (place_where (is_complex_of c.id) x.complex) c.id (leg_net c o.series (opposite o.side) l.price clear) k x

    tells-own : NonePassedOver v o.series o.side l.price k o.id c.id → Tells v own
    tells-own none = tells-report _ v w (next-trade o.series o.side l.price k o.id c.id v w filled) none

    tells-other : Tells w (taking w)
    tells-other =
        tells-at-price c.id leg.series leg.side clear k k w (apart-lasts.fill_r i k v a)
        (best-fill i k v leg.series (opposite leg.side) clear (unfold other_clear in (clear-best-price v leg.series (opposite leg.side) (unfold other_clear in pays.clear))))
        j (rw (fill-complex i k v) holds) (rw (fill-complex i k v) is)

    tells-pair : Tells (hitting v i k l) (pairing (hitting v i k l))
    tells-pair = tells-pair_off at c.id _ k (hitting v i k l) (keeps-at-price apart-lasts c.id leg.series leg.side clear k k w (apart-lasts.fill_r i k v a)) there named

    -- its complex order rests behind it
    pub behind-legging : k ≤ l.quantity → MakerStands v o.series (opposite o.side) l.price k c.id
    unfolding legging_at complex_at is_complex_of
    behind-legging le = legging j (rw (holds, eq-eqb (cx v j).id c.id is)) hl (sym (f.homes.home n hl).id ∙ is) refl le

    -- and no regular order has its id
    pub no-order : (m : ℕ) → is_regular_of c.id (regular_at v m) ≡ true → ⊥
    unfolding regular_at is_regular_of
    no-order m t =
        a.both m j (and_l (held (reg v m).quantity) (eqb (reg v m).id c.id) t) holds
        (eqb-true (reg v m).id c.id (and_r (held (reg v m).quantity) (eqb (reg v m).id c.id) t) ∙ sym is)

    pub tells-hit : NonePassedOver v o.series o.side l.price k o.id c.id → Tells v (hit i l k v)
    unfolding hit regular_at ◌⟫◌ report
    tells-hit none = tells-then v (own ⟫ taking) pairing (tells-then v own taking (tells-own none) tells-other) tells-pair

-- Turns ---------------------------------------------------------------------------------------

module _ (i s d : ℕ) (v : Venue) (f : Fine v) (r : Ready i s d v) (some : Positive v) where
  abbrev own-order : Regular
  own-order = reg v i

  abbrev its-legging : Legging
  its-legging = legging_at v own-order.series (opposite own-order.side)

  abbrev meets : Regular → Bool
  meets = is_met own-order.series own-order.side own-order.price

  pays-here : held its-legging.quantity ≡ true → Pays v own-order.series its-legging
  unfolding legging_at
  pays-here = rw (r.series, r.side) r.pays

  hits : held own-order.quantity ≡ true → HitsFirst v own-order some → (k : ℕ) → k ≤ its-legging.quantity → Tells v (hit i its-legging k v)
  unfolding legging_at
  hits h first k le =
      let pays = pays-here first.there in
      tells-hit v f i k h first.there pays (hit-passes-none v own-order some first k _ _ (behind-legging v f i k h first.there pays le) (no-order v f i k h first.there pays))

  meets-one : held own-order.quantity ≡ true → (j : ℕ) (m : Regular) → first meets price_then_id v.regular ≡ picked j m → At no_regular meets v.regular j m →
      legging_first own-order its-legging m.price ≡ false → (k : ℕ) → k ≤ m.quantity → (held (shown_size m) ≡ true → k ≤ shown_size m) → Tells v (meet i j k v)
  unfolding is_met
  meets-one h j m picks at worse k le own =
      let rests : rests_at own-order.series (opposite own-order.side) m ≡ true = and_l _ _ at.is in
      let none = met-passes-none v own-order some j m at.at at.is picks (good-apart f.good) worse k le own own-order.id in
      tells-meet i j k v (good-apart f.good)
      (λ e. opposite-not own-order.side (ap (λ (n : ℕ). (reg v n).side) (sym e) ∙ ap (λ (x : Regular). x.side) at.at ∙ rests-side _ _ m rests))
      h (rw at.at (rests-held _ _ m rests))
      (subst (λ (x : Regular). NonePassedOver v x.series own-order.side x.price k own-order.id x.id) (sym at.at)
      (subst (λ (n : ℕ). NonePassedOver v n own-order.side m.price k own-order.id m.id) (sym (rests-series _ _ m rests)) none))

  told-turn : TellsTurn Any v (meet_turn i v)
  unfolding meet_turn first_met regular_at
  told-turn = go (held own-order.quantity) refl (first meets price_then_id v.regular) refl (first-chosen no_regular meets price_then_id v.regular)
    where
      hit-for : ℕ
      hit-for = min own-order.quantity its-legging.quantity

      hit_few : hit-for ≤ its-legging.quantity
      hit_few = omega arith

      go : (b : Bool) → held own-order.quantity ≡ b → (x : Choice Regular) → first meets price_then_id v.regular ≡ x → Chosen no_regular meets v.regular x →
          TellsTurn Any v (if not b then ended else elim x as (λ _. Turn) [
            | nobody ↦ if legging_first own-order its-legging 0 then turned (hit i its-legging hit-for v) else ended
            | picked j m ↦
                if legging_first own-order its-legging m.price then turned (hit i its-legging hit-for v)
                else turned (meet i j (min own-order.quantity (at_once m)) v)
          ])
      go false e x is c = tt
      go true e nobody is c =
          if-by (TellsTurn Any v) (legging_first own-order its-legging 0)
          (λ t. (hits e (hits-first v own-order some 0 t (λ n q. absurd (nobody-met v own-order some c n q))) hit-for hit_few, tt)) (λ _. tt)
      go true e (picked j m) is c =
          if-by (TellsTurn Any v) (legging_first own-order its-legging m.price)
          (λ t. (
            hits e (hits-first v own-order some m.price t
                (legging-alone _ _ _ v.regular m (met-first _ _ _ v.regular j m is) own-order refl its-legging t)) hit-for hit_few,
            tt,
          ))
          (λ t. (
            meets-one e j m is c t (min own-order.quantity (at_once m)) (let most = once-most m in omega arith)
                (λ t. let once = once-shown m t in omega arith),
            tt,
          ))

-- All turns -----------------------------------------------------------------------------------

-- what is kept from turn to turn
pub record Arrives (i s d : ℕ) (v : Venue) : Type 0 where
  pub fine : Fine v
  pub ready : Ready i s d v
  pub priced : Positive v

tells-turn : (i s d : ℕ) (v : Venue) → Arrives i s d v → TellsTurn (Arrives i s d) v (meet_turn i v)
tells-turn i s d v a = go (meet_turn i v) (told-turn i s d v a.fine a.ready a.priced) (meet_turn-ok i s d v a.fine a.ready)
  where
    go : (t : Turn) → TellsTurn Any v t → TurnOk (Ready i s d) v t → TellsTurn (Arrives i s d) v t
    go ended h k = tt
    go (turned e) h k = (h.0, record { fine = fine-after a.fine k.0; ready = k.1; priced = positive-kept v e.venue k.0.moves.regular a.priced })

pub tells-matching : (i s d fuel : ℕ) (v : Venue) → Arrives i s d v → Tells v (repeat fuel (meet_turn i) v)
tells-matching i s d = tells-repeat (Arrives i s d) (meet_turn i) (tells-turn i s d)
