-- "A complex order takes shown size only": what complex orders take from the orders of an id, and what these show after it, is no more than they showed
-- before. So for every effect up to settling, upon any venue; from there on nothing is traded.
use Rattle.std.specs.Prelude.{if◌then◌else◌}
use mathlib.Core.Path.{◌∙◌, ◌≡◌, ap, refl, subst}
use mathlib.Core.Bool.{Bool, ◌&&◌, false, not, true}
use mathlib.Core.Logic.{◌≢◌}
use mathlib.Core.List.{List, [], ◌∷◌}
use Prim.Native.Nat.{◌+◌, ◌-◌, ◌<◌, ◌≤◌, suc, zero, ℕ}
use native.Mathlib.Omega.{arith}
use lib.Dec.{eqb}
use lib.IntN.{ℤ}
use lib.ListN.{length}
use lib.Seq.{get_or-set_same}
use borrow.Author.Tests.{eq-eqb, eqb-true, leb-false, ne_eqb}
use Rattle.rules.specs.declared.Cause.{Cause}
use Rattle.rules.specs.declared.Cause.TheVariants.{Executed}
use Rattle.rules.specs.declared.Complex.{Complex}
use Rattle.rules.specs.declared.Legging.{Legging}
use Rattle.rules.specs.declared.Message.{Message}
use Rattle.rules.specs.declared.Message.TheVariants.{Away, Cancel, Increment, LimitedSweep, Order, Percent, Status, Sweep, TwoLeg}
use Rattle.rules.specs.declared.Regular.{Regular}
use Rattle.rules.specs.declared.Venue.{Venue}
use Rattle.rules.specs.declared.Verdict.{Verdict}
use Rattle.rules.specs.Base.{held}
use Rattle.rules.specs.Words.{complex_at, no_regular, regular_at, with_complex, with_last, with_legging, with_reached, with_regular}
use Rattle.rules.specs.Messages.{message_of}
use Rattle.rules.specs.Records.{Report, cancelled, crossed, generated, looked, pair, trade}
use Rattle.rules.specs.Effects.{Effect, Turn, ◌⟫◌, ended, nothing, repeat, report, turned}
use Rattle.rules.specs.Prices.{shown_size}
use Rattle.rules.specs.Removal.{remove, remove_of}
use Rattle.rules.specs.Standing.{settle}
use Rattle.rules.specs.Trading.{fill_complex, fill_regular, free_regular, less_regular, pair_off, put_complex, put_regular, trade_at_price, trade_with}
use Rattle.rules.specs.Order.{enter_regular, hit, meet, meet_turn, order}
use Rattle.rules.specs.Generation.{generate, generate_leg, make, makes}
use Rattle.rules.specs.Complex.{any_closed, cancel, cancel_complex, cancel_regular, complex, cross, cross_turn, each_of, leg_in, leg_in_turn, legs_in}
use Rattle.rules.specs.Complex.{limited_sweep, resting_places, rests_regular, sweep, touch, touches, units_in, work}
use Rattle.rules.specs.Refusals.{full, id_too_low, refusal}
use Rattle.rules.specs.Step.{accept, answered, perform, step}
use Rattle.rules.specs.Sums.{open_in, total}
use Rattle.demands.specs.Soundness.{SoundVenue}
use Rattle.demands.specs.Reserve.{OthersBringNone, ShownOnly, arriving, taken_from}
use Rattle.rules.proofs.Adding.{leavers-silent, open-alone, open-less, open-set, total-append}
use Rattle.rules.proofs.Cases.{cross_turn-by, if-by, meet_turn-by, repeat-by}
use Rattle.rules.proofs.Again.{again-fewer}
use Rattle.rules.proofs.Filling.{fill-fewer, fill_c-regular, reg}
use Rattle.rules.proofs.EffectsLaws.{Lasts, hit-from, meet-from}
use Rattle.rules.proofs.RefusalsLaws.{Passed, accepted}
use Rattle.rules.proofs.Sizes.{shown-less, shown-lessens, shown-most}
use Rattle.rules.proofs.TradingLaws.{Chain, no-more, at-price-chain, traded}
use Rattle.rules.proofs.Tests.{and-false, held-pos, pos-held}
use Rattle.demands.proofs.Homes.{Good, good-rr}
use Rattle.demands.proofs.SoundnessLaws.{sound-out}

-- What is taken -------------------------------------------------------------------------------

-- what the orders of id y show
abbrev shows_of : (y : ℕ) → Venue → ℕ
shows_of y v = open_in (λ (o : Regular). o.id) shown_size y v.regular

-- taken of the orders of id y, by takers other than x
module _ (x y : ℕ) where
  abbrev took : List Report → ℕ
  took = total (taken_from x y)

  abbrev shows : Venue → ℕ
  shows v = shows_of y v

  abbrev Takes : Venue → Effect → Type 0
  Takes v e = took e.reports + shows e.venue ≤ shows v

  takes-then : (v : Venue) (e : Effect) (f : Venue → Effect) → Takes v e → Takes e.venue (f e.venue) → Takes v (e ⟫ f)
  unfolding ◌⟫◌
  takes-then v e f a b = rw (total-append (taken_from x y) e.reports (f e.venue).reports) (omega arith)

  -- nothing is traded
  silent : (v : Venue) (e : Effect) → e.venue.regular ≡ v.regular → took e.reports ≡ 0 → Takes v e
  silent v e same none =
      let z : shows e.venue ≡ shows v = ap (λ (l : List Regular). open_in (λ (o : Regular). o.id) shown_size y l) same in
      omega arith

  takes-nothing : (v : Venue) → Takes v (nothing v)
  unfolding nothing total
  takes-nothing v = omega arith

  -- One trade
  trade-most : (s d p q z m : ℕ) → taken_from x y (trade s d p q z m) ≤ (if eqb m y then q else 0)
  unfolding taken_from
  trade-most s d p q z m = go (eqb m y) (eqb z x)
    where
      go : (a b : Bool) → (if a && not b then q else 0) ≤ (if a then q else 0)
      go true true = omega arith
      go true false = omega arith
      go false b = omega arith

  trade-own : (s d p q z m : ℕ) → z ≡ x → taken_from x y (trade s d p q z m) ≡ 0
  unfolding taken_from
  trade-own s d p q z m e = rw (eq-eqb z x e, and-false)

  takes-chain : {z s d p : ℕ} {v w : Venue} {rs : List Report} → Chain z s d p v rs w → took rs + shows w ≤ shows v
  unfolding total regular_at
  takes-chain no-more = omega arith
  takes-chain {z = z} {d = d} (traded {v = v} i q f t e le c) =
      let ih = takes-chain c in
      let a = less v i q f le in
      let b = trade-most (reg v i).series d (reg v i).price q z (reg v i).id in
      omega arith
    where
      less : (v : Venue) (i q : ℕ) → i < length v.regular → q ≤ shown_size (reg v i) → shows v ≡ shows (fill_regular i q v) + (if eqb (reg v i).id y then q else 0)
      less v i q f le = unfold fill_regular with_regular regular_at in
          (open-less no_regular (λ (o : Regular). o.id) shown_size y q v.regular i (less_regular q (reg v i)) f (unfold less_regular in refl)
          (shown-less q (reg v i) le))

  takes-at-price : (z s d p fuel k : ℕ) (v : Venue) → Takes v (trade_at_price fuel z s d p k v)
  takes-at-price z s d p fuel k v = takes-chain (at-price-chain z s d p fuel k v)

  shows-fill : (i k : ℕ) (v : Venue) → shows (fill_regular i k v) ≤ shows v
  unfolding fill_regular with_regular regular_at less_regular
  shows-fill i k v = open-set no_regular (λ (o : Regular). o.id) shown_size y v.regular i (less_regular k (reg v i)) (go (eqb (reg v i).id y) (shown-lessens k (reg v i)))
    where
      go : (b : Bool) → shown_size (less_regular k (reg v i)) ≡ shown_size (reg v i) - k → (if b then shown_size (less_regular k (reg v i)) else 0) ≤ (if b then shown_size (reg v i) else 0)
      go true e = omega arith
      go false e = omega arith

  -- the trade of an order x, and the fill of a maker or of itself
  own-trade : (s d p q z m i k : ℕ) (v : Venue) → z ≡ x → Takes v (report (trade s d p q z m) (fill_regular i k v))
  unfolding report total
  own-trade s d p q z m i k v e = let a = trade-own s d p q z m e in let b = shows-fill i k v in omega arith

  -- Removals and pairs
  removes : (f : ℕ → Legging → Verdict) (v : Venue) → Takes v (remove f v)
  unfolding remove with_legging taken_from
  removes f v = silent v (remove f v) refl (leavers-silent (taken_from x y) (λ _ _ _ _. refl) f 0 v.legging)

  removes-of : (id : ℕ) (c : Cause) (v : Venue) → Takes v (remove_of id c v)
  unfolding remove_of
  removes-of id c v = removes _ v

  says-pair : (id : ℕ) (n : ℤ) (k : ℕ) (v w : Venue) → w.regular ≡ v.regular → Takes v (report (pair id n k) w)
  unfolding report total taken_from
  says-pair id n k v w same = silent v (report (pair id n k) w) same refl

  says-cross : (z m : ℕ) (n : ℤ) (k : ℕ) (v w : Venue) → w.regular ≡ v.regular → Takes v (report (crossed z m n k) w)
  unfolding report total taken_from
  says-cross z m n k v w same = silent v (report (crossed z m n k) w) same refl

  pairs-off : (i id : ℕ) (n : ℤ) (k : ℕ) (v : Venue) → Takes v (pair_off i id n k v)
  unfolding pair_off
  pairs-off i id n k v = takes-then v _ _ (says-pair id n k v (fill_complex i k v) (fill_c-regular i k v)) (removes-of id Executed _)

  -- Turns
  abbrev TakesTurn : (Venue → Type 0) → Venue → Turn → Type 0
  TakesTurn P v ended = Unit {0}
  TakesTurn P v (turned e) = Takes v e × P e.venue

  takes-repeat : (P : Venue → Type 0) (turn : Venue → Turn) → ((v : Venue) → P v → TakesTurn P v (turn v)) → (fuel : ℕ) (v : Venue) → P v → Takes v (repeat fuel turn v)
  takes-repeat P turn ok zero v h = unfold repeat in (takes-nothing v)
  takes-repeat P turn ok (suc fuel) v h =
      repeat-by (Takes v) fuel turn v (λ _. takes-nothing v)
      (λ e is. let k = subst (TakesTurn P v) is (ok v h) in takes-then v e _ k.0 (takes-repeat P turn ok fuel _ k.1))

  -- An order that arrives at place i
  module _ (i : ℕ) where
    abbrev Own : Venue → Type 0
    Own v = (reg v i).id ≡ x

    own-lasts : Lasts Own
    own-lasts = record {
      fill_r = λ j k v h. ((fill-fewer j k v).lesser i).id ∙ h;
      fill_c = λ j k v h. unfold fill_complex with_complex in h;
      gone = λ f v h. unfold remove with_legging in h;
      again = λ v h. ((again-fewer v).lesser i).id ∙ h;
    }

    meets : (j k : ℕ) (v : Venue) → Own v → Takes v (meet i j k v)
    unfolding meet trade_with regular_at
    meets j k v h =
        let a = own-trade (reg (fill_regular i k v) j).series (reg v i).side (reg (fill_regular i k v) j).price k (reg v i).id (reg (fill_regular i k v) j).id j k (fill_regular i k v) h in
        let b = shows-fill i k v in
        omega arith

    hits : (l : Legging) (k : ℕ) (v : Venue) → Own v → Takes v (hit i l k v)
    unfolding hit regular_at
    hits l k v h =
        takes-then v _ _ (takes-then v _ _ (own-trade _ _ _ k (reg v i).id _ i k v h) (takes-at-price _ _ _ _ k k _)) (pairs-off _ _ _ k _)

    turns : (v : Venue) → Own v → TakesTurn Own v (meet_turn i v)
    turns v h =
        meet_turn-by (TakesTurn Own v) i v (λ _. tt) (λ _ _ _. tt)
        (λ _ _ _. (hits _ _ v h, hit-from own-lasts i _ _ v (own-lasts.fill_r i _ v h)))
        (λ _ j _ _ _. (meets j _ v h, meet-from own-lasts i j _ v (own-lasts.fill_r i _ v h)))

  -- A complex order at place i
  module _ (i : ℕ) where
    abbrev Any : Venue → Type 0
    Any v = Unit {0}

    crosses-here : (j k : ℕ) (v : Venue) → Takes v (cross i j k v)
    unfolding cross
    crosses-here j k v =
        takes-then v _ _ (takes-then v _ _
        (says-cross _ _ _ k v (fill_complex j k (fill_complex i k v)) (fill_c-regular j k (fill_complex i k v) ∙ fill_c-regular i k v))
        (removes-of _ _ _)) (removes-of _ _ _)

    cross-turns : (v : Venue) → Any v → TakesTurn Any v (cross_turn i v)
    cross-turns v _ = cross_turn-by (TakesTurn Any v) i v (λ _. tt) (λ _ _. tt) (λ _ j _ _. (crosses-here j _ v, tt))

    touches-here : (v : Venue) → Takes v (touch i v)
    unfolding touch
    touches-here v = if-by (Takes v) (touches v (complex_at v i)) (λ _. removes _ v) (λ _. takes-nothing v)

    legs : (a b k : ℕ) (v : Venue) → Takes v (leg_in i a b k v)
    unfolding leg_in
    legs a b k v = takes-then v _ _ (takes-then v _ _ (takes-at-price _ _ _ _ _ _ v) (takes-at-price _ _ _ _ _ _ _)) (pairs-off i _ _ k _)

    leg-turns : (v : Venue) → Any v → TakesTurn Any v (leg_in_turn i v)
    unfolding leg_in_turn
    leg-turns v _ = if-by (TakesTurn Any v) (legs_in v (complex_at v i) _ _ && held (units_in v (complex_at v i))) (λ _. (legs _ _ _ v, tt)) (λ _. tt)

    works : (v : Venue) → Takes v (work i v)
    unfolding work
    works v =
        if-by (Takes v) (any_closed v (complex_at v i)) (λ _. takes-nothing v)
        (λ _. takes-then v _ _ (takes-then v _ _ (takes-repeat Any _ cross-turns _ v tt) (touches-here _)) (takes-repeat Any _ leg-turns _ _ tt))

  takes-each_of : (places : List ℕ) (v : Venue) → Takes v (each_of work places v)
  unfolding each_of
  takes-each_of [] v = takes-nothing v
  takes-each_of (i ∷ places) v = takes-then v (work i v) _ (works i v) (takes-each_of places _)

  says-looked : (n r : ℕ) (v : Venue) → Takes v (report (looked n) (with_reached v r))
  unfolding report total taken_from with_reached
  says-looked n r v = silent v (report (looked n) (with_reached v r)) refl refl

  takes-looked : (n r : ℕ) (places : List ℕ) (v : Venue) → took (report (looked n) (with_reached v r) ⟫ each_of work places).reports ≤ shows v
  takes-looked n r places v = let a = takes-then v (report (looked n) (with_reached v r)) (each_of work places) (says-looked n r v) (takes-each_of places _) in omega arith

  -- From settling on ----------------------------------------------------------------------------

  abbrev None : Effect → Type 0
  None e = took e.reports ≡ 0

  none-nothing : (v : Venue) → None (nothing v)
  unfolding nothing total
  none-nothing v = refl

  none_then : (e : Effect) (f : Venue → Effect) → None e → None (f e.venue) → None (e ⟫ f)
  unfolding ◌⟫◌
  none_then e f a b = rw (total-append (taken_from x y) e.reports (f e.venue).reports) (omega arith)

  none-remove : (f : ℕ → Legging → Verdict) (v : Venue) → None (remove f v)
  unfolding remove taken_from
  none-remove f v = leavers-silent (taken_from x y) (λ _ _ _ _. refl) f 0 v.legging

  none-remove-of : (id : ℕ) (c : Cause) (v : Venue) → None (remove_of id c v)
  unfolding remove_of
  none-remove-of id c v = none-remove _ v

  none-settle : (v : Venue) → None (settle v)
  unfolding settle
  none-settle v = none-remove _ _

  none_made : (id s d p z k : ℕ) (v : Venue) → None (report (generated id s d p z k) v)
  unfolding report total taken_from
  none_made id s d p z k v = refl

  none-leg : (number : ℕ) (c : Complex) (s d : ℕ) (v : Venue) → None (generate_leg number c s d v)
  unfolding generate_leg make
  none-leg number c s d v = if-by None (held c.quantity && makes number v c s d) (λ _. none_then _ _ (none-remove _ v) (none_made _ _ _ _ _ _ _)) (λ _. none-nothing v)

  none-generate : (number i : ℕ) (v : Venue) → None (generate number i v)
  unfolding generate
  none-generate number i v = none_then _ _ (none-leg number _ _ _ v) (none-leg number _ _ _ _)

  none-each_of : (number : ℕ) (places : List ℕ) (v : Venue) → None (each_of (generate number) places v)
  unfolding each_of
  none-each_of number [] v = none-nothing v
  none-each_of number (i ∷ places) v = none_then (generate number i v) _ (none-generate number i v) (none-each_of number places _)

  -- an effect that takes no more than is shown, and then one that takes nothing
  within : (v : Venue) (e : Effect) (f : Venue → Effect) → took e.reports ≤ shows v → None (f e.venue) → took (e ⟫ f).reports ≤ shows v
  unfolding ◌⟫◌
  within v e f a b = rw (total-append (taken_from x y) e.reports (f e.venue).reports) (omega arith)

  settled : (v w : Venue) → took (settle w).reports ≤ shows v
  settled v w = let a = none-settle w in omega arith

  -- Messages ------------------------------------------------------------------------------------

  none-cancelled : (id k : ℕ) (v : Venue) → None (report (cancelled id k) v)
  unfolding report total taken_from
  none-cancelled id k v = refl

  none-cancel : (id : ℕ) (v : Venue) → None (cancel id v)
  unfolding cancel cancel_regular cancel_complex
  none-cancel id v =
      none_then _ settle
      (if-by None (rests_regular v id) (λ _. none-cancelled _ _ _) (λ _. none_then _ _ (none-cancelled _ _ _) (none-remove-of _ _ _)))
      (none-settle _)

  -- an order x that is not y is put into a place, where it has its id
  put-shows : (i : ℕ) (o : Regular) (v : Venue) → o.id ≢ y → shows (put_regular i o v) ≤ shows v
  unfolding put_regular with_regular
  put-shows i o v ne = open-set no_regular (λ (r : Regular). r.id) shown_size y v.regular i o (rw (ne_eqb o.id y ne) (omega arith))

  put-own : (i : ℕ) (o : Regular) (v : Venue) → i < length v.regular → o.id ≡ x → (reg (put_regular i o v) i).id ≡ x
  unfolding put_regular with_regular
  put-own i o v fits e = ap (λ (r : Regular). r.id) (get_or-set_same v.regular i o no_regular fits) ∙ e

  ordered : (o : Regular) (v : Venue) → o.id ≡ x → o.id ≢ y → free_regular v < length v.regular → took (order o v).reports ≤ shows v
  unfolding order enter_regular
  ordered o v e ne fits =
      let i = free_regular v in
      let w = put_regular i o v in
      let a = takes-repeat (Own i) (meet_turn i) (turns i) o.quantity w (put-own i o v fits e) in
      let b = put-shows i o v ne in
      within v (repeat o.quantity (meet_turn i) w) settle (omega arith) (none-settle _)

  -- the order that a message brings is x, is not y, and finds a place
  abbrev Arrives : Message → Venue → Type 0
  Arrives (Order o) v = (o.id ≡ x) × (o.id ≢ y) × (free_regular v < length v.regular)
  Arrives (TwoLeg c) v = Unit {0}
  Arrives (Cancel id) v = Unit {0}
  Arrives (Away s b o) v = Unit {0}
  Arrives (Status s z) v = Unit {0}
  Arrives Sweep v = Unit {0}
  Arrives (Increment s i e) v = Unit {0}
  Arrives (Percent z e) v = Unit {0}
  Arrives (LimitedSweep n) v = Unit {0}

  put-regular : (i : ℕ) (c : Complex) (v : Venue) → (put_complex i c (with_last v c.id)).regular ≡ v.regular
  unfolding put_complex with_complex with_last
  put-regular i c v = refl

  worked : (i : ℕ) (v w : Venue) → w.regular ≡ v.regular → took (work i w).reports ≤ shows v
  worked i v w same =
      let z : shows w ≡ shows v = ap (λ (l : List Regular). open_in (λ (o : Regular). o.id) shown_size y l) same in
      let a = works i w in
      omega arith

  performed : (number : ℕ) (m : Message) (v : Venue) → Arrives m v → took (perform number m v).reports ≤ shows v
  unfolding perform complex sweep limited_sweep
  performed number (Order o) v h = unfold with_last free_regular in (ordered o (with_last v o.id) h.0 h.1 h.2)
  performed number (TwoLeg c) v h = within v _ _ (within v _ _ (worked _ v _ (put-regular _ c v)) (none-settle _)) (none-generate number _ _)
  performed number (Cancel id) v h = (let a = none-cancel id v in omega arith)
  performed number (Away s b o) v h = settled v _
  performed number (Status s z) v h = settled v _
  performed number Sweep v h = within v _ _ (within v _ _ (let a = takes-each_of (resting_places v) v in omega arith) (none-settle _)) (none-each_of number _ _)
  performed number (Increment s i e) v h = settled v _
  performed number (Percent z e) v h = settled v _
  performed number (LimitedSweep n) v h =
      within v _ _ (within v _ _ (takes-looked _ _ _ v) (none-settle _)) (none-each_of number _ _)

-- Every message -------------------------------------------------------------------------------

module _ (v : Venue) (s : SoundVenue v) (i : ℕ) (h : held (reg v i).quantity ≡ true) where
  abbrev good : Good v
  good = (sound-out v s).fine.good

  -- no other order has its id
  showed : shows_of (reg v i).id v ≤ shown_size (reg v i)
  showed = open-alone no_regular (λ (o : Regular). o.id) shown_size (reg v i).id v.regular i (λ j ne q e. ne (good-rr good j i (shown-held (reg v j) q) h e))
    where
      shown-held : (o : Regular) → held (shown_size o) ≡ true → held o.quantity ≡ true
      shown-held o q = let a = held-pos (shown_size o) q in let b = shown-most o in pos-held o.quantity (omega arith)

  arrives : (m : Message) → Passed v m → Arrives (arriving m) (reg v i).id m v
  unfolding arriving
  arrives (Order o) p =
      let new : v.last < o.id = unfold id_too_low in (leb-false o.id v.last p.fresh-id) in
      let there : free_regular v < 128 = unfold full in (leb-false 128 (free_regular v) p.room) in
      let last = good.rlast i h in
      (refl, (λ e. omega arith), rw good.len1 there)
  arrives (TwoLeg c) p = tt
  arrives (Cancel id) p = tt
  arrives (Away t b o) p = tt
  arrives (Status t z) p = tt
  arrives Sweep p = tt
  arrives (Increment t z e) p = tt
  arrives (Percent z e) p = tt
  arrives (LimitedSweep n) p = tt

  most : (number : ℕ) (m : Message) → Passed v m → took (arriving m) (reg v i).id (accept number m v).reports ≤ shown_size (reg v i)
  unfolding accept nothing ◌⟫◌ total
  most number m p =
      let a = performed (arriving m) (reg v i).id number m v (arrives m p) in
      let b = showed in
      rw (total-append (taken_from (arriving m) (reg v i).id) (perform number m v).reports []) (omega arith)

pub shown-only : ShownOnly
unfolding step answered nothing total taken_from regular_at
shown-only v s number bs i h = go (eqb (refusal v bs) 0) refl
  where
    go : (b : Bool) → eqb (refusal v bs) 0 ≡ b →
        0 + took (arriving (message_of bs)) (reg v i).id (if b then accept number (message_of bs) v else nothing v).reports ≤ shown_size (reg v i)
    go true e = let a = most v s i h number (message_of bs) (accepted v bs (eqb-true (refusal v bs) 0 e)) in omega arith
    go false e = omega arith

pub others-bring-none : OthersBringNone
unfolding arriving
others-bring-none (Order o) h = absurd (h o refl)
others-bring-none (TwoLeg c) h = refl
others-bring-none (Cancel id) h = refl
others-bring-none (Away s bid offer) h = refl
others-bring-none (Status s x) h = refl
others-bring-none Sweep h = refl
others-bring-none (Increment s i e) h = refl
others-bring-none (Percent x e) h = refl
others-bring-none (LimitedSweep n) h = refl
