-- What an accepted message does is told by its records, but that orders show again, and no trade of it passes anything over.
use mathlib.Core.Path.{◌∙◌, ◌≡◌, ap, refl, subst, sym}
use mathlib.Core.Bool.{◌||◌, false, not, true}
use mathlib.Core.List.{List, [], ◌∷◌}
use Prim.Native.Nat.{◌<◌, min, suc, zero, ℕ}
use native.Mathlib.Nat.{min-zero, suc-min-suc, zero-min}
use native.Mathlib.Omega.{arith}
use lib.Dec.{eqb}
use lib.ListN.{length, take}
use borrow.Author.Tests.{leb-false, leb-true, not-false, not-true}
use Rattle.rules.specs.declared.Complex.{Complex}
use Rattle.rules.specs.declared.Message.{Message}
use Rattle.rules.specs.declared.Message.TheVariants.{Away, Cancel, Increment, LimitedSweep, Order, Percent, Status, Sweep, TwoLeg}
use Rattle.rules.specs.declared.Regular.{Regular}
use Rattle.rules.specs.declared.Venue.{Venue}
use Rattle.rules.specs.Base.{held}
use Rattle.rules.specs.Words.{complex_at, is_complex_of, is_price, is_regular_of, no_complex, no_regular, regular_at, with_complex, with_generations, with_last, with_legging, with_reached, with_regular, within}
use Rattle.rules.specs.Records.{cancelled, looked}
use Rattle.rules.specs.Effects.{Effect, ◌⟫◌, report}
use Rattle.rules.specs.Removal.{remove_of}
use Rattle.rules.specs.Standing.{settle, show_again, verdict}
use Rattle.rules.specs.Trading.{fill_complex, fill_regular, free_complex, free_regular, put_complex, put_regular}
use Rattle.rules.specs.Order.{enter_regular, order}
use Rattle.rules.specs.Generation.{generate}
use Rattle.rules.specs.Complex.{cancel, cancel_complex, cancel_regular, complex, complex_place, each_of, examined, going_round, id_reached}
use Rattle.rules.specs.Complex.{limited_sweep, regular_place, resting_places, rests_complex, rests_regular, sweep, work}
use Rattle.rules.specs.Refusals.{full, id_too_low, regular_in_range, unknown}
use Rattle.rules.specs.Step.{perform}
use Rattle.rules.proofs.Cases.{if-by}
use Rattle.rules.proofs.Filling.{cx, fill-complex, reg}
use Rattle.rules.proofs.Finding.{where-passes}
use Rattle.rules.proofs.RefusalsLaws.{Passed, well_formed}
use Rattle.rules.proofs.Tests.{and_l, and_r, or_r}
use Rattle.rules.proofs.Traffic.{looked-each, resting-each}
use Rattle.rules.proofs.Widths.{Ranged, set-each}
use Rattle.demands.proofs.Admitting.{Joins, JoinsC, complex-admitted, order-admitted, order-ready, with_complex_order, with_order}
use Rattle.demands.proofs.Homes.{Fine, Invariant, after-complex, homes_same}
use Rattle.demands.proofs.Messages.{order-joins}
use Rattle.demands.proofs.SoundnessLaws.{range-of}
use Rattle.replay.specs.Replay.{State, entered, lessen_complex, lessen_order, looked_at, next, noted}
use Rattle.replay.proofs.TellsLaws.{Tells, TellsFrom, from_then, tells-report, tells-then}
use Rattle.replay.proofs.Placing.{Places, likened, places-each_of, places-generate, places-remove, tells-remove}
use Rattle.replay.proofs.Lessening.{Apart, good-apart, lessen-complex, lessen-no-complex, lessen-no-order, lessen-order}
use Rattle.replay.proofs.Passing.{Positive}
use Rattle.replay.proofs.Arriving.{Arrives, tells-matching}
use Rattle.replay.proofs.Working.{tells-sweep, tells-work}

-- Settling and after --------------------------------------------------------------------------

-- the records of the effect e upon u, in the message of a number, lead to the venue `left`, which is what e leaves but that its orders have not shown again
pub record Ends (number : ℕ) (u : Venue) (e : Effect) : Type 0 where
  pub left : Venue
  pub shows : e.venue ≡ show_again left
  pub tells : (x : State) → x.number ≡ number → TellsFrom x u (record { venue = left; reports = e.reports })

module _ {number : ℕ} where
  -- legging places and generations alone change after orders have shown again
  ends-places : (u : Venue) (g : Effect) → Places number (show_again u) g → Ends number u g
  unfolding show_again with_regular likened with_legging with_generations
  ends-places u g p = record { left = likened u g.venue; shows = p.keeps; tells = p.tells u }

  ends-settle : (u : Venue) → Ends number u (settle u)
  unfolding settle
  ends-settle u = ends-places u (settle u) (places-remove number (verdict (show_again u)) (show_again u))

  -- first what tells, and then what ends
  ends-then : (u : Venue) (e : Effect) (f : Venue → Effect) → Tells u e → Ends number e.venue (f e.venue) → Ends number u (e ⟫ f)
  unfolding ◌⟫◌
  ends-then u e f a b = record {
    left = b.left;
    shows = b.shows;
    tells = λ x n. from_then x u e (λ _. record { venue = b.left; reports = (f e.venue).reports }) (a x) (b.tells x n);
  }

  -- and legging places and generations alone after that
  ends_more : (u : Venue) (e : Effect) (f : Venue → Effect) → Ends number u e → Places number e.venue (f e.venue) → Ends number u (e ⟫ f)
  unfolding ◌⟫◌
  ends_more u e f a p =
      let b = ends-places a.left (f e.venue) (subst (λ (w : Venue). Places number w (f e.venue)) a.shows p) in
      record {
        left = b.left;
        shows = b.shows;
        tells = λ x n. from_then x u (record { venue = a.left; reports = e.reports }) (λ _. record { venue = b.left; reports = (f e.venue).reports }) (a.tells x n) (b.tells x n);
      }

-- Cancel --------------------------------------------------------------------------------------

next-cancelled : (id q : ℕ) (v w : Venue) → lessen_complex id q (lessen_order id q v) ≡ w → (x : State) → next (cancelled id q) (noted x v) ≡ noted x w
unfolding next noted
next-cancelled id q v w e x = ap (noted x) e

module _ (v : Venue) (a : Apart v) where
  tells-cancel_regular : (i : ℕ) → held (reg v i).quantity ≡ true → Tells v (cancel_regular i v)
  unfolding cancel_regular regular_at
  tells-cancel_regular i h =
      let o = reg v i in
      let w = fill_regular i o.quantity v in
      tells-report _ v _
      (next-cancelled o.id o.quantity v w
      (ap (lessen_complex o.id o.quantity) (lessen-order v a i o.quantity h)
      ∙ lessen-no-complex w o.id o.quantity (λ j q e. a.both i j h (rw (fill-complex i o.quantity v) at q) (sym (rw (fill-complex i o.quantity v) at e))))) tt

  tells-cancel_complex : (i : ℕ) → held (cx v i).quantity ≡ true → Tells v (cancel_complex i v)
  unfolding cancel_complex complex_at remove_of
  tells-cancel_complex i h =
      let c = cx v i in
      tells-then v _ _
      (tells-report _ v _
      (next-cancelled c.id c.quantity v (fill_complex i c.quantity v)
      (ap (lessen_complex c.id c.quantity) (lessen-no-order v a i c.quantity h) ∙ lessen-complex v a i c.quantity h)) tt)
      (tells-remove _ _)

  ends-cancel : {number : ℕ} (id : ℕ) → (rests_regular v id || rests_complex v id) ≡ true → Ends number v (cancel id v)
  unfolding cancel
  ends-cancel id h =
      ends-then v _ settle
      (if-by (Tells v) (rests_regular v id)
      (λ e. tells-cancel_regular (regular_place v id) (unfold rests_regular is_regular_of regular_at in (and_l (held (reg v (regular_place v id)).quantity) (eqb (reg v (regular_place v id)).id id) e)))
      (λ e. tells-cancel_complex (complex_place v id)
      (unfold rests_complex is_complex_of complex_at in (and_l (held (cx v (complex_place v id)).quantity) (eqb (cx v (complex_place v id)).id id) (or_r (rests_regular v id) _ e h)))))
      (ends-settle _)

-- A limited sweep's 72 ------------------------------------------------------------------------

-- as many as there are, of n
firsts-there : (n : ℕ) (l : List ℕ) → take (min n (length l)) l ≡ take n l
firsts-there zero l = rw (zero-min (length l))
firsts-there (suc n) [] = rw (min-zero (suc n))
firsts-there (suc n) (i ∷ l) = rw (suc-min-suc n (length l), firsts-there n l)

tells-looked : (n : ℕ) (v : Venue) → Tells v (report (looked (examined n v)) (with_reached v (id_reached v (take n (going_round v)))))
unfolding examined
tells-looked n v = tells-report _ v _ (λ x. unfold next noted looked_at in (ap (λ (l : List ℕ). noted x (with_reached v (id_reached v l))) (firsts-there n (going_round v)))) tt

fine-reached : (x : ℕ) (v : Venue) → Fine v → Fine (with_reached v x)
unfolding with_reached
fine-reached x v f = record {
  good = record {
    len1 = f.good.len1;
    len2 = f.good.len2;
    ranges = f.good.ranges;
    rise1 = f.good.rise1;
    rise2 = f.good.rise2;
    rx = f.good.rx;
    rlast = f.good.rlast;
    xlast = f.good.xlast;
  };
  homes = homes_same {v = v} refl refl f.homes;
}

-- Orders --------------------------------------------------------------------------------------

range-priced : (o : Regular) → regular_in_range o ≡ true → 0 < o.price
unfolding regular_in_range is_price within
range-priced o h = leb-true 1 o.price (search (and_l, and_r, h) depth 12)

ranged-priced : (v : Venue) → Ranged v → Positive v
ranged-priced v r n h = range-priced (reg v n) ((r.regular n).ok h)

module _ (v : Venue) (k : Invariant v) (number : ℕ) where
  some : Positive v
  some = ranged-priced v k.ranged

  module _ (o : Regular) (p : Passed v (Order o)) where
    abbrev i : ℕ
    i = free_regular v

    joins : Joins v o i
    joins = order-joins v k.fine k.tidy o p

    arrives : Arrives i o.series o.side (with_order v o i)
    arrives = record {
      fine = (order-admitted v o i joins).fine;
      ready = order-ready v o i joins k.stand;
      priced = unfold with_regular with_last in
          (set-each (λ (x : Regular). held x.quantity ≡ true → 0 < x.price) no_regular v.regular i o
          (λ _. range-priced o (unfold well_formed in p.range)) some);
    }

    ends-order : Ends number (entered number (Order o) v) (perform number (Order o) v)
    unfolding entered perform order enter_regular put_regular free_regular with_last
    ends-order = ends-then (with_order v o i) _ settle (tells-matching i o.series o.side o.quantity (with_order v o i) arrives) (ends-settle _)

  module _ (c : Complex) (p : Passed v (TwoLeg c)) where
    abbrev j : ℕ
    j = free_complex v

    joins_c : JoinsC v c j
    joins_c =
        let there : j < 32 = unfold full in (leb-false 32 (free_complex v) p.room) in
        let free : held (cx v j).quantity ≡ false = unfold free_complex in
        (not-true _ (where-passes no_complex (λ x. not (held x.quantity)) v.complex
        (unfold free_complex in (rw k.fine.good.len2 there)))) in
        record {
          fine = k.fine;
          range = range-of c (unfold well_formed in p.range);
          new = unfold id_too_low in (leb-false c.id v.last p.fresh-id);
          there = there;
          free = free;
          behind = after-complex k.tidy j free;
        }

    abbrev w : Venue
    w = with_complex_order v c j

    ends-complex : Ends number (entered number (TwoLeg c) v) (perform number (TwoLeg c) v)
    unfolding entered perform complex put_complex free_complex with_last with_complex
    ends-complex =
        ends_more w (work j w ⟫ settle) (generate number j)
        (ends-then w (work j w) settle (tells-work j joins_c.there w (complex-admitted v c j joins_c).fine some) (ends-settle _))
        (places-generate number j _)

  ends-sweep : Ends number v (sweep number v)
  unfolding sweep
  ends-sweep =
      let places = resting_places v in
      let low = resting-each (λ i. i < 32) v (λ j l _. (let e = k.fine.good.len2 in omega arith)) in
      ends_more v (each_of work places v ⟫ settle) (each_of (generate number) places)
      (ends-then v (each_of work places v) settle (tells-sweep places low v k.fine some) (ends-settle _)) (places-each_of number places _)

  ends-limited : (n : ℕ) → Ends number v (limited_sweep number n v)
  unfolding limited_sweep report with_reached
  ends-limited n =
      let places = take n (going_round v) in
      let u = with_reached v (id_reached v places) in
      let low = looked-each (λ i. i < 32) n v (λ j l _. (let e = k.fine.good.len2 in omega arith)) in
      ends_more v _ (each_of (generate number) places)
      (ends-then v _ settle (tells-then v (report (looked (examined n v)) u) (each_of work places) (tells-looked n v) (tells-sweep places low u (fine-reached _ v k.fine) some)) (ends-settle _))
      (places-each_of number places _)

  -- Every message
  pub performs : (m : Message) → Passed v m → Ends number (entered number m v) (perform number m v)
  unfolding entered perform sweep unknown
  performs (Order o) p = ends-order o p
  performs (TwoLeg c) p = ends-complex c p
  performs (Cancel id) p = ends-cancel v (good-apart k.fine.good) id (not-false _ p.known)
  performs (Away s b o) p = ends-settle _
  performs (Status s x) p = ends-settle _
  performs Sweep p = ends-sweep
  performs (Increment s x e) p = ends-settle _
  performs (Percent x e) p = ends-settle _
  performs (LimitedSweep n) p = ends-limited n
