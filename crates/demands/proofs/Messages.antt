-- One message: what it brings in, its records and the venue that it leaves, for each kind.
use mathlib.Core.Path.{◌≡◌, ap, refl, subst, sym}
use mathlib.Core.Bool.{◌||◌, false, not, true}
use mathlib.Core.List.Memᴰ
use mathlib.Core.List.{List, Memᴰ, [], ◌∷◌, append-nil}
use Prim.Native.Nat.{◌<◌, ◌≤◌, ℕ}
use native.Mathlib.Omega.{arith}
use lib.Dec.{eqb}
use lib.ListN.{length}
use borrow.Author.Tests.{leb-false, not-false, not-true}
use Rattle.rules.specs.declared.Cause.TheVariants.{Withdrawn}
use Rattle.rules.specs.declared.Complex.{Complex}
use Rattle.rules.specs.declared.Message.{Message}
use Rattle.rules.specs.declared.Message.TheVariants.{Away, Cancel, Increment, LimitedSweep, Order, Percent, Status, Sweep, TwoLeg}
use Rattle.rules.specs.declared.Regular.{Regular}
use Rattle.rules.specs.declared.Venue.{Venue}
use Rattle.rules.specs.Base.{held}
use Rattle.rules.specs.Words.{complex_at, is_complex_of, is_regular_of, no_complex, no_regular, regular_at, with_complex, with_editions, with_last, with_regular, with_series}
use Rattle.rules.specs.Settings.{enter_edition, percentage}
use Rattle.rules.specs.Messages.{message_of}
use Rattle.rules.specs.Records.{Report, answer}
use Rattle.rules.specs.Effects.{Effect, ◌⟫◌, nothing, report}
use Rattle.rules.specs.Standing.{settle}
use Rattle.rules.specs.Trading.{fill_regular, free_complex, free_regular, put_complex, put_regular}
use Rattle.rules.specs.Order.{enter_regular, order}
use Rattle.rules.specs.Complex.{cancel, cancel_complex, cancel_regular, complex, complex_place, regular_place, rests_complex, rests_regular, work}
use Rattle.rules.specs.Refusals.{full, id_too_low, refusal, unknown}
use Rattle.rules.specs.Step.{accept, answered, perform, set_away, set_figure, set_status, step}
use Rattle.rules.specs.Sound.{follows}
use Rattle.rules.specs.Sums.{cancelled_of, contracts, crossed_for, paired, total}
use Rattle.rules.proofs.AllSettled.{settle-all, settled}
use Rattle.rules.proofs.Answering.{told}
use Rattle.rules.proofs.CallsLaws.{left, step_by}
use Rattle.rules.proofs.Cases.{if-by}
use Rattle.rules.proofs.Dating.{some_number, step-priced, step-rises, steps-settled, steps-work}
use Rattle.rules.proofs.Editions.{Stepped, dated-steps, steps-same}
use Rattle.rules.proofs.Filling.{cx, held_fits, held-fits_c, reg}
use Rattle.rules.proofs.Finding.{where-passes}
use Rattle.rules.proofs.Generating.{AllStand, new}
use Rattle.rules.proofs.Ledger.{Moved, moved-silent, moved-trans, silent-nil}
use Rattle.rules.proofs.Moving.{moves-cancel_complex, moves-cancel_regular}
use Rattle.rules.proofs.RefusalsLaws.{Passed, accepted, well_formed}
use Rattle.rules.proofs.Showing.{step-showing}
use Rattle.rules.proofs.Shapes.{Sized, step-sized}
use Rattle.rules.proofs.Traffic.{step-busy, step-reached}
use Rattle.rules.proofs.Tests.{and_l, or_r}
use Rattle.demands.proofs.Account.{Takes}
use Rattle.demands.proofs.Admitting.{Admitted, Joins, JoinsC, NewComplex, NewOrder, admitted-none, complex-admitted, complex-new}
use Rattle.demands.proofs.Admitting.{order-admitted, order-new, order-ready, with_complex_order, with_order}
use Rattle.demands.proofs.ComplexCarries.{Carries, carries-then, fine-after, settle-carries, work-carries}
use Rattle.demands.proofs.Closed.{Ends, ends-closed, ends-here}
use Rattle.demands.proofs.OrderCarries.{enter-carries}
use Rattle.demands.proofs.Homes.{Edited, Fine, Invariant, Tidy, Uncrossed, after-complex, after-regular, good-kept, homes-fill, homes_same}
use Rattle.demands.proofs.GenerationCarries.{Stood, generate-stood, limited-stood, stood-then, sweep-stood}
use Rattle.demands.proofs.SoundnessLaws.{range-of}
use Rattle.demands.proofs.Uncrossed.{uncrossed-closed, uncrossed-perform}

-- Messages that bring no order ----------------------------------------------------------------

record NoOrder (ns : List Message) : Type 0 where
  regular : (o : Regular) → Memᴰ (Order o) ns → ⊥
  complex : (c : Complex) → Memᴰ (TwoLeg c) ns → ⊥

takes-here : {v w : Venue} {qs : List Report} {ns : List Message} → NoOrder ns → Fine v → Moved v qs w → Fine w → AllStand w → Takes v qs w ns
takes-here {v} n f m g st = record {
  start = v;
  admitted = admitted-none f;
  moved = m;
  fine = g;
  stand = st;
  orders = λ o x. absurd (n.regular o x);
  complexes = λ c x. absurd (n.complex c x);
}

takes-stood : {v : Venue} {e : Effect} {ns : List Message} → NoOrder ns → Fine v → Stood v e → Takes v e.reports e.venue ns
takes-stood n f s = takes-here n f s.carries.moves (fine-after f s.carries) s.stand

-- which number a message is
kind : Message → ℕ
kind (Order o) = 1
kind (TwoLeg c) = 2
kind (Cancel id) = 3
kind (Away s b o) = 4
kind (Status s x) = 5
kind Sweep = 6
kind (Increment s i e) = 7
kind (Percent x e) = 8
kind (LimitedSweep n) = 11

no-order : (m : Message) → 2 < kind m → NoOrder (m ∷ [])
unfolding kind
no-order m k = record {
  regular = λ o x. (let e = ap kind (Memᴰ.eq_of_singleton x) in omega arith);
  complex = λ c x. (let e = ap kind (Memᴰ.eq_of_singleton x) in omega arith);
}

no-message : NoOrder []
no-message = record { regular = λ o x. Memᴰ.not-nil x; complex = λ c x. Memᴰ.not-nil x }

-- Settling after a change of a series ---------------------------------------------------------

-- w is v but for its series and its editions
takes-series : (v w : Venue) {ns : List Message} → NoOrder ns → w.regular ≡ v.regular → w.complex ≡ v.complex → w.legging ≡ v.legging → w.last ≡ v.last →
    Fine v → Takes v (settle w).reports (settle w).venue ns
takes-series v w n r c l e f =
    let m : Moved v [] w = moved-silent r c e silent-nil in
    let g : Fine w = record { good = good-kept m f.good; homes = homes_same c l f.homes } in
    let k = settle-carries w g in
    takes-here n f (moved-trans m k.moves) (fine-after g k) (settle-all w)

-- an effect, and then settling
end-settled : {w : Venue} (e : Effect) → Fine w → Carries w e → Stood w (e ⟫ settle)
end-settled e f k = record { carries = carries-then e settle k (settle-carries _ (fine-after f k)); stand = settled e }

-- Cancel --------------------------------------------------------------------------------------

cancel-regular : (i : ℕ) (v : Venue) → Fine v → held (reg v i).quantity ≡ true → Carries v (cancel_regular i v)
unfolding cancel_regular report fill_regular with_regular
cancel-regular i v f h = record { moves = moves-cancel_regular i v (held_fits v.regular i h) h; homes = homes_same refl refl f.homes }

cancel-complex : (i : ℕ) (v : Venue) → Fine v → held (cx v i).quantity ≡ true → Carries v (cancel_complex i v)
unfolding cancel_complex report ◌⟫◌ complex_at
cancel-complex i v f h = record { moves = moves-cancel_complex i v (held-fits_c v.complex i h) h; homes = homes-fill i _ Withdrawn v f.homes }

rests-holds : (v : Venue) (id : ℕ) → rests_regular v id ≡ true → held (reg v (regular_place v id)).quantity ≡ true
unfolding rests_regular is_regular_of regular_at
rests-holds v id e = and_l _ (eqb (reg v (regular_place v id)).id id) e

rests-holds_c : (v : Venue) (id : ℕ) → rests_complex v id ≡ true → held (cx v (complex_place v id)).quantity ≡ true
unfolding rests_complex is_complex_of complex_at
rests-holds_c v id e = and_l _ (eqb (cx v (complex_place v id)).id id) e

cancel-stood : (id : ℕ) (v : Venue) → Fine v → (rests_regular v id || rests_complex v id) ≡ true → Stood v (cancel id v)
unfolding cancel
cancel-stood id v f h =
    end-settled _ f (if-by (Carries v) (rests_regular v id)
    (λ e. cancel-regular (regular_place v id) v f (rests-holds v id e))
    (λ e. cancel-complex (complex_place v id) v f (rests-holds_c v id (or_r (rests_regular v id) _ e h))))

-- Orders --------------------------------------------------------------------------------------

order-injective : {a b : Regular} → Order a ≡ Order b → a ≡ b
order-injective e = cc

complex-injective : {a b : Complex} → TwoLeg a ≡ TwoLeg b → a ≡ b
complex-injective e = cc

kinds-apart : (o : Regular) (c : Complex) → Order o ≡ TwoLeg c → ⊥
unfolding kind
kinds-apart o c e = let z = ap kind e in omega arith

free-is : (v : Venue) → free_regular v < 128 → Fine v → held (reg v (free_regular v)).quantity ≡ false
unfolding free_regular
free-is v i f = not-true _ (where-passes no_regular (λ o. not (held o.quantity)) v.regular (rw f.good.len1 i))

free-is_c : (v : Venue) → free_complex v < 32 → Fine v → held (cx v (free_complex v)).quantity ≡ false
unfolding free_complex
free-is_c v i f = not-true _ (where-passes no_complex (λ o. not (held o.quantity)) v.complex (rw f.good.len2 i))

-- an accepted order has a place, the first that is free
pub order-joins : (v : Venue) → Fine v → Tidy v → (o : Regular) → Passed v (Order o) → Joins v o (free_regular v)
order-joins v f td o p =
    let i = free_regular v in
    let there : i < 128 = unfold full in (leb-false 128 (free_regular v) p.room) in
    let free = free-is v there f in
    record { fine = f; new = unfold id_too_low in (leb-false o.id v.last p.fresh-id); there = there; free = free; behind = after-regular td i free }

module _ (number : ℕ) (v : Venue) (f : Fine v) (z : Stepped v) (st : AllStand v) (td : Tidy v) where
  module _ (o : Regular) (p : Passed v (Order o)) where
    abbrev i : ℕ
    i = free_regular v

    abbrev w : Venue
    w = with_order v o i

    admitted : Admitted v w
    admitted = order-admitted v o i (order-joins v f td o p)

    order-stood : Stood w (perform number (Order o) v)
    unfolding perform order enter_regular put_regular free_regular with_last
    order-stood = end-settled _ admitted.fine (enter-carries i o.series o.side o.quantity w admitted.fine (order-ready v o i (order-joins v f td o p) st))

    order-takes : Takes v (perform number (Order o) v).reports (perform number (Order o) v).venue (Order o ∷ [])
    order-takes = record {
      start = w;
      admitted = admitted;
      moved = order-stood.carries.moves;
      fine = fine-after admitted.fine order-stood.carries;
      stand = order-stood.stand;
      orders = λ o' m. subst (λ (x : Regular). NewOrder v w x) (sym (order-injective (Memᴰ.eq_of_singleton m))) (order-new v o i (order-joins v f td o p));
      complexes = λ c m. absurd (kinds-apart o c (sym (Memᴰ.eq_of_singleton m)));
    }

  module _ (c : Complex) (p : Passed v (TwoLeg c)) where
    abbrev j : ℕ
    j = free_complex v

    joins_c : JoinsC v c j
    joins_c =
        let there : j < 32 = unfold full in (leb-false 32 (free_complex v) p.room) in
        let free = free-is_c v there f in
        record {
          fine = f;
          range = range-of c (unfold well_formed in p.range);
          new = unfold id_too_low in (leb-false c.id v.last p.fresh-id);
          there = there;
          free = free;
          behind = after-complex td j free;
        }

    abbrev u : Venue
    u = with_complex_order v c j

    admitted_c : Admitted v u
    admitted_c = complex-admitted v c j joins_c

    complex-stood : Stood u (perform number (TwoLeg c) v)
    unfolding perform complex put_complex free_complex with_last with_complex
    complex-stood =
        let f₀ = admitted_c.fine in
        let k = end-settled (work j u) f₀ (work-carries j joins_c.there u f₀) in
        stood-then _ _ k.carries (generate-stood number j joins_c.there _ (fine-after f₀ k.carries) (steps-settled (work j u) (steps-work j u (steps-same v u refl z))) k.stand)

    complex-takes : Takes v (perform number (TwoLeg c) v).reports (perform number (TwoLeg c) v).venue (TwoLeg c ∷ [])
    complex-takes = record {
      start = u;
      admitted = admitted_c;
      moved = complex-stood.carries.moves;
      fine = fine-after admitted_c.fine complex-stood.carries;
      stand = complex-stood.stand;
      orders = λ o m. absurd (kinds-apart o c (Memᴰ.eq_of_singleton m));
      complexes = λ c' m. subst (λ (x : Complex). NewComplex v u x) (sym (complex-injective (Memᴰ.eq_of_singleton m))) (complex-new v c j joins_c);
    }

  -- Every message
  perform-takes : (m : Message) → Passed v m → Takes v (perform number m v).reports (perform number m v).venue (m ∷ [])
  unfolding perform set_away set_status set_figure enter_edition with_series with_editions unknown kind
  perform-takes (Order o) p = order-takes o p
  perform-takes (TwoLeg c) p = complex-takes c p
  perform-takes (Cancel id) p = takes-stood (no-order (Cancel id) (omega arith)) f (cancel-stood id v f (not-false _ p.known))
  perform-takes (Away s b o) p = takes-series v (set_away s b o v) (no-order (Away s b o) (omega arith)) refl refl refl refl f
  perform-takes (Status s x) p = takes-series v (set_status s x v) (no-order (Status s x) (omega arith)) refl refl refl refl f
  perform-takes Sweep p = takes-stood (no-order Sweep (omega arith)) f (sweep-stood number v f z)
  perform-takes (Increment s i e) p = takes-series v (set_figure number s i e v) (no-order (Increment s i e) (omega arith)) refl refl refl refl f
  perform-takes (Percent x e) p = takes-series v (set_figure number percentage x e v) (no-order (Percent x e) (omega arith)) refl refl refl refl f
  perform-takes (LimitedSweep n) p = takes-stood (no-order (LimitedSweep n) (omega arith)) f (limited-stood number n v f z)

-- A step --------------------------------------------------------------------------------------

with-answer : {v w : Venue} {qs : List Report} {ns : List Message} (n x m k : ℕ) → Takes v qs w ns → Takes v (answer n x m k ∷ qs) w ns
unfolding total contracts paired crossed_for cancelled_of
with-answer {v} {w} {qs} n x m k t =
    let a : Moved t.start (answer n x m k ∷ []) t.start =
    moved-silent refl refl refl (record { contracts0 = λ y s. refl; paired0 = λ y. refl; crossed0 = λ y. refl; cancelled0 = λ y. refl }) in
    record {
      start = t.start;
      admitted = t.admitted;
      moved = moved-trans a t.moved;
      fine = t.fine;
      stand = t.stand;
      orders = t.orders;
      complexes = t.complexes;
    }

nothing-takes : (v : Venue) → Fine v → AllStand v → Takes v (nothing v).reports (nothing v).venue []
unfolding nothing
nothing-takes v f st = takes-here no-message f (moved-silent refl refl refl silent-nil) f st

-- a step: its effects, and then the gaps closed
pub record Steps (v : Venue) (qs : List Report) (w : Venue) (accepts : Type 0) (m : Message) : Type 0 where
  pub left : Venue
  pub new : List Message
  pub takes : Takes v qs left new
  pub ends : Ends left w
  pub brings : accepts → new ≡ m ∷ []

accept-takes : (number : ℕ) (v : Venue) → Fine v → Stepped v → AllStand v → Tidy v → (m : Message) → Passed v m → {t : Type 0} →
    Steps v (accept number m v).reports (accept number m v).venue t m
unfolding accept ◌⟫◌ nothing
accept-takes number v f z st td m p =
    let t = perform-takes number v f z st td m p in
    record {
      left = (perform number m v).venue;
      new = m ∷ [];
      takes = rw append-nil t;
      ends = ends-closed (perform number m v).venue t.fine t.stand;
      brings = λ _. refl;
    }

steps-answer : {v w : Venue} {qs : List Report} {t : Type 0} {m : Message} (n x k l : ℕ) → Steps v qs w t m → Steps v (answer n x k l ∷ qs) w t m
steps-answer n x k l s = record { left = s.left; new = s.new; takes = with-answer n x k l s.takes; ends = s.ends; brings = s.brings }

pub step-takes : (v : Venue) → Fine v → Stepped v → AllStand v → Tidy v → (n : ℕ) (bs : List ℕ) →
    Steps v (step v n bs).effect.reports (step v n bs).effect.venue ((step v n bs).refused ≡ 0) (message_of bs)
unfolding step answered nothing
step-takes v f z st td n bs =
    steps-answer _ _ _ _ (step_by (λ e. Steps v e.reports e.venue (refusal v bs ≡ 0) (message_of bs)) v n bs
    (λ h. accept-takes n v f z st td (message_of bs) (accepted v bs h))
    (λ h. record { left = v; new = []; takes = nothing-takes v f st; ends = ends-here f st td; brings = λ e. absurd (h e) }))

step-uncrossed : (v : Venue) → Invariant v → (n : ℕ) (bs : List ℕ) → Uncrossed (step v n bs).effect.venue
unfolding step answered
step-uncrossed v k n bs =
    step_by (λ e. Uncrossed e.venue) v n bs
    (λ h. unfold accept nothing ◌⟫◌ in (uncrossed-closed _ (uncrossed-perform n (message_of bs) v (accepted v bs h).range (record { ranged = k.ranged; uncrossed = k.uncrossed }))))
    (λ _. unfold nothing in k.uncrossed)

step-edited : (v : Venue) → Edited v → (n : ℕ) → n ≤ 4294967295 → follows n v ≡ true → (bs : List ℕ) → Edited (step v n bs).effect.venue
step-edited v k n few next bs = record { len = (step-sized {e = 32} v n bs (sizes v k.len)).editions; rise = step-rises v n bs k.len few next k.rise }
  where
    sizes : (w : Venue) → length w.editions ≡ 32 → Sized (length w.regular) (length w.complex) (length w.legging) (length w.series) 32 (length w.generations) w
    sizes w e = record { regular = refl; complex = refl; legging = refl; series = refl; editions = e; generations = refl }

pub step-invariant : (v : Venue) → Invariant v → (n : ℕ) → n ≤ 4294967295 → follows n v ≡ true → (bs : List ℕ) → Invariant (step v n bs).effect.venue
step-invariant v k n few next bs =
    let t = (step-takes v k.fine (dated-steps v k.ranged.dated) k.stand k.tidy n bs).ends in
    record {
      fine = t.fine;
      stand = t.stand;
      tidy = t.tidy;
      ranged = (told v k.ranged n bs).ranged;
      showing = step-showing v n bs k.showing;
      uncrossed = step-uncrossed v k n bs;
      edited = step-edited v k.edited n few next bs;
      priced = step-priced v n bs k.edited.len k.ranged k.priced;
      busy = step-busy v n bs (some_number n v k.edited.len next) few k.busy next;
      reached = step-reached v n bs k.fine.good.xlast k.reached;
    }
