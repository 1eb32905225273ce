-- What one message writes: its answer, a limited sweep's 72, and what the places can pay for. The dearest is a limited sweep in which each complex order is
-- of unequal ratios.
use Rattle.std.specs.Prelude.{if◌then◌else◌}
use mathlib.Core.Path.{◌≡◌, ◌∙◌, refl}
use mathlib.Core.Bool.{Bool, false, not, true}
use mathlib.Core.Logic.{◌≢◌}
use mathlib.Core.List.{List, []}
use Prim.Native.Nat.{ℕ, ◌+◌, ◌*◌, ◌≤◌}
use native.Mathlib.Omega.{arith}
use native.Mathlib.Decide.{dec_lt}
use lib.Dec.{eqb}
use lib.ListN.{length, length-set, take, set}
use lib.Seq.{get_or-set_same}
use borrow.Author.Tests.{eqb-false, not-true}
use Rattle.rules.specs.declared.Cause.TheVariants.{Withdrawn}
use Rattle.rules.specs.declared.Complex.{Complex}
use Rattle.rules.specs.declared.Message.{Message}
use Rattle.rules.specs.declared.Message.TheVariants.{Away, Cancel, Increment, LimitedSweep, Order, Percent, Status, Sweep, TwoLeg}
use Rattle.rules.specs.declared.Venue.{Venue}
use Rattle.rules.specs.Words.{complex_at, no_complex, one_to_one, with_complex, with_editions, with_last, with_legging, with_reached, with_regular, with_series}
use Rattle.rules.specs.Settings.{enter_edition, percentage}
use Rattle.rules.specs.Messages.{message_of}
use Rattle.rules.specs.Records.{cancelled, looked}
use Rattle.rules.specs.Effects.{◌⟫◌, nothing, report}
use Rattle.rules.specs.Removal.{remove}
use Rattle.rules.specs.Standing.{parent_of, settle, show_again}
use Rattle.rules.specs.Trading.{fill_complex, fill_regular, free_complex, put_complex}
use Rattle.rules.specs.Generation.{generate}
use Rattle.rules.specs.Complex.{cancel, cancel_complex, cancel_regular, complex, complex_place, each_of, examined, going_round, id_reached}
use Rattle.rules.specs.Complex.{limited_sweep, regular_place, resting_places, rests_regular, sweep, work}
use Rattle.rules.specs.Refusals.{complex_in_range, two_leg_in_range}
use Rattle.rules.specs.Step.{accept, answered, perform, set_away, set_figure, set_status, step}
use Rattle.rules.specs.Sums.{total}
use Rattle.rules.specs.Lengths.{per_complex, per_cross, per_leg, per_legging, per_regular, per_round, per_unequal, record_length}
use Rattle.rules.proofs.Turns.{round-once, sweep-once}
use Rattle.rules.proofs.Adding.{total-append}
use Rattle.rules.proofs.CallsLaws.{step_by}
use Rattle.rules.proofs.Cases.{if-by}
use Rattle.rules.proofs.Costs.{Apart, Costs, costs-remove_of, costs-report, costs-then, costs-work, costs-works, per_trade, settled-costs, share, share-most}
use Rattle.rules.proofs.Filling.{cx, held-fits_c}
use Rattle.rules.proofs.EffectsLaws.{Lasts, keeps-each_of, keeps-settle, keeps-work}
use Rattle.rules.proofs.Legs.{costs-generate, generation-writes, leg_of-most, limited-generation}
use Rattle.rules.proofs.Matching.{Housed, costs-order}
use Rattle.rules.proofs.RefusalsLaws.{accepted, well_formed}
use Rattle.rules.proofs.Summing.{due, due-most, due-none, sum, sum-most, sum-plus}
use Rattle.rules.proofs.Tests.{and_l, and_r}
use Rattle.rules.proofs.Worth.{even_open, fill-le, fill_c-le, of_complex, of_complex-most, of_even, per_even, put_c-worth, regular-most, spent, spent-settle, spent-then, worth, worth-most}

-- Messages ------------------------------------------------------------------------------------

-- an order that is given a place has its legs in two series
put-apart : (c : Complex) (v : Venue) → c.series1 ≢ c.series2 → Apart (free_complex v) (put_complex (free_complex v) c v)
unfolding Apart put_complex with_complex
put-apart c v two h = elim (dec_lt (free_complex v) (length v.complex)) [
  | yes fits ↦ rw (get_or-set_same v.complex (free_complex v) c no_complex fits) two
  | no out ↦ absurd (let z = held-fits_c (set v.complex (free_complex v) c) (free_complex v) h in omega (arith, length-set v.complex (free_complex v) c))
]

costs-complex : (number : ℕ) (c : Complex) (v : Venue) → c.series1 ≢ c.series2 → spent 0 0 (complex number c v) ≤ worth per_regular 0 v + (per_complex + per_round + 2 * per_leg)
unfolding complex Costs
costs-complex number c v two =
    let i = free_complex v in
    let w = put_complex i c v in
    let p = put_c-worth per_regular 0 i c v in
    let e = work i w ⟫ settle in
    let x = settled-costs per_regular 0 (share (complex_at w i)) w (work i w) (costs-work i w (put-apart c v two)) in
    let y = spent-then 0 0 e (generate number i) in
    let z = costs-generate number i e.venue in
    omega (arith, share-most (complex_at w i), leg_of-most (complex_at e.venue i))

same_length : (k : ℕ) → Lasts (λ w. length w.complex ≡ k)
unfolding fill_regular fill_complex remove show_again with_regular with_complex with_legging
same_length k = record { fill_r = λ i q w h. h; fill_c = λ i q w h. length-set w.complex i _ ∙ h; gone = λ f w h. h; again = λ w h. h }

-- what a sweep generates, the orders that it is generated for pay
sweep-writes : (number : ℕ) (v : Venue) → ((i : ℕ) → Apart i v) → total record_length (sweep number v).reports ≤ worth per_regular 0 v + sum share v.complex
unfolding sweep ◌⟫◌ spent
sweep-writes number v two =
    let places = resting_places v in
    let e = each_of work places v ⟫ settle in
    let w = settled-costs per_regular 0 (sum (λ i. share (cx v i)) places) v (each_of work places v) (costs-works places v two) in
    let s = sweep-once share v v.complex refl in
    let k = same_length (length v.complex) in
    let g = generation-writes number v e.venue (keeps-settle k _ (keeps-each_of (λ w. length w.complex ≡ length v.complex) work (keeps-work k) places v refl)) in
    rw (total-append record_length e.reports (each_of (generate number) places e.venue).reports) (omega arith)

looked-costs : (k x : ℕ) (v : Venue) → Costs per_regular 0 5 v (report (looked k) (with_reached v x))
unfolding record_length
looked-costs k x v = costs-report _ _ (looked k) v (with_reached v x) (unfold worth with_reached in (omega arith))

-- a limited sweep writes its 72 too
limited-writes : (number n : ℕ) (v : Venue) → ((i : ℕ) → Apart i v) → total record_length (limited_sweep number n v).reports ≤ worth per_regular 0 v + (5 + sum share v.complex)
unfolding limited_sweep report ◌⟫◌ spent with_reached Apart
limited-writes number n v two =
    let places = take n (going_round v) in
    let shares = sum (λ i. share (cx v i)) places in
    let x = id_reached v places in
    let u = with_reached v x in
    let first = report (looked (examined n v)) u in
    let e = first ⟫ each_of work places ⟫ settle in
    let c = costs-then per_regular 0 5 shares v first (each_of work places) (looked-costs (examined n v) x v) (costs-works places u two) in
    let w = settled-costs per_regular 0 (5 + shares) v (first ⟫ each_of work places) c in
    let s = round-once share n v v.complex refl in
    let k = same_length (length v.complex) in
    let g = limited-generation number n v e.venue (keeps-settle k _ (keeps-each_of (λ w. length w.complex ≡ length v.complex) work (keeps-work k) places u refl)) in
    rw (total-append record_length e.reports (each_of (generate number) places e.venue).reports) (omega arith)

costs-cancelled : (id : ℕ) (v : Venue) → Costs 0 0 12 v (if rests_regular v id then cancel_regular (regular_place v id) v else cancel_complex (complex_place v id) v)
unfolding cancel_regular cancel_complex record_length
costs-cancelled id v =
    if-by (Costs 0 0 12 v) (rests_regular v id)
    (λ _. costs-report _ _ (cancelled _ _) v (fill_regular _ _ v) (fill-le 0 0 _ _ v))
    (λ _. costs-then _ _ 12 0 v _ _ (costs-report _ _ (cancelled _ _) v (fill_complex _ _ v) (fill_c-le 0 0 _ _ v)) (costs-remove_of _ _ _ Withdrawn _))

costs-cancel : (id : ℕ) (v : Venue) → spent 0 0 (cancel id v) ≤ worth 0 0 v + 12
unfolding cancel
costs-cancel id v = settled-costs 0 0 12 v _ (costs-cancelled id v)

-- The step ------------------------------------------------------------------------------------

well-apart : (c : Complex) → well_formed (TwoLeg c) ≡ true → c.series1 ≢ c.series2
unfolding well_formed complex_in_range two_leg_in_range
well-apart c z =
    let g : not (eqb c.series1 c.series2) ≡ true = search (and_l, and_r, z) depth 14 in
    eqb-false c.series1 c.series2 (not-true _ g)

-- what is asked of a venue: its places, that each legging order has its parent, and each complex order its legs in two series
pub record Asked (v : Venue) : Type 0 where
  pub places32 : length v.complex ≡ 32
  pub housed : (n : ℕ) → Housed n v
  pub apart : (i : ℕ) → Apart i v

-- what the places can pay for at most, at any of the rates
unfoldable pub places : Venue → ℕ
places v = per_regular * length v.regular + per_unequal * length v.complex + per_legging * length v.legging

-- of each complex order its worth and its share together
even-or-share : (c : Complex) → of_even c + share c ≤ per_round
unfolding of_even even_open share
even-or-share c = go (one_to_one c)
  where
    go : (b : Bool) → due per_even (if b then c.quantity else 0) + (if b then 0 else per_round) ≤ per_round
    go true = omega (arith, due-most per_even c.quantity)
    go false = omega (arith, due-none per_even)

sweep-places : (v : Venue) → worth per_regular 0 v + sum share v.complex ≤ places v
unfolding places worth
sweep-places v =
    let x = sum-most (λ c. of_even c + share c) per_round even-or-share v.complex in
    let y = sum-most of_complex per_cross of_complex-most v.complex in
    omega (arith, sum-plus of_even share v.complex, regular-most per_regular 0 v)

perform-writes : (number : ℕ) (m : Message) (v : Venue) → well_formed m ≡ true → Asked v → total record_length (perform number m v).reports ≤ 5 + places v
unfolding perform with_last with_series with_editions set_away set_status set_figure enter_edition spent places Housed parent_of
perform-writes number (Order o) v r h = omega (arith, costs-order o (with_last v o.id) h.housed, worth-most per_trade per_trade (with_last v o.id), h.places32)
perform-writes number (TwoLeg c) v r h = omega (arith, costs-complex number c (with_last v c.id) (well-apart c r), worth-most per_regular 0 (with_last v c.id), h.places32)
perform-writes number (Cancel id) v r h = omega (arith, costs-cancel id v, worth-most 0 0 v, h.places32)
perform-writes number (Away s bid offer) v r h = omega (arith, spent-settle (set_away s bid offer v), worth-most 0 0 (set_away s bid offer v))
perform-writes number (Status s x) v r h = omega (arith, spent-settle (set_status s x v), worth-most 0 0 (set_status s x v))
perform-writes number Sweep v r h = omega (arith, sweep-writes number v h.apart, sweep-places v)
perform-writes number (Increment s i e) v r h = omega (arith, spent-settle (set_figure number s i e v), worth-most 0 0 (set_figure number s i e v))
perform-writes number (Percent x e) v r h = omega (arith, spent-settle (set_figure number percentage x e v), worth-most 0 0 (set_figure number percentage x e v))
perform-writes number (LimitedSweep n) v r h = omega (arith, limited-writes number n v h.apart, sweep-places v)

-- closing the gaps writes nothing
accept-writes : (number : ℕ) (m : Message) (v : Venue) → well_formed m ≡ true → Asked v → total record_length (accept number m v).reports ≤ 5 + places v
unfolding accept ◌⟫◌ nothing total
accept-writes number m v r h = rw (total-append record_length (perform number m v).reports []) (omega (arith, perform-writes number m v r h))

pub step-writes : (v : Venue) → Asked v → (number : ℕ) (bs : List ℕ) → total record_length (step v number bs).effect.reports ≤ 12 + (5 + places v)
unfolding step answered total record_length nothing
step-writes v h number bs =
    step_by (λ e. 12 + total record_length e.reports ≤ 12 + (5 + places v)) v number bs
    (λ e. let z = accept-writes number (message_of bs) v (accepted v bs e).range h in omega arith) (λ _. omega arith)
