-- What generation costs, regular orders paying for nothing any more: a leg its 67 and the new legging order's worth; in a sweep each order's two legs, once.
use Rattle.std.specs.Prelude.{if◌then◌else◌}
use mathlib.Core.Path.{◌≡◌, refl, ap, ◌∙◌}
use mathlib.Core.Bool.{Bool, true, false, ◌&&◌}
use mathlib.Core.List.{List, [], ◌∷◌}
use Prim.Native.Nat.{ℕ, ◌+◌, ◌≤◌}
use native.Mathlib.Omega.{arith}
use lib.ListN.{get_or, length, take}
use Rattle.rules.specs.declared.Complex.{Complex}
use Rattle.rules.specs.declared.Legging.{Legging}
use Rattle.rules.specs.declared.Venue.{Venue}
use Rattle.rules.specs.Base.{held}
use Rattle.rules.specs.Words.{place_of, no_complex, complex_at, one_to_one, with_generations, with_legging}
use Rattle.rules.specs.Records.{Report, generated}
use Rattle.rules.specs.Effects.{Effect, nothing, report, ◌⟫◌}
use Rattle.rules.specs.Removal.{remove}
use Rattle.rules.specs.Generation.{counted, placed, makes, make, generate_leg, generate}
use Rattle.rules.specs.Complex.{each_of, going_round, resting_places}
use Rattle.rules.proofs.Tests.{and_l, and_r}
use Rattle.rules.proofs.Cases.{if-by}
use Rattle.rules.specs.Sums.{total}
use Rattle.rules.specs.Lengths.{record_length, per_cross, per_legging, per_leg}
use Rattle.rules.proofs.Summing.{sum, sum_mono, sum-plus, due, due-most}
use Rattle.rules.proofs.Turns.{round-once, sweep-once}
use Rattle.rules.proofs.Filling.{cx}
use Rattle.rules.proofs.Generating.{made}
use Rattle.rules.proofs.Worth.{even_open, of_complex, of_even, per_even, worth, placed-worth, spent, spent-report}
use Rattle.rules.proofs.Costs.{Costs, costs-then, costs-more, costs-nothing, costs-remove}

-- A leg -----------------------------------------------------------------------------------------

-- what is counted is worth nothing
counted-worth : (number s : ℕ) (v : Venue) → worth 0 0 (counted number s v) ≡ worth 0 0 v
unfolding worth counted with_generations
counted-worth number s v = refl

-- the record, and what the new legging order is worth
costs-placed : (r : Report) (number s n : ℕ) (l : Legging) (v : Venue) → Costs 0 0 (record_length r + per_legging) v (report r (counted number s (placed n l v)))
unfolding Costs
costs-placed r number s n l v =
    let z = spent-report 0 0 r (counted number s (placed n l v)) in
    let p = placed-worth 0 0 n l v in
    let c = counted-worth number s (placed n l v) in
    omega arith

costs-make : (number : ℕ) (c : Complex) (s d : ℕ) (v : Venue) → Costs 0 0 per_leg v (make number c s d v)
unfolding make record_length
costs-make number c s d v = costs-then _ _ 0 per_leg v _ _ (costs-remove _ _ _ v) (costs-placed (generated _ _ _ _ _ _) number s (place_of s d) _ _)

-- an order of unequal ratios never generates, nor does one that is gone
unfoldable pub leg_of : Complex → ℕ
leg_of c = due per_leg (even_open c)

pub leg_of-most : (c : Complex) → leg_of c ≤ per_leg
unfolding leg_of
leg_of-most c = due-most per_leg (even_open c)

costs-leg : (number : ℕ) (c : Complex) (s d : ℕ) (v : Venue) → Costs 0 0 (leg_of c) v (generate_leg number c s d v)
unfolding generate_leg leg_of even_open due
costs-leg number c s d v =
    if-by (Costs 0 0 (leg_of c) v) (held c.quantity && makes number v c s d)
    (λ e. rw ((made (and_r (held c.quantity) _ e)).even, and_l (held c.quantity) _ e) (costs-make number c s d v))
    (λ _. costs-more _ _ 0 _ v _ (omega arith) (costs-nothing _ _ v))

leg-complex : (number : ℕ) (c : Complex) (s d : ℕ) (v : Venue) → (generate_leg number c s d v).venue.complex ≡ v.complex
unfolding generate_leg make nothing ◌⟫◌ report remove placed counted with_legging with_generations
leg-complex number c s d v = if-by (λ (e : Effect). e.venue.complex ≡ v.complex) (held c.quantity && makes number v c s d) (λ _. refl) (λ _. refl)

pub costs-generate : (number i : ℕ) (v : Venue) → Costs 0 0 (leg_of (complex_at v i) + leg_of (complex_at v i)) v (generate number i v)
unfolding generate
costs-generate number i v = costs-then _ _ (leg_of (complex_at v i)) (leg_of (complex_at v i)) v _ _ (costs-leg number _ _ _ v) (costs-leg number _ _ _ _)

generate-complex : (number i : ℕ) (v : Venue) → (generate number i v).venue.complex ≡ v.complex
unfolding generate ◌⟫◌
generate-complex number i v = leg-complex number _ _ _ _ ∙ leg-complex number _ _ _ v

-- Generation of a sweep -----------------------------------------------------------------------

-- both legs of an order
abbrev both_legs : Complex → ℕ
both_legs c = leg_of c + leg_of c

-- its own worth pays for them
legs-worth : (c : Complex) → both_legs c ≤ of_complex c + of_even c
unfolding leg_of of_complex of_even even_open due
legs-worth c = go (one_to_one c) (held c.quantity) refl
  where
    go : (e h : Bool) → held c.quantity ≡ h →
        (if held (if e then c.quantity else 0) then per_leg else 0) + (if held (if e then c.quantity else 0) then per_leg else 0)
        ≤ (if h then per_cross else 0) + (if held (if e then c.quantity else 0) then per_even else 0)
    go true true x = rw x (omega arith)
    go true false x = rw x (omega arith)
    go false h x = omega arith

-- it costs c, and leaves the complex orders as they were
record Generated (c : ℕ) (v : Venue) (e : Effect) : Type 0 where
  costs : Costs 0 0 c v e
  same : e.venue.complex ≡ v.complex

none-generated : (c : ℕ) (v : Venue) → Generated c v (nothing v)
unfolding nothing
none-generated c v = record { costs = costs-more _ _ 0 c v _ (omega arith) (costs-nothing _ _ v); same = refl }

-- for the order at place i, and then for those that are left
next-generated : (number i c : ℕ) (left : List Complex → ℕ) (v : Venue) (f : Venue → Effect) → both_legs (cx v i) + left v.complex ≤ c →
    (let w = (generate number i v).venue in Generated (left w.complex) w (f w)) → Generated c v (generate number i v ⟫ f)
unfolding complex_at ◌⟫◌
next-generated number i c left v f le g =
    let e : left (generate number i v).venue.complex ≡ left v.complex = ap left (generate-complex number i v) in
    record {
      costs = costs-more _ _ (both_legs (cx v i) + left (generate number i v).venue.complex) c v _ (omega arith)
          (costs-then _ _ (both_legs (cx v i)) _ v _ f (costs-generate number i v) g.costs);
      same = g.same ∙ generate-complex number i v;
    }

-- for each order of a sweep
all-generated : (number : ℕ) (places : List ℕ) (v : Venue) → Generated (sum (λ i. both_legs (cx v i)) places) v (each_of (generate number) places v)
unfolding each_of sum
all-generated number [] v = none-generated _ v
all-generated number (i ∷ places) v =
    next-generated number i _ (λ cs. sum (λ j. both_legs (get_or cs j no_complex)) places) v (each_of (generate number) places) (omega arith) (all-generated number places _)

-- so it writes no more than the venue is worth
generated-writes : (c : ℕ) (v : Venue) (e : Effect) → c ≤ sum both_legs v.complex → Generated c v e → total record_length e.reports ≤ worth 0 0 v
unfolding Costs spent worth
generated-writes c v e le g =
    let k = g.costs in
    let s : sum of_complex e.venue.complex ≡ sum of_complex v.complex = ap (sum of_complex) g.same in
    let t : sum of_even e.venue.complex ≡ sum of_even v.complex = ap (sum of_even) g.same in
    let m = sum_mono (λ x. of_complex x + of_even x) both_legs legs-worth v.complex in
    omega (arith, sum-plus of_complex of_even v.complex)

-- the generation of a sweep, upon w, for orders chosen upon v
pub generation-writes : (number : ℕ) (v w : Venue) → length w.complex ≡ length v.complex →
    total record_length (each_of (generate number) (resting_places v) w).reports ≤ worth 0 0 w
generation-writes number v w len = generated-writes _ w _ (sweep-once both_legs v w.complex len) (all-generated number (resting_places v) w)

-- and of a limited one
pub limited-generation : (number n : ℕ) (v w : Venue) → length w.complex ≡ length v.complex →
    total record_length (each_of (generate number) (take n (going_round v)) w).reports ≤ worth 0 0 w
limited-generation number n v w len =
    generated-writes _ w _ (round-once both_legs n v w.complex len) (all-generated number (take n (going_round v)) w)
