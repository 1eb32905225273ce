-- A sweep goes through all orders that rest, in the order of their places. None of them leaves more of an order open, and at a place that is free
-- by its turn nothing is done.
use Rattle.std.specs.Prelude.{if◌then◌else◌}
use mathlib.Core.Path.{◌∙◌, ◌≡◌, ap, ap₂, refl}
use mathlib.Core.Bool.{Bool, ◌&&◌, false, true}
use mathlib.Core.List.{List, [], ◌∷◌, map}
use Prim.Native.Nat.{◌+◌, suc, ℕ}
use native.Mathlib.Omega.{arith}
use lib.ListN.{get_or}
use Rattle.rules.specs.declared.Complex.{Complex}
use Rattle.rules.specs.declared.Venue.{Venue}
use Rattle.rules.specs.Base.{held, keep}
use Rattle.rules.specs.Words.{with_generations, complex_at, no_complex, with_legging, with_regular}
use Rattle.rules.specs.Effects.{Effect, ◌⟫◌, nothing, repeat, report}
use Rattle.rules.specs.Removal.{remove}
use Rattle.rules.specs.Standing.{show_again}
use Rattle.rules.specs.Trading.{fill_regular}
use Rattle.rules.specs.Generation.{counted, generate, generate_leg, make, makes, placed}
use Rattle.rules.specs.Complex.{any_closed, places_of, resting_places, touch, touches, work}
use Rattle.rules.proofs.Cases.{if-by}
use Rattle.rules.proofs.Filling.{FewerC, cx, fewer_c-refl, fewer_c-trans, fill-fewer_c}
use Rattle.rules.proofs.EffectsLaws.{Lasts, keeps-work}

-- g gives the orders at places n and on: those at the places of a sweep are the ones that rest
orders-at : (g : ℕ → Complex) (n : ℕ) (cs : List Complex) → ((i : ℕ) → g (n + i) ≡ get_or cs i no_complex) →
    map g (places_of (λ _. true) n cs) ≡ keep (λ c. held c.quantity) cs
unfolding places_of keep
orders-at g n [] h = refl
orders-at g n (c ∷ cs) h =
    go (held c.quantity) (ap g (omega arith) ∙ h 0) (orders-at g (suc n) cs (λ i. ap g (omega arith) ∙ h (suc i)))
  where
    places : List ℕ
    places = places_of (λ _. true) (suc n) cs

    rest : List Complex
    rest = keep (λ c. held c.quantity) cs

    go : (b : Bool) → g n ≡ c → map g places ≡ rest → map g (if b && true then n ∷ places else places) ≡ (if b then c ∷ rest else rest)
    go true own others = ap₂ (λ (x : Complex) (l : List Complex). x ∷ l) own others
    go false own others = others

-- the orders at the places of a sweep, one after another, are all that rest
pub resting-orders : (v : Venue) → map (complex_at v) (resting_places v) ≡ keep (λ c. held c.quantity) v.complex
unfolding resting_places complex_at
resting-orders v = orders-at (complex_at v) 0 v.complex (λ i. ap (λ (j : ℕ). get_or v.complex j no_complex) (omega arith))

pub then_same : (e : Effect) (f g : Venue → Effect) → f e.venue ≡ g e.venue → (e ⟫ f) ≡ (e ⟫ g)
unfolding ◌⟫◌
then_same e f g h = rw h

pub fewer-lasts : (v : Venue) → Lasts (λ w. FewerC w.complex v.complex)
fewer-lasts v = record {
  fill_r = λ i k w h. unfold fill_regular with_regular in h;
  fill_c = λ i k w h. fewer_c-trans (fill-fewer_c i k w) h;
  gone = λ f w h. unfold remove with_legging in h;
  again = λ w h. unfold show_again with_regular in h;
}

pub work-fewer : (i : ℕ) (v : Venue) → FewerC (work i v).venue.complex v.complex
work-fewer i v = keeps-work (fewer-lasts v) i v (fewer_c-refl _)

pub leg-same : (number : ℕ) (v : Venue) (c : Complex) (s d : ℕ) → (generate_leg number c s d v).venue.complex ≡ v.complex
unfolding generate_leg make report remove with_legging with_generations placed counted nothing ◌⟫◌
leg-same number v c s d = if-by (λ (e : Effect). e.venue.complex ≡ v.complex) (held c.quantity && makes number v c s d) (λ _. refl) (λ _. refl)

pub generate-fewer : (number i : ℕ) (v : Venue) → FewerC (generate number i v).venue.complex v.complex
unfolding generate complex_at ◌⟫◌
generate-fewer number i v =
    let c = cx v i in
    rw (leg-same number (generate_leg number c c.series1 c.side1 v).venue c c.series2 c.side2, leg-same number v c c.series1 c.side1) (fewer_c-refl _)

-- at a free place nothing is worked
pub gone-works : (i : ℕ) (v : Venue) → (complex_at v i).quantity ≡ 0 → work i v ≡ nothing v
unfolding work touch touches repeat nothing ◌⟫◌
gone-works i v e = if-by (λ (x : Effect). x ≡ nothing v) (any_closed v (complex_at v i)) (λ _. refl) (λ _. rw (e, repeat, e))

-- and nothing is generated
pub gone-generates : (number i : ℕ) (v : Venue) → (complex_at v i).quantity ≡ 0 → generate number i v ≡ nothing v
unfolding generate generate_leg nothing ◌⟫◌
gone-generates number i v e = rw e
