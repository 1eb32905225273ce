-- A sweep: each resting order, earliest first. Where all places in use are held, the resting orders are at places 0 to the last in use.
use mathlib.Core.Path.{◌≡◌, ap, ◌∙◌}
use mathlib.Core.Bool.{true}
use mathlib.Core.List.{List}
use Prim.Native.Nat.{ℕ, ◌-◌}
use native.Mathlib.Omega.{arith}
use Rattle.rules.specs.declared.Venue.{Venue}
use Rattle.rules.specs.Words.{complex_at}
use Rattle.rules.specs.Effects.{◌⟫◌}
use Rattle.rules.specs.Standing.{settle}
use Rattle.rules.specs.Generation.{generate}
use Rattle.rules.specs.Complex.{work, each_of, resting_places, sweep}
use Rattle.records.specs.Seen.{seen}
use Rattle.records.specs.Stage.{stage, ◌does◌}
use Rattle.records.proofs.StageLaws.{follow}
use Rattle.places.specs.Layout.{complexes_used, venue_of, Dense}
use Rattle.places.proofs.Parts.{complex-at, complex-past}
use Rattle.sweeps.specs.Round.{places_from}
use Rattle.sweeps.proofs.RoundLaws.{places-within}

pub all-resting : (b : List ℕ) → Dense b → places_from 0 (complexes_used b) ≡ resting_places (venue_of b)
unfolding resting_places complex_at
all-resting b d =
    let n : complexes_used b ≡ complexes_used b - 0 = omega arith in
    ap (places_from 0) n
    ∙ places-within (λ _. true) 0 0 (complexes_used b) (venue_of b).complex (omega arith) (λ i h. absurd (omega arith))
    (λ i p q. rw (complex-at b i q, d.complexes i q)) (λ i h. rw (complex-past b i h))

pub sweep-law : (number : ℕ) (places : List ℕ) (v v₁ v₂ v₃ : Venue) (l₀ l₁ l₂ l₃ : List ℕ) (a₀ a₁ a₂ a₃ : ℕ) → places ≡ resting_places v →
    stage v₁ l₁ a₁ ≡ seen l₀ a₀ does each_of work places v →
    stage v₂ l₂ a₂ ≡ seen l₁ a₁ does settle v₁ →
    stage v₃ l₃ a₃ ≡ seen l₂ a₂ does each_of (generate number) places v₂ →
    stage v₃ l₃ a₃ ≡ seen l₀ a₀ does sweep number v
unfolding sweep
sweep-law number places v v₁ v₂ v₃ l₀ l₁ l₂ l₃ a₀ a₁ a₂ a₃ e w s g =
    follow (seen l₀ a₀) (each_of work places v ⟫ settle) (each_of (generate number) places) v₂ v₃ l₂ l₃ a₂ a₃
    (follow (seen l₀ a₀) (each_of work places v) settle v₁ v₂ l₁ l₂ a₁ a₂ w s) g
    ∙ ap (λ (ps : List ℕ). seen l₀ a₀ does (each_of work ps v ⟫ settle ⟫ each_of (generate number) ps)) e
