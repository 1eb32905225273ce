-- A complex order that arrives: its place, the work, settling, generation.
use mathlib.Core.Path.{◌≡◌, ap, ◌∙◌}
use mathlib.Core.List.{List}
use Prim.Native.Nat.{ℕ}
use Rattle.rules.specs.declared.Complex.{Complex}
use Rattle.rules.specs.declared.Venue.{Venue}
use Rattle.rules.specs.Effects.{◌⟫◌}
use Rattle.rules.specs.Standing.{settle}
use Rattle.rules.specs.Trading.{free_complex, put_complex}
use Rattle.rules.specs.Generation.{generate}
use Rattle.rules.specs.Complex.{work, complex}
use Rattle.records.specs.Seen.{seen}
use Rattle.records.specs.Stage.{stage, ◌does◌}
use Rattle.records.proofs.StageLaws.{follow}

pub complex-law : (number : ℕ) (c : Complex) (i : ℕ) (v v₁ v₂ v₃ v₄ : Venue) (l₀ l₁ l₂ l₃ : List ℕ) (a₀ a₁ a₂ a₃ : ℕ) →
    i ≡ free_complex v → v₁ ≡ put_complex i c v →
    stage v₂ l₁ a₁ ≡ seen l₀ a₀ does work i v₁ → stage v₃ l₂ a₂ ≡ seen l₁ a₁ does settle v₂ → stage v₄ l₃ a₃ ≡ seen l₂ a₂ does generate number i v₃ →
    stage v₄ l₃ a₃ ≡ seen l₀ a₀ does complex number c v
unfolding complex
complex-law number c i v v₁ v₂ v₃ v₄ l₀ l₁ l₂ l₃ a₀ a₁ a₂ a₃ ei ep w s g =
    follow (seen l₀ a₀) (work i v₁ ⟫ settle) (generate number i) v₃ v₄ l₂ l₃ a₂ a₃ (follow (seen l₀ a₀) (work i v₁) settle v₂ v₃ l₁ l₂ a₁ a₂ w s) g
    ∙ ap (λ (x : Venue). seen l₀ a₀ does (work i x ⟫ settle ⟫ generate number i)) ep
    ∙ ap (λ (k : ℕ). seen l₀ a₀ does (work k (put_complex k c v) ⟫ settle ⟫ generate number k)) ei
