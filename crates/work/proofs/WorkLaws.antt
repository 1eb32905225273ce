-- Working an order: its steps, one after the other.
use mathlib.Core.Path.{◌≡◌, sym, ap, ◌∙◌}
use mathlib.Core.Bool.{true, false}
use mathlib.Core.List.{List}
use Prim.Native.Nat.{ℕ}
use Rattle.rules.specs.declared.Complex.{Complex}
use Rattle.rules.specs.declared.Venue.{Venue}
use Rattle.rules.specs.Words.{complex_at}
use Rattle.rules.specs.Effects.{Effect, ◌⟫◌, repeat}
use Rattle.rules.specs.Complex.{any_closed, cross_turn, touch, leg_in_turn, work}
use Rattle.rules.proofs.Sweeping.{gone-works}
use Rattle.records.specs.Seen.{seen}
use Rattle.records.specs.Stage.{stage, ◌does◌}
use Rattle.records.proofs.StageLaws.{follow, does-nothing}

module _ (i : ℕ) (v : Venue) (c : Complex) (ec : c ≡ complex_at v i) where
  -- the place is free
  pub work-gone : (l : List ℕ) (at : ℕ) → c.quantity ≡ 0 → stage v l at ≡ seen l at does work i v
  work-gone l at h = does-nothing v l at ∙ ap (λ (e : Effect). seen l at does e) (sym (gone-works i v (ap (λ (x : Complex). x.quantity) (sym ec) ∙ h)))

  pub work_closed : (l : List ℕ) (at : ℕ) → any_closed v c ≡ true → stage v l at ≡ seen l at does work i v
  unfolding work
  work_closed l at h = rw (← ec, h) (does-nothing v l at)

  pub work-steps : (v₁ v₂ v₃ : Venue) (l₀ l₁ l₂ l₃ : List ℕ) (a₀ a₁ a₂ a₃ : ℕ) → any_closed v c ≡ false →
      stage v₁ l₁ a₁ ≡ seen l₀ a₀ does repeat (complex_at v i).quantity (cross_turn i) v →
      stage v₂ l₂ a₂ ≡ seen l₁ a₁ does touch i v₁ →
      stage v₃ l₃ a₃ ≡ seen l₂ a₂ does repeat c.quantity (leg_in_turn i) v₂ →
      stage v₃ l₃ a₃ ≡ seen l₀ a₀ does work i v
  unfolding work
  work-steps v₁ v₂ v₃ l₀ l₁ l₂ l₃ a₀ a₁ a₂ a₃ h p q r =
      rw (← ec, h)
      (follow (seen l₀ a₀) (repeat c.quantity (cross_turn i) v ⟫ touch i) (repeat c.quantity (leg_in_turn i)) v₂ v₃ l₂ l₃ a₂ a₃
      (follow (seen l₀ a₀) (repeat c.quantity (cross_turn i) v) (touch i) v₁ v₂ l₁ l₂ a₁ a₂
      (p ∙ ap (λ (x : Complex). seen l₀ a₀ does repeat x.quantity (cross_turn i) v) (sym ec)) q) r)
