-- A cross, step by step, and the turns of crossing.
use mathlib.Core.Path.{◌≡◌, refl, sym, ap, ◌∙◌}
use mathlib.Core.Bool.{Bool, not, false≢true}
use mathlib.Core.List.{List, [], ◌∷◌}
use Prim.Native.Nat.{ℕ, ◌<◌, min}
use native.Mathlib.Omega.{arith}
use native.Mathlib.Decide.{dec_lt}
use borrow.Author.Tests.{eq-eqb, ne_eqb}
use lib.IntN.{ℤ, neg_ℤ}
use Rattle.rules.specs.declared.Complex.{Complex}
use Rattle.rules.specs.declared.Venue.{Venue}
use Rattle.rules.specs.declared.Cause.TheVariants.{Executed}
use Rattle.rules.specs.Base.{nobody, picked, first}
use Rattle.rules.specs.Words.{no_complex, complex_at}
use Rattle.rules.specs.Records.{crossed}
use Rattle.rules.specs.Effects.{report, ◌⟫◌, ended, turned}
use Rattle.rules.specs.Removal.{remove_of}
use Rattle.rules.specs.Trading.{fill_complex}
use Rattle.rules.specs.Complex.{crosses, limit_then_id, cross, cross_turn}
use Rattle.rules.proofs.Picking.{At, first-chosen}
use Rattle.records.specs.Seen.{seen, ◌writes◌}
use Rattle.records.specs.Stage.{stage, ◌does◌}
use Rattle.records.proofs.StageLaws.{follow, does-report}
use Rattle.places.specs.Layout.{complexes_used, venue_of}
use Rattle.places.proofs.Parts.{complex-past}
use Rattle.cross_makers.proofs.Candidates.{cross-free}

-- 70, both fills, the taker's removals, the maker's
pub cross-law : (i j k : ℕ) (v v₁ v₂ v₃ v₄ : Venue) (l₀ l₁ l₂ l₃ : List ℕ) (a₀ a₁ a₂ a₃ : ℕ) (c m : Complex) (n : ℤ) →
    c ≡ complex_at v i → m ≡ complex_at v j → n ≡ neg_ℤ m.limit → v₁ ≡ fill_complex i k v → v₂ ≡ fill_complex j k v₁ →
    seen l₁ a₁ ≡ seen l₀ a₀ writes (crossed c.id m.id n k ∷ []) →
    stage v₃ l₂ a₂ ≡ seen l₁ a₁ does remove_of c.id Executed v₂ →
    stage v₄ l₃ a₃ ≡ seen l₂ a₂ does remove_of m.id Executed v₃ →
    stage v₄ l₃ a₃ ≡ seen l₀ a₀ does cross i j k v
unfolding cross
cross-law i j k v v₁ v₂ v₃ v₄ l₀ l₁ l₂ l₃ a₀ a₁ a₂ a₃ c m n ec em en e₁ e₂ t r s =
    follow (seen l₀ a₀) (report (crossed c.id m.id n k) v₂ ⟫ remove_of c.id Executed) (remove_of m.id Executed) v₃ v₄ l₂ l₃ a₂ a₃
    (follow (seen l₀ a₀) (report (crossed c.id m.id n k) v₂) (remove_of c.id Executed) v₂ v₃ l₁ l₂ a₁ a₂ (does-report v₂ l₁ l₀ a₁ a₀ (crossed c.id m.id n k) t) r) s
    ∙ ap (λ (w : Venue). seen l₀ a₀ does (report (crossed c.id m.id n k) w ⟫ remove_of c.id Executed ⟫ remove_of m.id Executed)) (e₂ ∙ ap (fill_complex j k) e₁)
    ∙ ap (λ (z : ℤ). seen l₀ a₀ does (report (crossed c.id m.id z k) (fill_complex j k (fill_complex i k v)) ⟫ remove_of c.id Executed ⟫ remove_of m.id Executed)) en
    ∙ ap (λ (x : Complex). seen l₀ a₀ does (report (crossed x.id m.id (neg_ℤ m.limit) k) (fill_complex j k (fill_complex i k v)) ⟫ remove_of x.id Executed ⟫ remove_of m.id Executed)) ec
    ∙ ap (λ (x : Complex). seen l₀ a₀ does (report (crossed (complex_at v i).id x.id (neg_ℤ x.limit) k) (fill_complex j k (fill_complex i k v))
    ⟫ remove_of (complex_at v i).id Executed ⟫ remove_of x.id Executed)) em

-- Turns ---------------------------------------------------------------------------------------

module _ (i : ℕ) (v : Venue) (c : Complex) (e : c ≡ complex_at v i) where
  pub cross-idle : c.quantity ≡ 0 → ended ≡ cross_turn i v
  unfolding cross_turn
  cross-idle h = rw (← e, ap (λ (t : Bool). not (not t)) (eq-eqb _ _ h), cross_turn)

  module _ (n : c.quantity ≡ 0 → ⊥) where
    pub cross-nobody : nobody ≡ first (crosses v c) limit_then_id v.complex → ended ≡ cross_turn i v
    unfolding cross_turn
    cross-nobody h = rw (← e, ap (λ (t : Bool). not (not t)) (ne_eqb _ _ n), sym h, cross_turn)

    pub cross-some : (j : ℕ) (m : Complex) (k : ℕ) → picked j m ≡ first (crosses v c) limit_then_id v.complex → k ≡ min c.quantity m.quantity →
        turned (cross i j k v) ≡ cross_turn i v
    unfolding cross_turn
    cross-some j m k h q = rw (← e, ap (λ (t : Bool). not (not t)) (ne_eqb _ _ n), sym h, q, cross_turn, ← e)

-- an order that is picked rests at a place in use
pub picked-used : (b : List ℕ) (c : Complex) (j : ℕ) (m : Complex) → picked j m ≡ first (crosses (venue_of b) c) limit_then_id (venue_of b).complex →
    j < complexes_used b
unfolding complex_at
picked-used b c j m e =
    let a : At no_complex (crosses (venue_of b) c) (venue_of b).complex j m = rw (sym e) at (first-chosen no_complex (crosses (venue_of b) c) limit_then_id (venue_of b).complex) in
    elim (dec_lt j (complexes_used b)) [
      | yes h ↦ h
      | no h ↦ absurd (false≢true (cross-free (venue_of b) c no_complex refl ∙ ap (crosses (venue_of b) c) (sym (complex-past b j (omega arith)) ∙ a.at) ∙ a.is))
    ]
