-- A loop of effects upon the numbers of a venue: its invariant is what is left to do.
use mathlib.Core.Path.{◌≡◌, refl, sym, ap, ◌∙◌}
use mathlib.Core.List.{List}
use Prim.Native.Nat.{ℕ, zero, suc}
use lib.ListN.{length}
use Rattle.rules.specs.declared.Venue.{Venue}
use Rattle.rules.specs.Effects.{Effect, nothing, ◌⟫◌, Turn, ended, turned, repeat}
use Rattle.records.specs.Seen.{seen}
use Rattle.records.specs.Stage.{stage, ◌does◌}
use Rattle.records.proofs.StageLaws.{onward, does-nothing, does-room}
use Rattle.places.specs.Layout.{size, venue_of, SameCounts}
use Rattle.places.proofs.Beside.{counts-on}

-- from b₀ and out₀ at `at`, e is due; b and out at pos have been reached, and `rest` is left to do
pub record Doing (e : Effect) (rest : Venue → Effect) (b₀ out₀ : List ℕ) (at : ℕ) (b out : List ℕ) (pos : ℕ) : Type 0 where
  pub whole : length b ≡ size
  pub counts : SameCounts b₀ b
  pub left : seen out pos does rest (venue_of b) ≡ seen out₀ at does e

pub doing-start : (e : Effect) (rest : Venue → Effect) (b out : List ℕ) (at : ℕ) → length b ≡ size → rest (venue_of b) ≡ e → Doing e rest b out at b out at
doing-start e rest b out at h q = record {
  whole = h;
  counts = record { regulars = refl; complexes = refl; right = λ h. h };
  left = ap (λ (x : Effect). seen out at does x) q;
}

module _ {e : Effect} {rest : Venue → Effect} {b₀ out₀ b out : List ℕ} {at pos : ℕ} (i : Doing e rest b₀ out₀ at b out pos) where
  -- one effect more is done
  pub doing-turn : (f : Effect) (next : Venue → Effect) (b₁ out₁ : List ℕ) (r : ℕ) → rest (venue_of b) ≡ (f ⟫ next) → length b₁ ≡ length b →
      stage (venue_of b₁) out₁ r ≡ seen out pos does f → SameCounts b b₁ → Doing e next b₀ out₀ at b₁ out₁ r
  doing-turn f next b₁ out₁ r t h q k = record {
    whole = h ∙ i.whole;
    counts = counts-on b₀ b b₁ i.counts k;
    left = sym (onward (seen out pos) f next (venue_of b₁) out₁ r q) ∙ ap (λ (x : Effect). seen out pos does x) (sym t) ∙ i.left;
  }

  -- nothing is left to do
  pub doing_end : nothing (venue_of b) ≡ rest (venue_of b) → stage (venue_of b) out pos ≡ seen out₀ at does e
  doing_end t = does-nothing (venue_of b) out pos ∙ ap (λ (x : Effect). seen out pos does x) t ∙ i.left

  pub doing-room : length out ≡ length out₀
  doing-room = does-room out out₀ pos at (rest (venue_of b)) e i.left

-- Turns ---------------------------------------------------------------------------------------

module _ (turn : Venue → Turn) (v : Venue) where
  pub repeat-zero : (f : ℕ) → f ≡ 0 → nothing v ≡ repeat f turn v
  unfolding repeat
  repeat-zero f e = rw e

  pub repeat-stop : (f : ℕ) → ended ≡ turn v → nothing v ≡ repeat f turn v
  unfolding repeat
  repeat-stop zero e = refl
  repeat-stop (suc f) e = rw (sym e, repeat)

  repeat-more : (f : ℕ) (e : Effect) → turned e ≡ turn v → repeat (suc f) turn v ≡ (e ⟫ repeat f turn)
  unfolding repeat
  repeat-more f e q = rw (sym q, repeat)

  pub repeat-turn : (t f : ℕ) (e : Effect) → suc f ≡ t → turned e ≡ turn v → repeat t turn v ≡ (e ⟫ repeat f turn)
  repeat-turn t f e z q = ap (λ (k : ℕ). repeat k turn v) (sym z) ∙ repeat-more f e q
