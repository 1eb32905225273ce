-- Places held from the first on, and the first free one.
use mathlib.Core.Path.{◌≡◌, refl, sym, ap, ◌∙◌}
use mathlib.Core.Bool.{Bool, true, false, not}
use mathlib.Core.Logic.{◌⊎◌, inl, inr}
use mathlib.Core.List.{List}
use Prim.Native.Nat.{ℕ, zero, suc, ◌+◌, ◌≤◌, ◌<◌}
use native.Mathlib.Omega.{arith}
use native.Mathlib.Decide.{dec_lt}
use Rattle.rules.specs.declared.Edition.{Edition}
use Rattle.rules.specs.Base.{place_where}
use Rattle.rules.specs.Places.{holds_edition}
use Rattle.rules.specs.Settings.{free_edition}
use Rattle.places.specs.Layout.{upto, Filled, edition_in, venue_of}

-- one more held place
pub filled_more : {A : Type 0} (holds : A → Bool) (f : ℕ → A) (i : ℕ) → Filled holds f i → holds (f i) ≡ true → Filled holds f (i + 1)
filled_more holds f i full h = λ k w. elim (dec_lt k i) [
  | yes r ↦ full k r
  | no r ↦ (let e : k ≡ i = omega arith in ap (λ (x : ℕ). holds (f x)) e ∙ h)
]

first-place : (f : ℕ → Edition) (i k j e : ℕ) → j ≤ k → e ≡ i + j → ((x : ℕ) → i ≤ x → x < e → holds_edition (f x) ≡ true) →
    (j ≡ k) ⊎ (holds_edition (f e) ≡ false) → place_where (λ o. not (holds_edition o)) (upto f i k) ≡ j
unfolding place_where upto
first-place f i zero j e le is full end = omega arith
first-place f i (suc k) zero e le is full (inl q) = absurd (omega arith)
first-place f i (suc k) zero e le is full (inr q) = let z : i ≡ e = omega arith in rw (z, q) refl
first-place f i (suc k) (suc j) e le is full end =
    rw (full i (omega arith) (omega arith)) (ap suc (first-place f (suc i) k j e (omega arith) (omega arith) (λ x p q. full x (omega arith) q) (fewer end)))
  where
    fewer : (suc j ≡ suc k) ⊎ (holds_edition (f e) ≡ false) → (j ≡ k) ⊎ (holds_edition (f e) ≡ false)
    fewer (inl q) = inl (omega arith)
    fewer (inr q) = inr q

pub free-edition-is : (b : List ℕ) (i : ℕ) → i ≤ 32 → Filled holds_edition (edition_in b) i → (i ≡ 32) ⊎ (holds_edition (edition_in b i) ≡ false) → i ≡ free_edition (venue_of b)
unfolding free_edition venue_of
free-edition-is b i h full end = sym (first-place (edition_in b) 0 32 i i h (omega arith) (λ x p q. full x q) end)
