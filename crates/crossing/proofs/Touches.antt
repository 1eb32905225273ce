-- The touch of legging orders, test by test.
use Rattle.std.specs.Prelude.{if◌then◌else◌}
use mathlib.Core.Path.{◌≡◌, ap, ap₂, ◌∙◌}
use mathlib.Core.Bool.{true, false, ◌||◌}
use mathlib.Core.List.{List}
use Prim.Native.Nat.{ℕ, ◌≤◌, ◌<◌}
use borrow.Author.Tests.{eq-eqb, ne_eqb, le-leb, lt-leb}
use lib.Dec.{eqb, leb}
use lib.IntN.{ℤ, ◌+ℤ◌}
use lib.Signed.{le_z}
use Rattle.rules.specs.declared.Complex.{Complex}
use Rattle.rules.specs.declared.Venue.{Venue}
use Rattle.rules.specs.declared.Cause.{Cause}
use Rattle.rules.specs.declared.Cause.TheVariants.{Touched, NoUnit}
use Rattle.rules.specs.Words.{opposite, place_of, complex_at}
use Rattle.rules.specs.Prices.{best_own, own_size, weighed, net}
use Rattle.rules.specs.Removal.{remove, fail_if}
use Rattle.rules.specs.Complex.{touches, taken_side, fills_unit, touch}
use Rattle.records.specs.Seen.{seen}
use Rattle.records.specs.Stage.{stage, ◌does◌}
use Rattle.records.proofs.StageLaws.{does-nothing}

module _ (v : Venue) (c : Complex) where
  pub touch-free : c.quantity ≡ 0 → false ≡ touches v c
  unfolding touches
  touch-free h = rw (eq-eqb c.quantity 0 h)

  module _ (n : c.quantity ≡ 0 → ⊥) (a f : ℕ) (ef : f ≡ opposite c.side1) (ea : a ≡ best_own v c.series1 f) where
    one : a ≡ best_own v c.series1 (opposite c.side1)
    one = ea ∙ ap (best_own v c.series1) ef

    pub touch-none1 : a ≡ 0 → false ≡ touches v c
    unfolding touches
    touch-none1 h = rw (ne_eqb c.quantity 0 n, ← one, eq-eqb a 0 h)

    module _ (m : a ≡ 0 → ⊥) (b g : ℕ) (eg : g ≡ opposite c.side2) (eb : b ≡ best_own v c.series2 g) where
      two : b ≡ best_own v c.series2 (opposite c.side2)
      two = eb ∙ ap (best_own v c.series2) eg

      pub touch-none2 : b ≡ 0 → false ≡ touches v c
      unfolding touches
      touch-none2 h = rw (ne_eqb c.quantity 0 n, ← one, ne_eqb a 0 m, ← two, eq-eqb b 0 h)

      pub touch-net : (b ≡ 0 → ⊥) → (x y : ℤ) → x ≡ weighed c.ratio1 c.side1 a +ℤ weighed c.ratio2 c.side2 b → y ≡ c.limit → le_z x y ≡ touches v c
      unfolding touches net
      touch-net p x y ex ey = rw (ne_eqb c.quantity 0 n, ← one, ne_eqb a 0 m, ← two, ne_eqb b 0 p, ← ex, ← ey)

-- A unit --------------------------------------------------------------------------------------

module _ (v : Venue) (c : Complex) (a f : ℕ) (ef : f ≡ opposite c.side1) (ea : a ≡ own_size v c.series1 f) where
  size1 : a ≡ own_size v c.series1 (opposite c.side1)
  size1 = ea ∙ ap (own_size v c.series1) ef

  pub unit-short : a < c.ratio1 → false ≡ fills_unit v c
  unfolding fills_unit
  unit-short h = rw (← size1, lt-leb c.ratio1 a h)

  pub unit-second : c.ratio1 ≤ a → (b g : ℕ) → g ≡ opposite c.side2 → b ≡ own_size v c.series2 g → leb c.ratio2 b ≡ fills_unit v c
  unfolding fills_unit
  unit-second h b g eg eb = rw (← size1, le-leb c.ratio1 a h) (ap (leb c.ratio2) (eb ∙ ap (own_size v c.series2) eg))

-- The touch -----------------------------------------------------------------------------------

module _ (i : ℕ) (v : Venue) (c : Complex) (e : c ≡ complex_at v i) where
  pub touch-not : (l : List ℕ) (at : ℕ) → touches v c ≡ false → stage v l at ≡ seen l at does touch i v
  unfolding touch
  touch-not l at h = rw (← e, h) (does-nothing v l at)

  pub touch-both : (w : Venue) (l₀ l₁ : List ℕ) (a₀ a₁ : ℕ) → touches v c ≡ true → (x : Cause) → x ≡ (if fills_unit v c then Touched else NoUnit) → (p q f g : ℕ) →
      f ≡ opposite c.side1 → p ≡ place_of c.series1 f → g ≡ opposite c.side2 → q ≡ place_of c.series2 g →
      stage w l₁ a₁ ≡ seen l₀ a₀ does remove (λ n _. fail_if (eqb n p || eqb n q) x) v → stage w l₁ a₁ ≡ seen l₀ a₀ does touch i v
  unfolding touch taken_side
  touch-both w l₀ l₁ a₀ a₁ h x ex p q f g ef ep eg eq r =
      rw (← e, h)
      (r ∙ ap₂ (λ (y z : ℕ). seen l₀ a₀ does remove (λ n _. fail_if (eqb n y || eqb n z) x) v)
      (ep ∙ ap (place_of c.series1) ef) (eq ∙ ap (place_of c.series2) eg)
      ∙ ap (λ (y : Cause). seen l₀ a₀ does remove (λ n _. fail_if (taken_side c n) y) v) ex)
