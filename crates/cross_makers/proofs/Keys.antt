-- Whoever crosses has one of two keys.
use mathlib.Core.Path.{◌≡◌}
use mathlib.Core.Bool.{true, false, ◌&&◌, ◌||◌}
use Prim.Native.Nat.{ℕ, ◌<◌}
use native.Mathlib.Omega.{arith}
use borrow.Author.Tests.{eqb-true, eqb-false}
use lib.Dec.{eqb}
use Rattle.rules.specs.declared.Complex.{Complex}
use Rattle.rules.specs.declared.Venue.{Venue}
use Rattle.rules.specs.Words.{opposite, place_of}
use Rattle.rules.specs.Complex.{reversed, crosses}
use Rattle.rules.proofs.Tests.{and_l, and_r, and-false, or-false-l, or-false-r}
use Rattle.rules.proofs.Better.{is_false}
use Rattle.places.specs.Layout.{legs_key, ratios_number, cross_key, facing_key}
use Rattle.levels.specs.Grid.{LegsIn}

-- a leg of series a at side b faces one of series s at side d
leg-faces : (a b s d : ℕ) → d < 2 → a ≡ s → b ≡ opposite d → place_of s d ≡ place_of a (opposite b)
unfolding place_of opposite
leg-faces a b s d h p q = omega arith

-- two legs that do not both face with these ratios
legs-aside : (a b q s d r a' b' q' s' d' r' : ℕ) → d < 2 → d' < 2 → (place_of s d ≡ place_of a (opposite b) → q ≡ r → place_of s' d' ≡ place_of a' (opposite b') → q' ≡ r' → ⊥) →
    (eqb a s && eqb b (opposite d) && eqb q r && eqb a' s' && eqb b' (opposite d') && eqb q' r') ≡ false
legs-aside a b q s d r a' b' q' s' d' r' h h' n =
    is_false _ (λ e.
    let series : eqb a s ≡ true = search (and_l, and_r, e) depth 8 in
    let side : eqb b (opposite d) ≡ true = search (and_l, and_r, e) depth 8 in
    let series' : eqb a' s' ≡ true = search (and_l, and_r, e) depth 8 in
    let side' : eqb b' (opposite d') ≡ true = search (and_l, and_r, e) depth 8 in
    let ratio : eqb q r ≡ true = search (and_l, and_r, e) depth 8 in
    let ratio' : eqb q' r' ≡ true = search (and_l, and_r, e) depth 8 in
    n
    (leg-faces a b s d h (eqb-true a s series) (eqb-true b (opposite d) side))
    (eqb-true q r ratio)
    (leg-faces a' b' s' d' h' (eqb-true a' s' series') (eqb-true b' (opposite d') side'))
    (eqb-true q' r' ratio'))

-- an order with neither key is not reversed, and so no candidate
module _ (c m : Complex) (i : LegsIn m) (k x y : ℕ) (e : k ≡ cross_key m)
    (p : x ≡ facing_key c.series1 c.side1 c.ratio1 c.series2 c.side2 c.ratio2) (q : y ≡ facing_key c.series2 c.side2 c.ratio2 c.series1 c.side1 c.ratio1)
    (n : (eqb k x || eqb k y) ≡ false) where
  reversed-key : reversed c m ≡ false
  unfolding reversed legs_key ratios_number cross_key facing_key
  reversed-key =
      rw (
        legs-aside c.series1 c.side1 c.ratio1 m.series1 m.side1 m.ratio1 c.series2 c.side2 c.ratio2 m.series2 m.side2 m.ratio2 i.side1 i.side2
            (λ u g w h. eqb-false k x (or-false-l (eqb k x) (eqb k y) n) (omega arith)),
        legs-aside c.series1 c.side1 c.ratio1 m.series2 m.side2 m.ratio2 c.series2 c.side2 c.ratio2 m.series1 m.side1 m.ratio1 i.side2 i.side1
            (λ u g w h. eqb-false k y (or-false-r (eqb k x) (eqb k y) n) (omega arith)),
      )

  pub cross-key : (v : Venue) → crosses v c m ≡ false
  unfolding crosses
  cross-key v = rw (reversed-key, and-false)
