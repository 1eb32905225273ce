-- The levels of a side, and of the legs that a complex order takes.
use mathlib.Core.Path.{◌≡◌, sym, ap, ◌∙◌}
use mathlib.Core.List.{List}
use Prim.Native.Nat.{ℕ, ◌<◌}
use native.Mathlib.Omega.{arith}
use Rattle.rules.specs.declared.Regular.{Regular}
use Rattle.rules.specs.declared.Complex.{Complex}
use Rattle.rules.specs.declared.Venue.{Venue}
use Rattle.rules.specs.Words.{opposite}
use Rattle.rules.specs.Prices.{best_in, best_regular, best_size}
use Rattle.places.specs.Layout.{level_of}
use Rattle.places.specs.declared.Level.{Level}
use Rattle.levels.specs.declared.TakenLevels.{TakenLevels}
use Rattle.levels.specs.declared.LegSides.{LegSides}
use Rattle.levels.specs.Grid.{GridOf, LegsIn, taken_in, sides_in, TakenOf, SidesOf}

module _ (v : Venue) (s d : ℕ) (l : Level) (e : l ≡ level_of s d v.regular) where
  pub level-price : l.price ≡ best_regular v s d
  unfolding level_of best_regular
  level-price = ap (λ (x : Level). x.price) e

  pub level-size : l.size ≡ best_size v s d
  unfolding level_of best_size best_regular
  level-size = ap (λ (x : Level). x.size) e

pub opposite-in : (d : ℕ) → opposite d < 2
unfolding opposite
opposite-in d = omega arith

pub opposite-side : (d f : ℕ) → f ≡ opposite d → f < 2
opposite-side d f e = rw e (opposite-in d)

-- what a look at the grid finds
module _ (g : List (List Level)) (os : List Regular) (h : GridOf g os) (c : Complex) (k : LegsIn c) where
  taken-in : TakenOf (taken_in g c) c os
  taken-in = record {
    first = h c.series1 (opposite c.side1) k.first (opposite-in c.side1);
    second = h c.series2 (opposite c.side2) k.second (opposite-in c.side2);
  }

  pub sides-right : (s d : ℕ) → s < 8 → d < 2 → (x : LegSides) → x ≡ sides_in g c s d → SidesOf x c s d os
  unfolding level_of
  sides-right s d hs hd x e =
      rw e
      (record {
        own = ap (λ (l : Level). l.price) (h s d hs hd);
        facing = ap (λ (l : Level). l.price) (h s (opposite d) hs (opposite-in d));
        taken = taken-in;
      })

-- and what it says of the sides
module _ (v : Venue) (t : TakenLevels) (c : Complex) (h : TakenOf t c v.regular) (f : ℕ) where
  pub first-best : f ≡ opposite c.side1 → t.first.price ≡ best_regular v c.series1 f
  first-best e = level-price v c.series1 (opposite c.side1) t.first h.first ∙ ap (best_regular v c.series1) (sym e)

  pub second-best : f ≡ opposite c.side2 → t.second.price ≡ best_regular v c.series2 f
  second-best e = level-price v c.series2 (opposite c.side2) t.second h.second ∙ ap (best_regular v c.series2) (sym e)

module _ (v : Venue) (x : LegSides) (c : Complex) (s d : ℕ) (h : SidesOf x c s d v.regular) where
  pub own_is : x.own ≡ best_regular v s d
  unfolding best_regular
  own_is = h.own

  pub facing-is : (f : ℕ) → f ≡ opposite d → x.facing ≡ best_regular v s f
  unfolding best_regular
  facing-is f e = h.facing ∙ ap (λ (k : ℕ). best_in s k v.regular) (sym e)
