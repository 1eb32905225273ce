-- What the functions require, each part by its name.
use Rattle.std.specs.Prelude.{◌≡◌, true, List, ℕ, ◌<◌}
use Rattle.rules.specs.Words.{opposite}
use Rattle.rules.specs.Prices.{best_regular}
use Rattle.places.specs.Layout.{Right, Figured, venue_of}
use Rattle.generation.specs.Parts.{may_generate}
use Rattle.levels.specs.Grid.{LegsIn, SidesOf}
use Rattle.rules.specs.declared.Complex.{Complex}
use Rattle.levels.specs.declared.LegSides.{LegSides}

-- what the generation of the leg of c at side d of series s asks
pub record PlanReady (b : List ℕ) (c : Complex) (s d : ℕ) : Type 0 where
  pub right : Right b
  pub legs : LegsIn c
  pub series : s < 8
  pub side : d < 2
  pub some : 0 < c.quantity
  pub may : may_generate (venue_of b) c ≡ true

-- what the test of a leg that is yet to stand asks
pub record StandReady (b : List ℕ) (x : LegSides) (c : Complex) (s d : ℕ) : Type 0 where
  pub sides : SidesOf x c s d (venue_of b).regular
  pub legs : LegsIn c
  pub series : s < 8
  pub side : d < 2
  pub may : may_generate (venue_of b) c ≡ true
  pub figures : Figured b

-- the best prices of a side and of the side that it faces
pub record BestPrices (b : List ℕ) (p q s d : ℕ) : Type 0 where
  pub own : p ≡ best_regular (venue_of b) s d
  pub facing : q ≡ best_regular (venue_of b) s (opposite d)
  pub series : s < 8
  pub figures : Figured b
