-- What the functions require, each part by its name.
use Rattle.std.specs.Prelude.{◌≡◌, List, ℕ, ◌<◌, ◌≤◌, ℤ, nat_abs}
use Rattle.rules.specs.Prices.{best_regular}
use Rattle.places.specs.Layout.{Right, Dense, Figured, complexes_used, venue_of, level_of}
use Rattle.levels.specs.Grid.{GridOf, LegsIn, TakenOf, SidesOf}
use Rattle.rules.specs.declared.Complex.{Complex}
use Rattle.places.specs.declared.Level.{Level}
use Rattle.levels.specs.declared.TakenLevels.{TakenLevels}
use Rattle.levels.specs.declared.LegSides.{LegSides}

-- right numbers and the legs of c
pub record LegsReady (b : List ℕ) (c : Complex) : Type 0 where
  pub right : Right b
  pub legs : LegsIn c

-- right numbers and the legs of c and of m
pub record LegsPairReady (b : List ℕ) (c m : Complex) : Type 0 where
  pub right : Right b
  pub legs : LegsIn c
  pub others : LegsIn m

-- right numbers, the legs of c, a series and a side
pub record LegSideReady (b : List ℕ) (c : Complex) (s d : ℕ) : Type 0 where
  pub right : Right b
  pub legs : LegsIn c
  pub series : s < 8
  pub side : d < 2

-- the levels that the legs of c take
pub record TakenReady (b : List ℕ) (t : TakenLevels) (c : Complex) : Type 0 where
  pub taken : TakenOf t c (venue_of b).regular
  pub legs : LegsIn c

-- the figures in force, and the levels that the legs of c take
pub record TakenFigured (b : List ℕ) (t : TakenLevels) (c : Complex) : Type 0 where
  pub taken : TakenOf t c (venue_of b).regular
  pub legs : LegsIn c
  pub figures : Figured b

-- the figures in force, the levels that the legs of c take, and a series
pub record TakenSeries (b : List ℕ) (t : TakenLevels) (c : Complex) (s : ℕ) : Type 0 where
  pub taken : TakenOf t c (venue_of b).regular
  pub legs : LegsIn c
  pub series : s < 8
  pub figures : Figured b

-- what the test of the band asks: x is a net within the bounds of all nets
pub record BandReady (b : List ℕ) (t : TakenLevels) (c : Complex) (x : ℤ) : Type 0 where
  pub taken : TakenOf t c (venue_of b).regular
  pub legs : LegsIn c
  pub bound : nat_abs x ≤ 2190433320450
  pub figures : Figured b

-- the figures in force, and its levels
pub record GridReady (b : List ℕ) (g : List (List Level)) : Type 0 where
  pub grid : GridOf g (venue_of b).regular
  pub figures : Figured b

-- the figures in force, its levels, and a legging place
pub record GridPlaceReady (b : List ℕ) (g : List (List Level)) (n : ℕ) : Type 0 where
  pub grid : GridOf g (venue_of b).regular
  pub place : n < 16
  pub figures : Figured b

-- what the test of the leg of c at side d of series s asks
pub record SidesReady (b : List ℕ) (x : LegSides) (c : Complex) (s d : ℕ) : Type 0 where
  pub sides : SidesOf x c s d (venue_of b).regular
  pub legs : LegsIn c
  pub series : s < 8
  pub figures : Figured b

-- the level of a series and side
pub record LevelReady (b : List ℕ) (l : Level) (s d : ℕ) : Type 0 where
  pub level : l ≡ level_of s d (venue_of b).regular
  pub series : s < 8
  pub side : d < 2

-- the best price of a series and side
pub record BestReady (b : List ℕ) (p s d : ℕ) : Type 0 where
  pub best : p ≡ best_regular (venue_of b) s d
  pub series : s < 8
  pub side : d < 2

-- a series, and the best price of its side d
pub record BestOfSeries (b : List ℕ) (p s d : ℕ) : Type 0 where
  pub best : p ≡ best_regular (venue_of b) s d
  pub series : s < 8

-- numbers without gaps, and a free place for c
pub record DenseComplex (b : List ℕ) (c : Complex) : Type 0 where
  pub dense : Dense b
  pub room : complexes_used b < 32
  pub legs : LegsIn c
