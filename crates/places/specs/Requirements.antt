-- What the functions on the numbers require, each part by its name.
use Rattle.std.specs.Prelude.{◌≡◌, true, false, ◌||◌, ◌⊎◌, List, ℕ, ◌<◌, ◌≤◌}
use Rattle.rules.specs.Base.{held}
use Rattle.rules.specs.Complex.{rests_regular, rests_complex}
use Rattle.rules.specs.Places.{holds_edition}
use Rattle.rules.specs.Sound.{shows_fully}
use Rattle.rules.specs.Refusals.{regular_in_range}
use Rattle.places.specs.Layout.{Right, Dense, Figured, regulars_used, complexes_used, none_shows_again, edition_in, venue_of, Below}
use Rattle.rules.specs.declared.Regular.{Regular}
use Rattle.rules.specs.declared.Complex.{Complex}
use Rattle.rules.specs.declared.Edition.{Edition}
use Rattle.rules.specs.Settings.{free_edition}

-- two regular places in use
pub record RegularsReady (b : List ℕ) (i j : ℕ) : Type 0 where
  pub first : i < regulars_used b
  pub second : j < regulars_used b

-- two complex places in use
pub record ComplexesReady (b : List ℕ) (i j : ℕ) : Type 0 where
  pub first : i < complexes_used b
  pub second : j < complexes_used b

-- a series and a side
pub record SideReady (s d : ℕ) : Type 0 where
  pub series : s < 8
  pub side : d < 2

-- the figures in force, and a series
pub record IncrementReady (b : List ℕ) (s : ℕ) : Type 0 where
  pub series : s < 8
  pub figures : Figured b

-- the figures in force, and a figure
pub record FigureReady (b : List ℕ) (f : ℕ) : Type 0 where
  pub figure : f < 9
  pub figures : Figured b

-- a series and one of its last 20 generations
pub record GenerationReady (s k : ℕ) : Type 0 where
  pub series : s < 8
  pub generation : k < 20

-- right numbers and a series
pub record RightSeries (b : List ℕ) (s : ℕ) : Type 0 where
  pub right : Right b
  pub series : s < 8

-- right numbers and a series, and every order shows what it should
pub record RightShown (b : List ℕ) (s : ℕ) : Type 0 where
  pub right : Right b
  pub series : s < 8
  pub shows : none_shows_again b ≡ true

-- right numbers, a series and a side
pub record RightSide (b : List ℕ) (s d : ℕ) : Type 0 where
  pub right : Right b
  pub series : s < 8
  pub side : d < 2

-- right numbers and a legging place
pub record RightPlace (b : List ℕ) (n : ℕ) : Type 0 where
  pub right : Right b
  pub place : n < 16

-- right numbers and a regular place in use
pub record RightRegular (b : List ℕ) (i : ℕ) : Type 0 where
  pub in_use : i < regulars_used b
  pub right : Right b

-- right numbers and a complex place in use
pub record RightComplex (b : List ℕ) (i : ℕ) : Type 0 where
  pub right : Right b
  pub in_use : i < complexes_used b

-- a free regular place for o
pub record RegularRoom (b : List ℕ) (o : Regular) : Type 0 where
  pub room : regulars_used b < 128
  pub series : o.series < 8
  pub side : o.side < 2
  pub display : o.display ≤ o.quantity
  pub fully : shows_fully o ≡ true

-- a free complex place for c
pub record ComplexRoom (b : List ℕ) (c : Complex) : Type 0 where
  pub room : complexes_used b < 32
  pub first : c.series1 < 8
  pub side1 : c.side1 < 2
  pub second : c.series2 < 8
  pub side2 : c.side2 < 2

-- place i is free for the edition e
pub record EditionRoom (b : List ℕ) (i : ℕ) (e : Edition) : Type 0 where
  pub place : i < 32
  pub free : holds_edition (edition_in b i) ≡ false
  pub value : 0 < e.value ⊎ 7 < e.figure

-- right numbers, and a free place for the newest order o
pub record RightOrder (b : List ℕ) (o : Regular) : Type 0 where
  pub right : Right b
  pub room : regulars_used b < 128
  pub series : o.series < 8
  pub side : o.side < 2
  pub price : held o.price ≡ true
  pub newest : Below o.id (venue_of b).regular
  pub shows : held o.display ≡ true
  pub display : o.display ≤ o.quantity
  pub fully : shows_fully o ≡ true

-- numbers without gaps, and a free place for the newest order o
pub record DenseOrder (b : List ℕ) (o : Regular) : Type 0 where
  pub dense : Dense b
  pub room : regulars_used b < 128
  pub series : o.series < 8
  pub side : o.side < 2
  pub price : held o.price ≡ true
  pub newest : Below o.id (venue_of b).regular
  pub shows : held o.display ≡ true
  pub display : o.display ≤ o.quantity
  pub fully : shows_fully o ≡ true

-- numbers without gaps, and an order with the id n rests
pub record DenseRests (b : List ℕ) (n : ℕ) : Type 0 where
  pub dense : Dense b
  pub rests : (rests_regular (venue_of b) n || rests_complex (venue_of b) n) ≡ true

-- right numbers, a free edition, and a value that the figure may take
pub record RightFigure (b : List ℕ) (f x : ℕ) : Type 0 where
  pub free : free_edition (venue_of b) < 32
  pub value : 0 < x ⊎ 7 < f
  pub right : Right b

-- numbers without gaps, and a free place for the newest order o, which is in range
pub record InRangeOrder (b : List ℕ) (o : Regular) : Type 0 where
  pub dense : Dense b
  pub room : regulars_used b < 128
  pub in_range : regular_in_range o ≡ true
  pub fully : shows_fully o ≡ true
  pub newest : Below o.id (venue_of b).regular

-- two of n places
pub record PlacesReady (i j n : ℕ) : Type 0 where
  pub first : i < n
  pub second : j < n
