-- The levels of all series and sides, how an order changes one, and the legs of a complex order.
use Rattle.std.specs.Prelude.{◌≡◌, List, [], ℕ, ◌+◌, ◌/◌, ◌%◌, ◌<◌, eqb, get_or, if◌then◌else◌}
use Rattle.rules.specs.declared.Regular.{Regular}
use Rattle.rules.specs.declared.Complex.{Complex}
use Rattle.rules.specs.Base.{held}
use Rattle.rules.specs.Words.{opposite}
use Rattle.rules.specs.Prices.{better, shown_size, best_in}
use Rattle.places.specs.declared.Level.{Level}
use Rattle.levels.specs.declared.TakenLevels.{TakenLevels}
use Rattle.levels.specs.declared.LegSides.{LegSides}
use Rattle.places.specs.Layout.{regulars_used, complexes_used, venue_of, level_in, level_of, Marked}

abbrev pub no_level : Level
no_level = record { price = 0; size = 0 }

-- a level of side d with k contracts more at price p
unfoldable pub joined_of : (side p k : ℕ) → Level → Level
joined_of d p k l =
    if eqb p l.price then record { price = p; size = k + l.size }
    else if better d p l.price then record { price = p; size = k }
    else l

-- the level of an order's side, with what that order shows
unfoldable pub with_order : Regular → Level → Level
with_order o l = if held (shown_size o) then joined_of o.side o.price (shown_size o) l else l

-- the level of a series and side, by their legging place
unfoldable pub level_by : List Regular → (n : ℕ) → Level
level_by os n = level_of (n / 2) (n % 2) os

-- from a to b the levels become those of f, and nothing else changes
pub record LevelsPut (f : ℕ → Level) (a b : List ℕ) : Type 0 where
  pub venue : venue_of b ≡ venue_of a
  pub regulars : regulars_used b ≡ regulars_used a
  pub complexes : complexes_used b ≡ complexes_used a
  pub levels : (n : ℕ) → n < 16 → level_in b n ≡ f n
  pub marked : Marked a → Marked b

-- a grid: the levels of eight series by two sides
abbrev pub cell_of : List (List Level) → (series side : ℕ) → Level
cell_of g s d = get_or (get_or g s []) d no_level

-- g has the levels of these orders
abbrev pub GridOf : List (List Level) → List Regular → Type 0
GridOf g os = (s d : ℕ) → s < 8 → d < 2 → cell_of g s d ≡ level_of s d os

-- the legs of c have a series and a side
pub record LegsIn (c : Complex) : Type 0 where
  pub first : c.series1 < 8
  pub side1 : c.side1 < 2
  pub second : c.series2 < 8
  pub side2 : c.side2 < 2

-- the levels that the legs of c take
abbrev pub taken_in : List (List Level) → Complex → TakenLevels
taken_in g c = record { first = cell_of g c.series1 (opposite c.side1); second = cell_of g c.series2 (opposite c.side2) }

-- what the test of the leg of c at side d of series s asks of the orders
abbrev pub sides_in : List (List Level) → Complex → (series side : ℕ) → LegSides
sides_in g c s d = record { own = (cell_of g s d).price; facing = (cell_of g s (opposite d)).price; taken = taken_in g c }

-- t has the levels of these orders that the legs of c take
pub record TakenOf (t : TakenLevels) (c : Complex) (os : List Regular) : Type 0 where
  pub first : t.first ≡ level_of c.series1 (opposite c.side1) os
  pub second : t.second ≡ level_of c.series2 (opposite c.side2) os

-- x has what the test of the leg of c at side d of series s asks of these orders
pub record SidesOf (x : LegSides) (c : Complex) (s d : ℕ) (os : List Regular) : Type 0 where
  pub own : x.own ≡ best_in s d os
  pub facing : x.facing ≡ best_in s (opposite d) os
  pub taken : TakenOf x.taken c os
