-- What the functions require, each part by its name.
use Rattle.std.specs.Prelude.{List, ℕ, ◌≤◌, ◌+◌}
use Rattle.places.specs.Layout.{Right, Dense, complexes_used, venue_of}
use Rattle.sweeps.specs.Rising.{Rising}
use Rattle.sweeps.specs.declared.Round.{Round}

-- numbers without gaps, and the ids of the complex orders rise
pub record DenseRising (b : List ℕ) : Type 0 where
  pub dense : Dense b
  pub rising : Rising (venue_of b).complex

-- right numbers, and count complex places in use from the first on
pub record RightPlaces (b : List ℕ) (first count : ℕ) : Type 0 where
  pub right : Right b
  pub in_use : first + count ≤ complexes_used b

-- right numbers and the complex places of a round, which are in use
pub record RightRound (b : List ℕ) (r : Round) : Type 0 where
  pub right : Right b
  pub above : r.first + r.above ≤ complexes_used b
  pub others : r.others ≤ complexes_used b

-- the complex places of a round, which are in use
pub record RoundReady (b : List ℕ) (r : Round) : Type 0 where
  pub above : r.first + r.above ≤ complexes_used b
  pub others : r.others ≤ complexes_used b
