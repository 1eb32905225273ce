-- What the functions require, each part by its name.
use Rattle.std.specs.Prelude.{◌≡◌, List, ℕ, ◌≤◌, length}
use Rattle.lanes.specs.Memory.{lane_size, places_at}
use Rattle.rules.specs.Bytes.{u8_at}

-- a whole memory of one venue, whose messages wait in places that it has
pub record HeadReady (l : List ℕ) : Type 0 where
  pub whole : length l ≡ lane_size
  pub places : u8_at l places_at ≤ 32
