-- What the functions require, each part by its name.
use Rattle.std.specs.Prelude.{◌≡◌, List, ℕ, ◌<◌, ◌≤◌, length}
use Rattle.lanes.specs.Memory.{lane_size, done_at, count_at, place_size}
use Rattle.rules.specs.Bytes.{u8_at, u32_at}

-- a whole memory, and room for one more message done
pub record DoneReady (l : List ℕ) : Type 0 where
  pub whole : length l ≡ lane_size
  pub room : u32_at l done_at < 4294967295

-- a whole memory, and a message waits
pub record WaitingReady (l : List ℕ) : Type 0 where
  pub whole : length l ≡ lane_size
  pub waits : 0 < u8_at l count_at
  pub most : u8_at l count_at ≤ 8

-- a whole memory, a message waits, and there is room for one more message done
pub record AdvanceReady (l : List ℕ) : Type 0 where
  pub whole : length l ≡ lane_size
  pub room : u32_at l done_at < 4294967295
  pub waits : 0 < u8_at l count_at
  pub most : u8_at l count_at ≤ 8

-- a whole memory, and room for the message m to wait
pub record JoinReady (l m : List ℕ) : Type 0 where
  pub whole : length l ≡ lane_size
  pub room : u8_at l count_at < 8
  pub short : length m ≤ 32

-- a whole place, and a message that it holds
pub record PlaceFor (p m : List ℕ) : Type 0 where
  pub whole : length p ≡ place_size
  pub short : length m ≤ 32
