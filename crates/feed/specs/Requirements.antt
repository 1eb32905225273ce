-- What the functions require, each part by its name.
use Rattle.std.specs.Prelude.{◌≡◌, true, ℕ, ◌<◌, ◌≤◌, ◌+◌, ◌-◌, length}
use Rattle.rules.specs.Bytes.{u16_at}
use Rattle.feed.specs.declared.Line.{Line}
use Rattle.feed.specs.Cursors.{left_of, ready, stop_of}

-- behind the next number of line l stands a whole message
pub record MessageThere (l : Line) : Type 0 where
  pub head : l.at + 6 ≤ length l.bytes.now
  pub whole : l.at + 4 + u16_at l.bytes.now (l.at + 4) ≤ length l.bytes.now

-- line l stands ready for the message number n
pub record LineReady (l : Line) (n : ℕ) : Type 0 where
  pub numbered : 0 < n
  pub stands : ready (n - 1) (left_of l) ≡ true

-- both lines stand ready for the message number n, which one of them has
pub record LinesReady (m s : Line) (n : ℕ) : Type 0 where
  pub numbered : 0 < n
  pub main : ready (n - 1) (left_of m) ≡ true
  pub spare : ready (n - 1) (left_of s) ≡ true
  pub goes : stop_of n (left_of m) (left_of s) ≡ 0

-- both lines stand ready after the message number n, and one of them goes on
pub record LinesLeft (m s : Line) (n : ℕ) : Type 0 where
  pub main : ready n (left_of m) ≡ true
  pub spare : ready n (left_of s) ≡ true
  pub in_main : m.at ≤ length m.bytes.now
  pub in_spare : s.at ≤ length s.bytes.now
  pub left : m.at + s.at < length m.bytes.now + length s.bytes.now
