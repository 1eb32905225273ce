-- The length and the kind of a message's bytes.
use Rattle.std.specs.Prelude.{◌≡◌, false, List, ℕ, ◌≤◌, ◌<◌, length, Result, Ok, Err}
use Rattle.rules.specs.Bytes.{u16_at}
use Rattle.rules.specs.Messages.{length_of}
use Rattle.rules.specs.declared.Refusal.{Refusal}
use Rattle.rules.specs.Refusals.{torn, decoded}

-- bytes that are not torn, of a known kind and of its length
pub record Framed (bs : List ℕ) : Type 0 where
  pub whole : torn bs ≡ false
  pub four : 4 ≤ length bs
  pub low : 0 < u16_at bs 2
  pub high : u16_at bs 2 ≤ 11
  pub size : u16_at bs 0 ≡ length_of (u16_at bs 2)
  pub room : length_of (u16_at bs 2) ≤ length bs

-- what a test of the bytes' length and kind finds: none of the refusals 1 to 3, or the first of them that the bytes meet
abbrev pub FrameRefusal : List ℕ → Result (Unit {0}) Refusal → Type 0
FrameRefusal bs (Ok t) = Framed bs
FrameRefusal bs (Err r) = Err r ≡ decoded bs
