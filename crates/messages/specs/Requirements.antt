-- What the functions require, each part by its name.
use Rattle.std.specs.Prelude.{◌≡◌, List, ℕ, ◌<◌, ◌≤◌}
use Rattle.places.specs.Layout.{Dense, venue_of}
use Rattle.rules.specs.Bytes.{u16_at}
use Rattle.messages.specs.Frames.{Framed}
use Rattle.demands.specs.Soundness.{SoundVenue}

-- numbers of a sound venue, and a message of a kind from 1 to 3
pub record FirstKind (b m : List ℕ) (k : ℕ) : Type 0 where
  pub dense : Dense b
  pub sound : SoundVenue (venue_of b)
  pub framed : Framed m
  pub kind : k ≡ u16_at m 2
  pub most : k ≤ 3

-- numbers of a sound venue, and a message of a kind from 4 to 6
pub record MarketKind (b m : List ℕ) (k : ℕ) : Type 0 where
  pub dense : Dense b
  pub sound : SoundVenue (venue_of b)
  pub framed : Framed m
  pub kind : k ≡ u16_at m 2
  pub least : 3 < k
  pub most : k ≤ 6

-- numbers of a sound venue, and a message of a kind from 7 on
pub record LaterKind (b m : List ℕ) (k : ℕ) : Type 0 where
  pub dense : Dense b
  pub sound : SoundVenue (venue_of b)
  pub framed : Framed m
  pub kind : k ≡ u16_at m 2
  pub least : 6 < k
