-- What the functions require, each part by its name.
use Rattle.std.specs.Prelude.{◌≡◌, true, List, ℕ}
use Rattle.rules.specs.Sound.{shows_fully}
use Rattle.rules.specs.Refusals.{complex_in_range}
use Rattle.places.specs.Layout.{Dense, venue_of}
use Rattle.rules.specs.declared.Regular.{Regular}
use Rattle.rules.specs.declared.Complex.{Complex}
use Rattle.rules.specs.Words.{one_to_one}
use Rattle.demands.specs.Soundness.{SoundVenue}

-- numbers without gaps that stand for a sound venue
pub record SoundNumbers (b : List ℕ) : Type 0 where
  pub dense : Dense b
  pub sound : SoundVenue (venue_of b)

-- numbers of a sound venue, and an order that shows what it should
pub record SoundOrder (b : List ℕ) (o : Regular) : Type 0 where
  pub dense : Dense b
  pub sound : SoundVenue (venue_of b)
  pub fully : shows_fully o ≡ true

-- numbers of a sound venue, and a complex order in range
pub record SoundComplex (b : List ℕ) (c : Complex) : Type 0 where
  pub dense : Dense b
  pub sound : SoundVenue (venue_of b)
  pub in_range : complex_in_range c ≡ true

-- numbers of a sound venue, and a complex order one to one
pub record SoundPair (b : List ℕ) (c : Complex) : Type 0 where
  pub dense : Dense b
  pub sound : SoundVenue (venue_of b)
  pub pair : one_to_one c ≡ true
