-- Soundness is kept: a sound venue stays sound under every message, and the fresh venue is sound.
use Rattle.std.specs.Prelude.{◌≡◌, true, ◌≢◌, List, suc, ℕ, length}
use Rattle.rules.specs.declared.Venue.{Venue}
use Rattle.rules.specs.Words.{fresh_venue}
use Rattle.rules.specs.Records.{FourBytes}
use Rattle.rules.specs.Generation.{generations_of}
use Rattle.rules.specs.Step.{step}
use Rattle.rules.specs.Sound.{follows, sound}
use Rattle.demands.specs.Demand.{Later, Opening, call_upon, calls, opening}

-- a venue of the declared type: its arrays have their lengths
pub record Shaped (v : Venue) : Type 0 where
  pub regular : length v.regular ≡ 128
  pub complex : length v.complex ≡ 32
  pub legging : length v.legging ≡ 16
  pub series : length v.series ≡ 8
  pub editions : length v.editions ≡ 32
  pub generations : length v.generations ≡ 8
  pub twenty : (s : ℕ) → length (generations_of v s) ≡ 20

pub record SoundVenue (v : Venue) : Type 0 where
  pub shaped : Shaped v
  pub is : sound v ≡ true

-- sound, and the number of the next message is above every kept edition's and generation's
pub record SoundAt (number : ℕ) (v : Venue) : Type 0 where
  pub venue : SoundVenue v
  pub next : follows number v ≡ true

-- under every message: any bytes, of every kind, accepted or refused
abbrev pub StaysSound : Type 0
StaysSound = (v : Venue) (number : ℕ) → FourBytes number → SoundAt number v → (message : List ℕ) →
    SoundAt (suc number) (step v number message).effect.venue

abbrev pub FreshSound : Type 0
FreshSound = SoundAt 1 fresh_venue

-- so every venue that the calls return is sound
abbrev pub AlwaysSound : Type 0
AlwaysSound = (o : Opening) (cs : List Later) →
    let s = calls (opening o) cs in
    SoundAt (suc s.done) s.venue

-- and a call upon a venue that came from the calls never answers 9, with a message or with a list
abbrev pub NeverNine : Type 0
NeverNine = (o : Opening) (cs : List Later) (c : Later) →
    let s = calls (opening o) cs in
    (call_upon c s.venue s.done).returned.number ≢ 9

-- and the messages done so far, which the next call is given, are a u32
abbrev pub DoneFits : Type 0
DoneFits = (o : Opening) (cs : List Later) → FourBytes (calls (opening o) cs).done
