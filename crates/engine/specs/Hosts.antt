-- What a host sees of its first venue, of one message upon the venue in its memory, of that venue's settings, and of a set of records that carries it over.
use Rattle.std.specs.Prelude.{◌≡◌, ◌&&◌, List, [], ◌∷◌, ◌++◌, ℕ, ◌-◌, leb, eqb, length, replicate, if◌then◌else◌}
use Rattle.rules.specs.declared.Settings.{Settings}
use Rattle.rules.specs.Words.{fresh_venue}
use Rattle.rules.specs.Bytes.{u32}
use Rattle.rules.specs.Records.{FourBytes, sheet}
use Rattle.rules.specs.Calls.{Call, one, settings}
use Rattle.venue_bytes.specs.Held.{venue_size, venue_bytes, venue_from}
use Rattle.sets.specs.Set.{ReadSet, write_set, not_read, read_set}

-- The first venue -----------------------------------------------------------------------------

pub record FirstVenue : Type 0 where
  pub number : ℕ
  pub venue : List ℕ

abbrev pub first_venue : (number : ℕ) (venue : List ℕ) → FirstVenue
first_venue n v = record { number = n; venue = v }

-- the fresh venue's bytes; a memory of another length can hold no venue: 9, "venue unsound"
unfoldable pub fresh_hosted : (memory : List ℕ) → FirstVenue
fresh_hosted memory = if eqb (length memory) venue_size then first_venue 0 (venue_bytes fresh_venue) else first_venue 9 memory

-- so the first call after it is upon a fresh venue
abbrev pub HeldFirst : Type 0
HeldFirst = (memory : List ℕ) → length memory ≡ venue_size → venue_from (fresh_hosted memory).venue ≡ fresh_venue

-- One message ---------------------------------------------------------------------------------

pub record Hosted : Type 0 where
  pub number : ℕ
  pub venue : List ℕ
  pub report : List ℕ

abbrev pub hosted : (number : ℕ) (venue report : List ℕ) → Hosted
hosted n v l = record { number = n; venue = v; report = l }

-- a call upon the venue that the memory holds: with its message accepted the memory holds the venue after it, and else is as it was
unfoldable pub leaves : (memory : List ℕ) → Call → Hosted
leaves memory c =
    hosted c.returned.number (if eqb c.returned.number 0 then venue_bytes c.returned.venue else memory) c.report

-- a memory of another length holds no venue: 9, "venue unsound"
unfoldable pub one_hosted : (memory : List ℕ) (n room : ℕ) → List ℕ → Hosted
one_hosted memory n room bs =
    if eqb (length memory) venue_size then leaves memory (one (venue_from memory) n room bs) else hosted 9 memory (sheet room [])

-- so the next call is upon the venue that this one returned
abbrev pub HeldNext : Type 0
HeldNext = (memory : List ℕ) (n room : ℕ) (bs : List ℕ) → length memory ≡ venue_size →
    venue_from (one_hosted memory n room bs).venue ≡ (one (venue_from memory) n room bs).returned.venue

-- The settings --------------------------------------------------------------------------------

-- the number, and what the memory for the settings holds
pub record Told : Type 0 where
  pub number : ℕ
  pub memory : List ℕ

abbrev pub told : (number : ℕ) (memory : List ℕ) → Told
told n m = record { number = n; memory = m }

-- the eight increments, then the percent
unfoldable pub settings_bytes : Settings → List ℕ
settings_bytes s = s.increments ++ s.percent ∷ []

-- The settings at a message number of the venue that the memory holds: their nine bytes, then zeros. "asked of an unsound venue, the settings are told as 9
-- and zeros"; a memory of another length holds no venue, and one of fewer than nine bytes cannot hold the settings: 9 and zeros too.
unfoldable pub settings_hosted : (memory : List ℕ) (number room : ℕ) → Told
settings_hosted memory n room =
    if eqb (length memory) venue_size && leb 9 room
    then (let s = settings (venue_from memory) n in told s.number (settings_bytes s ++ replicate (room - 9) 0))
    else told 9 (replicate room 0)

-- A set written -------------------------------------------------------------------------------

-- the number, what the set's memory holds, and the four bytes that tell how many the set has
pub record Saves : Type 0 where
  pub number : ℕ
  pub set : List ℕ
  pub written : List ℕ

abbrev pub saves_as : (number : ℕ) (set written : List ℕ) → Saves
saves_as n m w = record { number = n; set = m; written = w }

-- The venue that the memory holds, written with a message number as a set. A memory of another length holds no venue, and one of other than four bytes
-- tells no count: 9, and zeros.
unfoldable pub save_hosted : (memory : List ℕ) (number room told : ℕ) → Saves
save_hosted memory n room told =
    if eqb (length memory) venue_size && eqb told 4
    then (let w = write_set n (venue_from memory) room in saves_as w.number w.memory (u32 w.written))
    else saves_as 9 (replicate room 0) (replicate told 0)

-- A set read ----------------------------------------------------------------------------------

-- the number, what the venue's memory holds, and the four bytes of the message number
pub record Resumes : Type 0 where
  pub number : ℕ
  pub venue : List ℕ
  pub message : List ℕ

abbrev pub resumes_as : (number : ℕ) (venue message : List ℕ) → Resumes
resumes_as n v m = record { number = n; venue = v; message = m }

-- The venue and the message number of a set. "Refused, reading returns a fresh venue and message number 0": so too where the message number's memory is of
-- other than four bytes, which is 9. A memory of another length can hold no venue: 9, and it is as it was.
unfoldable pub read_for : (room : ℕ) (set : List ℕ) → ReadSet
read_for room set = if eqb room 4 then read_set set else not_read 9

unfoldable pub resume_hosted : (set venue message : List ℕ) → Resumes
resume_hosted set venue message =
    let r = read_for (length message) set in
    if eqb (length venue) venue_size
    then resumes_as r.number (venue_bytes r.venue) (if eqb (length message) 4 then u32 r.message else replicate (length message) 0)
    else resumes_as 9 venue (replicate (length message) 0)

-- What a set was written from is held again when it is read, with its message number; so the next call upon it does what it would have done without.
pub record Again (memory : List ℕ) (number : ℕ) (r : Resumes) : Type 0 where
  pub read : r.number ≡ 0
  pub venue : venue_from r.venue ≡ venue_from memory
  pub message : r.message ≡ u32 number
  pub next : (n room : ℕ) (bs : List ℕ) → ((one_hosted r.venue n room bs).number ≡ (one_hosted memory n room bs).number)
      × (venue_from (one_hosted r.venue n room bs).venue ≡ venue_from (one_hosted memory n room bs).venue)
      × ((one_hosted r.venue n room bs).report ≡ (one_hosted memory n room bs).report)

abbrev pub HeldAgain : Type 0
HeldAgain = (memory venue message : List ℕ) (number room : ℕ) → FourBytes number → length memory ≡ venue_size → length venue ≡ venue_size → length message ≡ 4 →
    (save_hosted memory number room 4).number ≡ 0 → Again memory number (resume_hosted (save_hosted memory number room 4).set venue message)
