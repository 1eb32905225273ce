-- The layer in lent memory: four lanes one after another, and then the venue served last u8. Each number is as in a message, little-endian.
--
--   of a lane, from
--           0   the venue, as a host holds one (crate venue_bytes)
--   venue_size   its messages done u32
--         + 4   how many wait u8
--         + 5   eight places of 33 bytes: a length u8 and 32 bytes; those in use come first, the head in front
--
-- What stands in a place after its message, and in a free place, is not read; each place that a call writes ends in zeros.
use Rattle.std.specs.Prelude.{List, ◌++◌, ℕ, ◌+◌, ◌-◌, ◌*◌, eqb, length, set, take, drop, replicate, if◌then◌else◌}
use Rattle.rules.specs.declared.Venue.{Venue}
use Rattle.rules.specs.Bytes.{u8_at, u32_at, u8, u32}
use Rattle.rules.specs.Calls.{Call, one}
use Rattle.records.specs.Seen.{pasted}
use Rattle.places.specs.Layout.{upto}
use Rattle.venue_bytes.specs.Held.{venue_size, venue_bytes, venue_from, rows}
use Rattle.layer.specs.Layer.{Lane, Layer}

abbrev pub done_at : ℕ
done_at = venue_size

abbrev pub count_at : ℕ
count_at = venue_size + 4

abbrev pub places_at : ℕ
places_at = venue_size + 5

abbrev pub place_size : ℕ
place_size = 33

abbrev pub lane_size : ℕ
lane_size = places_at + 8 * place_size

abbrev pub last_at : ℕ
last_at = 4 * lane_size

abbrev pub layer_size : ℕ
layer_size = last_at + 1

-- Reading -------------------------------------------------------------------------------------

-- the message at the front of bs, after its length; bytes that are not there are 0
unfoldable pub message_from : List ℕ → List ℕ
message_from bs = upto (λ (i : ℕ). u8_at bs (i + 1)) 0 (u8_at bs 0)

-- the message at place i of a lane's wait
unfoldable pub place_from : List ℕ → ℕ → List ℕ
place_from bs i = message_from (drop (place_size * i + places_at) bs)

unfoldable pub lane_from : List ℕ → Lane
lane_from bs = record { venue = venue_from (take venue_size bs); done = u32_at bs done_at; wait = upto (place_from bs) 0 (u8_at bs count_at) }

-- the bytes of lane v
unfoldable pub lane_part : List ℕ → (venue : ℕ) → List ℕ
lane_part m v = take lane_size (drop (lane_size * v) m)

unfoldable pub lane_of : List ℕ → (venue : ℕ) → Lane
lane_of m v = lane_from (lane_part m v)

unfoldable pub layer_from : List ℕ → Layer
layer_from m = record { lanes = upto (lane_of m) 0 4; last = u8_at m last_at }

-- Writing -------------------------------------------------------------------------------------

unfoldable pub place_bytes : (message : List ℕ) → List ℕ
place_bytes m = u8 (length m) ++ m ++ replicate (32 - length m) 0

unfoldable pub lane_bytes : Lane → List ℕ
lane_bytes c =
    venue_bytes c.venue ++ u32 c.done ++ u8 (length c.wait) ++ rows place_bytes c.wait ++ replicate (place_size * (8 - length c.wait)) 0

unfoldable pub layer_bytes : Layer → List ℕ
layer_bytes l = rows lane_bytes l.lanes ++ u8 l.last

-- What a call writes --------------------------------------------------------------------------

-- lane v anew
unfoldable pub with_part : List ℕ → (venue : ℕ) → List ℕ → List ℕ
with_part m v bs = pasted m (lane_size * v) bs

-- a lane with a message more: in the first free place, and counted
unfoldable pub joined_bytes : (lane message : List ℕ) → List ℕ
joined_bytes bs m = set (pasted bs (place_size * u8_at bs count_at + places_at) (place_bytes m)) count_at (u8_at bs count_at + 1)

-- the one-message call with the message at the head of a lane's wait
unfoldable pub head_called : (lane : List ℕ) (room : ℕ) → Call
head_called bs room = one (venue_from (take venue_size bs)) (u32_at bs done_at) room (place_from bs 0)

-- the venue's bytes after a call that ended with this number and venue: anew where the message was accepted
unfoldable pub venue_part : (lane : List ℕ) (number : ℕ) (venue : Venue) → List ℕ
venue_part bs number v = if eqb number 0 then venue_bytes v else take venue_size bs

-- a lane whose head that call has done: one message more done, one fewer waiting, each place one place down, and the last one free
unfoldable pub advanced_bytes : (lane : List ℕ) (number : ℕ) (venue : Venue) → List ℕ
advanced_bytes bs number v =
    venue_part bs number v ++ u32 (u32_at bs done_at + 1) ++ u8 (u8_at bs count_at - 1) ++ drop (places_at + place_size) bs ++ replicate place_size 0
