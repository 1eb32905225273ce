-- Bytes of zeros stand for a venue with every series closed, and eight messages make that venue from a fresh one. Both by computation.
use mathlib.Core.Path.{refl}
use Rattle.rules.specs.Opened.{opened-rules}
use Rattle.places.specs.Layout.{upto}
use Rattle.venue_bytes.specs.Held.{rows, row_at, rows_at, venue_from, regular_from, complex_from, legging_from, listed_from, edition_from, generations_from, zeros_venue, ZerosHeld, closings, ClosedFirst}

pub zeros-held : ZerosHeld
unfolding opened-rules venue_from row_at rows_at upto regular_from complex_from legging_from listed_from edition_from generations_from zeros_venue
zeros-held = (refl, refl)

pub closed-first : ClosedFirst
unfolding opened-rules rows upto closings zeros_venue
closed-first = refl
