-- Document 01, "Words and ranges".
use Rattle.std.specs.Prelude.{Bool, ◌&&◌, List, ℕ, ◌+◌, ◌-◌, ◌*◌, leb, ltb, eqb, get_or, replicate, ℤ, pos, neg_ℤ, if◌then◌else◌}
use Rattle.std.specs.Int.Signed.{le_z}
use Rattle.rules.specs.declared.Regular.{Regular}
use Rattle.rules.specs.declared.Complex.{Complex}
use Rattle.rules.specs.declared.Legging.{Legging}
use Rattle.rules.specs.declared.Listed.{Listed}
use Rattle.rules.specs.declared.Edition.{Edition}
use Rattle.rules.specs.declared.Generations.{Generations}
use Rattle.rules.specs.declared.Venue.{Venue}
use Rattle.rules.specs.Base.{held}

-- Sides, signs, statuses ----------------------------------------------------------------------

-- "Side 0 buy, 1 sell"
abbrev pub buy : ℕ
buy = 0

abbrev pub sell : ℕ
sell = 1

-- the other side: the one that a leg or an order takes ("A buy leg takes offers, a sell leg bids")
unfoldable pub opposite : ℕ → ℕ
opposite d = 1 - d

-- "the sign of a buy leg is +1, of a sell leg -1": sign × z
unfoldable pub sign_times : (side : ℕ) → ℤ → ℤ
sign_times d z = if eqb d buy then z else neg_ℤ z

-- "Class 0 customer, 1 other"
abbrev pub customer : ℕ
customer = 0

abbrev pub other_class : ℕ
other_class = 1

-- "Status 0 closed, 1 open, 2 auction"
abbrev pub closed : ℕ
closed = 0

abbrev pub opened : ℕ
opened = 1

-- Ranges --------------------------------------------------------------------------------------

unfoldable pub within : (low high x : ℕ) → Bool
within low high x = leb low x && leb x high

-- "Ids are chosen by the sender, 1 to 4,294,967,295"
unfoldable pub is_id : ℕ → Bool
is_id = within 1 4294967295

-- "8 option series (0 to 7)"
unfoldable pub is_series : ℕ → Bool
is_series = within 0 7

unfoldable pub is_side : ℕ → Bool
is_side = within 0 1

unfoldable pub is_class : ℕ → Bool
is_class = within 0 1

unfoldable pub is_status : ℕ → Bool
is_status = within 0 2

-- "Quantity 1 to 10,000"
unfoldable pub is_quantity : ℕ → Bool
is_quantity = within 1 10000

-- "Away prices 0 to 100,000, 0 meaning none"
unfoldable pub is_away : ℕ → Bool
is_away = within 0 100000

-- "Prices are whole cents, 1 to 100,000"
unfoldable pub is_price : ℕ → Bool
is_price = within 1 100000

-- "a complex order's limit N, from -200,000 to 200,000", or as far as `far` on both sides of 0
unfoldable pub is_limit : (far : ℕ) → ℤ → Bool
is_limit far n = le_z (neg_ℤ (pos far)) n && le_z n (pos far)

-- request (g): "two ratio bytes …, each 1 to 3"
unfoldable pub is_ratio : ℕ → Bool
is_ratio = within 1 3

-- Places --------------------------------------------------------------------------------------

-- "A legging place is 2 × series + side: 16 places, one order each."
unfoldable pub place_of : (series side : ℕ) → ℕ
place_of s d = 2 * s + d

-- free places: all zero
abbrev pub no_regular : Regular
no_regular = record { id = 0; series = 0; side = 0; price = 0; quantity = 0; display = 0; reserve = 0 }

abbrev pub no_complex : Complex
no_complex = record {
  id = 0;
  series1 = 0;
  side1 = 0;
  series2 = 0;
  side2 = 0;
  class = 0;
  limit = pos 0;
  quantity = 0;
  ratio1 = 0;
  ratio2 = 0;
}

abbrev pub no_legging : Legging
no_legging = record { parent = 0; price = 0; quantity = 0 }

abbrev pub not_listed : Listed
not_listed = record { status = 0; bid = 0; offer = 0 }

-- a series as a fresh venue has it
abbrev pub newly_listed : Listed
newly_listed = record { status = opened; bid = 0; offer = 0 }

abbrev pub no_edition : Edition
no_edition = record { edition = 0; message = 0; figure = 0; value = 0 }

abbrev pub no_generations : Generations
no_generations = record { messages = replicate 20 0 }

-- "Fresh: no orders, all series closed, no away prices, last id 0."; request (l): "A fresh venue now has every series open."
-- "At most 128 regular and 32 complex orders rest"; 02 (d): "The venue keeps up to 32 editions"; 02 (m): none generated, and no id looked
-- at
unfoldable pub fresh_venue : Venue
fresh_venue = record {
  regular = replicate 128 no_regular;
  complex = replicate 32 no_complex;
  legging = replicate 16 no_legging;
  series = replicate 8 newly_listed;
  editions = replicate 32 no_edition;
  generations = replicate 8 no_generations;
  last = 0;
  reached = 0;
}

-- what stands at a place; past the end, nothing
unfoldable pub regular_at : Venue → ℕ → Regular
regular_at v i = get_or v.regular i no_regular

unfoldable pub complex_at : Venue → ℕ → Complex
complex_at v i = get_or v.complex i no_complex

unfoldable pub legging_at : Venue → (series side : ℕ) → Legging
legging_at v s d = get_or v.legging (place_of s d) no_legging

abbrev pub listed_at : Venue → (series : ℕ) → Listed
listed_at v s = get_or v.series s not_listed

unfoldable pub status_of : Venue → (series : ℕ) → ℕ
status_of v s = (listed_at v s).status

-- the venue of these parts
abbrev pub venue_with : (regular : List Regular) → (complex : List Complex) → (legging : List Legging) → (series : List Listed) →
    (editions : List Edition) → (generations : List Generations) → (last reached : ℕ) → Venue
venue_with regular complex legging series editions generations last reached = record {
  regular = regular;
  complex = complex;
  legging = legging;
  series = series;
  editions = editions;
  generations = generations;
  last = last;
  reached = reached;
}

-- the venue v with one part replaced by x
unfoldable pub with_regular : Venue → List Regular → Venue
with_regular v x = venue_with x v.complex v.legging v.series v.editions v.generations v.last v.reached

unfoldable pub with_complex : Venue → List Complex → Venue
with_complex v x = venue_with v.regular x v.legging v.series v.editions v.generations v.last v.reached

unfoldable pub with_legging : Venue → List Legging → Venue
with_legging v x = venue_with v.regular v.complex x v.series v.editions v.generations v.last v.reached

unfoldable pub with_series : Venue → List Listed → Venue
with_series v x = venue_with v.regular v.complex v.legging x v.editions v.generations v.last v.reached

unfoldable pub with_editions : Venue → List Edition → Venue
with_editions v x = venue_with v.regular v.complex v.legging v.series x v.generations v.last v.reached

unfoldable pub with_generations : Venue → List Generations → Venue
with_generations v x = venue_with v.regular v.complex v.legging v.series v.editions x v.last v.reached

unfoldable pub with_last : Venue → ℕ → Venue
with_last v x = venue_with v.regular v.complex v.legging v.series v.editions v.generations x v.reached

unfoldable pub with_reached : Venue → ℕ → Venue
with_reached v x = venue_with v.regular v.complex v.legging v.series v.editions v.generations v.last x

-- Resting orders ------------------------------------------------------------------------------

-- a resting order of this id
unfoldable pub is_regular_of : (id : ℕ) → Regular → Bool
is_regular_of id o = held o.quantity && eqb o.id id

unfoldable pub is_complex_of : (id : ℕ) → Complex → Bool
is_complex_of id c = held c.quantity && eqb c.id id

-- a complex order of kind 2: "one-to-one ratio"; every other one is of kind 10 (request (g))
unfoldable pub one_to_one : Complex → Bool
one_to_one c = eqb c.ratio1 1 && eqb c.ratio2 1

-- "a lower id is earlier"
unfoldable pub earlier : Regular → Regular → Bool
earlier a b = ltb a.id b.id

unfoldable pub earlier_complex : Complex → Complex → Bool
earlier_complex a b = ltb a.id b.id
