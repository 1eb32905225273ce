-- The parts of a set as they are written from the numbers of a venue.
use Rattle.std.specs.Prelude.{Bool, true, false, List, [], ℕ, ◌+◌, ◌-◌, ◌*◌, leb, ltb, if◌then◌else◌}
use Rattle.rules.specs.Base.{held}
use Rattle.places.specs.Layout.{upto, regular_in, complex_in, legging_in}
use Rattle.sets.specs.Set.{by_id, legging_record}

-- a record, where there is one
unfoldable pub record_if : Bool → List ℕ → List ℕ
record_if t r = if t then r else []

-- the orders of n regular and m complex places, from place i and place j on
unfoldable pub orders_from : List ℕ → (n m i j : ℕ) → List (List ℕ)
orders_from b n m i j = by_id (n - i + (m - j)) (upto (regular_in b) i (n - i)) (upto (complex_in b) j (m - j))

-- the regular order at place i is the next one: it is there, and none of the complex orders from place j on has a lesser id
unfoldable pub regular_next : List ℕ → (n m i j : ℕ) → Bool
regular_next b n m i j = if leb n i then false else if leb m j then true else ltb (regular_in b i).id (complex_in b j).id

-- the record of the legging order at a side's place of a series, where it holds one
unfoldable pub side_record : List ℕ → (series side : ℕ) → List ℕ
side_record b s d = record_if (held (legging_in b (2 * s + d)).quantity) (legging_record s d (legging_in b (2 * s + d)))
