-- Document 02 (h), "Carry a day over an upgrade": "A call writes a venue and its message number as length-first records into lent memory, and another
-- reads them back". With what (m) adds to the set: generations, and the id reached. A record is its bytes.
use Rattle.std.specs.Prelude.{Bool, true, false, not, ◌&&◌, ◌||◌, List, [], ◌∷◌, ◌++◌, map, ℕ, zero, suc, ◌+◌, ◌-◌, ◌*◌, leb, ltb, eqb, length, get_or, take, drop, replicate, if◌then◌else◌}
use Rattle.rules.specs.declared.Regular.{Regular}
use Rattle.rules.specs.declared.Complex.{Complex}
use Rattle.rules.specs.declared.Legging.{Legging}
use Rattle.rules.specs.declared.Listed.{Listed}
use Rattle.rules.specs.declared.Edition.{Edition}
use Rattle.rules.specs.declared.Generations.{Generations}
use Rattle.rules.specs.declared.Venue.{Venue}
use Rattle.rules.specs.declared.Message.TheVariants.{TwoLeg, Away, Status}
use Rattle.rules.specs.Base.{held, all, keep}
use Rattle.rules.specs.Words.{is_series, is_side, one_to_one, no_regular, no_complex, no_legging, no_edition, place_of, fresh_venue}
use Rattle.rules.specs.Settings.{percentage}
use Rattle.rules.specs.Bytes.{u8_at, u32_at, length_field, kind_field, u8, u32, framed}
use Rattle.rules.specs.Messages.{order_at, two_leg_at, order_fields, encode_message}
use Rattle.rules.specs.Refusals.{torn}
use Rattle.rules.specs.Places.{holds_regular, holds_complex, holds_edition}
use Rattle.rules.specs.Sound.{sound, follows}

-- The set of a venue --------------------------------------------------------------------------

-- "kind 80 with message number u32 and last id u32"
unfoldable pub first_record : (number last : ℕ) → List ℕ
first_record n last = framed 80 (u32 n ++ u32 last)

-- "kinds 5 and 4 for each series in turn", from series s on
unfoldable pub series_records : (s : ℕ) → List Listed → List (List ℕ)
series_records s [] = []
series_records s (x ∷ xs) = encode_message (Status s x.status) ∷ encode_message (Away s x.bid x.offer) ∷ series_records (suc s) xs

-- "editions by rising edition, as kind 7 or 8 with the message number u32 after"; a figure that is not the percentage is the increment of that series
unfoldable pub edition_record : Edition → List ℕ
edition_record e =
    if eqb e.figure percentage
    then framed 8 (u8 e.value ++ u32 e.edition ++ u32 e.message)
    else framed 7 (u8 e.figure ++ u8 e.value ++ u32 e.edition ++ u32 e.message)

-- "resting orders by rising id, as kind 9, 2 or 10 with what is left and, in 9, what shows"
unfoldable pub regular_record : Regular → List ℕ
regular_record o = framed 9 (order_fields o ++ u32 o.display)

unfoldable pub complex_record : Complex → List ℕ
complex_record c = encode_message (TwoLeg c)

-- the orders of both books in one row; each book is in rising id. The fuel is the number of both
unfoldable pub by_id : (fuel : ℕ) → List Regular → List Complex → List (List ℕ)
by_id zero os cs = []
by_id (suc fuel) [] cs = map complex_record cs
by_id (suc fuel) (o ∷ os) [] = map regular_record (o ∷ os)
by_id (suc fuel) (o ∷ os) (c ∷ cs) =
    if ltb o.id c.id then regular_record o ∷ by_id fuel os (c ∷ cs) else complex_record c ∷ by_id fuel (o ∷ os) cs

-- "kind 82 with id u32, series u8, side u8, price u32, quantity u32"
unfoldable pub legging_record : (series side : ℕ) → Legging → List ℕ
legging_record s d l = framed 82 (u32 l.parent ++ u8 s ++ u8 d ++ u32 l.price ++ u32 l.quantity)

-- "legging orders by rising place", from series s on, whose two places are its sides'
unfoldable pub legging_records : (s : ℕ) → List Legging → List (List ℕ)
legging_records s [] = []
legging_records s (l ∷ []) = []
legging_records s (l ∷ k ∷ ls) =
    (if held l.quantity then legging_record s 0 l ∷ [] else []) ++ (if held k.quantity then legging_record s 1 k ∷ [] else []) ++ legging_records (suc s) ls

-- (m): "kind 83 with series u8 and message number u32"
unfoldable pub generation_record : (series number : ℕ) → List ℕ
generation_record s n = framed 83 (u8 s ++ u32 n)

-- "each series' last 20 generations, by series, oldest first", from series s on
unfoldable pub generation_records : (s : ℕ) → List Generations → List (List ℕ)
generation_records s [] = []
generation_records s (g ∷ gs) = map (generation_record s) (keep held g.messages) ++ generation_records (suc s) gs

-- "then the id reached, if any, as kind 84 with u32"
unfoldable pub reached_records : (id : ℕ) → List (List ℕ)
reached_records id = if held id then framed 84 (u32 id) ∷ [] else []

unfoldable pub set_of : (number : ℕ) → Venue → List (List ℕ)
set_of number v =
    let os = keep holds_regular v.regular in
    let cs = keep holds_complex v.complex in
    first_record number v.last
    ∷ series_records 0 v.series
    ++ map edition_record (keep holds_edition v.editions)
    ++ by_id (length os + length cs) os cs
    ++ legging_records 0 v.legging
    ++ generation_records 0 v.generations
    ++ reached_records v.reached

-- the bytes of a row of records
unfoldable pub joined : List (List ℕ) → List ℕ
joined [] = []
joined (r ∷ rs) = r ++ joined rs

-- 16: "a record torn … or of a kind or length not the set's" ------------------------------------------

-- the length of each kind of record; 0 for what is none
unfoldable pub set_length : (kind : ℕ) → ℕ
set_length k =
    if eqb k 1 then 18
    else if eqb k 2 then 21
    else if eqb k 4 then 13
    else if eqb k 5 then 6
    else if eqb k 7 then 14
    else if eqb k 8 then 13
    else if eqb k 9 then 22
    else if eqb k 10 then 23
    else if eqb k 80 then 12
    else if eqb k 81 then 12
    else if eqb k 82 then 18
    else if eqb k 83 then 9
    else if eqb k 84 then 8
    else 0

-- what a memory holds: a row of records, or one that is torn or of a kind or length not the set's
pub data Held : Type 0 where
  broken : Held
  row : List (List ℕ) → Held

unfoldable pub behind : (front : List ℕ) → Held → Held
behind r broken = broken
behind r (row rs) = row (r ∷ rs)

-- "a zero length or one last zero byte ends it for the reader", as the memory's end does: a byte past it reads as 0. The fuel is the memory's length
unfoldable pub held_from : (fuel : ℕ) → List ℕ → Held
held_from zero bs = row []
held_from (suc fuel) bs = elim (eqb (length_field bs) 0) [
  | true ↦ row []
  | false ↦ elim (torn bs || not (eqb (length_field bs) (set_length (kind_field bs)))) [
    | true ↦ broken
    | false ↦ behind (take (length_field bs) bs) (held_from fuel (drop (length_field bs) bs))
  ]
]

unfoldable pub held_in : (memory : List ℕ) → Held
held_in memory = held_from (length memory) memory

-- 16: "missing, out of order, one too many or of a kind … not the set's" ------------------------------

-- kinds 1 and 9, and kinds 2 and 10
unfoldable pub tells_regular : List ℕ → Bool
tells_regular r = eqb (kind_field r) 1 || eqb (kind_field r) 9

unfoldable pub tells_complex : List ℕ → Bool
tells_complex r = eqb (kind_field r) 2 || eqb (kind_field r) 10

unfoldable pub tells_edition : List ℕ → Bool
tells_edition r = eqb (kind_field r) 7 || eqb (kind_field r) 8

unfoldable pub tells_legging : List ℕ → Bool
tells_legging r = eqb (kind_field r) 82

unfoldable pub tells_generation : List ℕ → Bool
tells_generation r = eqb (kind_field r) 83

-- the part of a set that a record is of, after its first one and the series': editions, resting orders, legging orders, generations, the id reached
unfoldable pub part : List ℕ → ℕ
part r =
    if tells_edition r then 1
    else if tells_regular r || tells_complex r then 2
    else if tells_legging r then 3
    else if tells_generation r then 4
    else if eqb (kind_field r) 84 then 5
    else 0

-- by what the records of a part rise: edition, id, place; of generations the series
unfoldable pub sort_key : List ℕ → ℕ
sort_key r =
    if eqb (kind_field r) 7 then u32_at r 6
    else if eqb (kind_field r) 8 then u32_at r 5
    else if eqb (part r) 2 then u32_at r 4
    else if eqb (part r) 3 then place_of (u8_at r 8) (u8_at r 9)
    else if eqb (part r) 4 then u8_at r 4
    else 0

-- the message number that a generation's record tells
unfoldable pub generation_told : List ℕ → ℕ
generation_told r = u32_at r 5

-- one record may stand after another: of a later part, or risen within its part; generations of one series do not fall
unfoldable pub may_follow : (before after : List ℕ) → Bool
may_follow q r =
    ltb (part q) (part r)
    || (eqb (part q) (part r) && (ltb (sort_key q) (sort_key r) || (eqb (part q) 4 && eqb (sort_key q) (sort_key r) && leb (generation_told q) (generation_told r))))

unfoldable pub in_order : List (List ℕ) → Bool
in_order [] = true
in_order (q ∷ []) = true
in_order (q ∷ r ∷ rs) = may_follow q r && in_order (r ∷ rs)

unfoldable pub count_of : (List ℕ → Bool) → List (List ℕ) → ℕ
count_of f rs = length (keep f rs)

-- a record is a generation of a series
unfoldable pub of_series : (series : ℕ) → List ℕ → Bool
of_series s r = tells_generation r && eqb (u8_at r 4) s

-- "one too many": a 33rd edition, 129th regular order, 33rd complex order, 17th legging order, 21st generation of a series
unfoldable pub few_enough : List (List ℕ) → Bool
few_enough rs =
    leb (count_of tells_edition rs) 32
    && leb (count_of tells_regular rs) 128
    && leb (count_of tells_complex rs) 32
    && leb (count_of tells_legging rs) 16
    && all (λ r. not (tells_generation r) || leb (count_of (of_series (u8_at r 4)) rs) 20) rs

-- "The reader also takes a short set, …, with 1 for 9 and no editions"; (m): "To its set, but no short one, (h) adds" kinds 83 and 84
unfoldable pub of_whole : List ℕ → Bool
of_whole r = not (eqb (part r) 0) && not (eqb (kind_field r) 1)

unfoldable pub of_short : List ℕ → Bool
of_short r = (eqb (part r) 2 && not (eqb (kind_field r) 9)) || eqb (part r) 3

-- "kinds 5 and 4 for each series in turn", `count` of them from series s on, and then the others, each of a kind that this set has
unfoldable pub series_then : (count s : ℕ) → (List ℕ → Bool) → List (List ℕ) → Bool
series_then zero s of rs = all of rs && in_order rs && few_enough rs
series_then (suc count) s of [] = false
series_then (suc count) s of (q ∷ []) = false
series_then (suc count) s of (q ∷ r ∷ rs) =
    eqb (kind_field q) 5 && eqb (u8_at q 4) s && eqb (kind_field r) 4 && eqb (u8_at r 4) s && series_then count (suc s) of rs

-- "a short set, begun by 81 for 80"
unfoldable pub is_set : List (List ℕ) → Bool
is_set [] = false
is_set (r ∷ rs) =
    if eqb (kind_field r) 80 then series_then 8 0 of_whole rs
    else if eqb (kind_field r) 81 then series_then 8 0 of_short rs
    else false

-- The venue of a set --------------------------------------------------------------------------

-- so many places: what is given, and then free ones
unfoldable pub places : {A : Type 0} → (count : ℕ) → A → List A → List A
places count none xs = xs ++ replicate (count - length xs) none

-- the order that a record tells; one of kind 1 shows all of it: "all size shown"
unfoldable pub regular_told : List ℕ → Regular
regular_told r = order_at (if eqb (kind_field r) 9 then u32_at r 18 else u32_at r 14) r

unfoldable pub complex_told : List ℕ → Complex
complex_told r = if eqb (kind_field r) 10 then two_leg_at r (u8_at r 21) (u8_at r 22) else two_leg_at r 1 1

unfoldable pub edition_told : List ℕ → Edition
edition_told r =
    if eqb (kind_field r) 8
    then record { edition = u32_at r 5; message = u32_at r 9; figure = percentage; value = u8_at r 4 }
    else record { edition = u32_at r 6; message = u32_at r 10; figure = u8_at r 4; value = u8_at r 5 }

-- the two records of a series, after the set's first one
unfoldable pub listed_told : List (List ℕ) → (series : ℕ) → Listed
listed_told rs s =
    let status = get_or rs (2 * s + 1) [] in
    let away = get_or rs (2 * s + 2) [] in
    record { status = u8_at status 5; bid = u32_at away 5; offer = u32_at away 9 }

-- the legging order at a place; none if no record tells one
unfoldable pub legging_told : List (List ℕ) → (place : ℕ) → Legging
legging_told [] n = no_legging
legging_told (r ∷ rs) n =
    if tells_legging r && eqb (sort_key r) n
    then record { parent = u32_at r 4; price = u32_at r 10; quantity = u32_at r 14 }
    else legging_told rs n

-- 20 numbers, those told last: 0 where there were fewer
unfoldable pub generations_told : List (List ℕ) → (series : ℕ) → Generations
generations_told rs s =
    let numbers = map generation_told (keep (of_series s) rs) in
    record { messages = replicate (20 - length numbers) 0 ++ numbers }

-- the id reached; 0 if no record tells one
unfoldable pub reached_told : List (List ℕ) → ℕ
reached_told [] = 0
reached_told (r ∷ rs) = if eqb (kind_field r) 84 then u32_at r 4 else reached_told rs

-- what the first record tells
unfoldable pub number_told : List (List ℕ) → ℕ
number_told rs = u32_at (get_or rs 0 []) 4

unfoldable pub last_told : List (List ℕ) → ℕ
last_told rs = u32_at (get_or rs 0 []) 8

-- f of `count` numbers from n on
unfoldable pub upward : {A : Type 0} → (ℕ → A) → (n count : ℕ) → List A
upward f n zero = []
upward f n (suc count) = f n ∷ upward f (suc n) count

-- "A set without them means none generated and no id looked at"; a short one "means edition 0"
unfoldable pub venue_told : List (List ℕ) → Venue
venue_told rs = record {
  regular = places 128 no_regular (map regular_told (keep tells_regular rs));
  complex = places 32 no_complex (map complex_told (keep tells_complex rs));
  legging = upward (legging_told rs) 0 16;
  series = upward (listed_told rs) 0 8;
  editions = places 32 no_edition (map edition_told (keep tells_edition rs));
  generations = upward (generations_told rs) 0 8;
  last = last_told rs;
  reached = reached_told rs;
}

-- 9: a record's fields that no venue has a place for: a series or side out of range, equal ratios, which are kind 2's, and 0 where it would tell nothing
unfoldable pub has_place : List ℕ → Bool
has_place r =
    if eqb (kind_field r) 7 then is_series (u8_at r 4) && held (u32_at r 6)
    else if eqb (kind_field r) 8 then held (u32_at r 5)
    else if tells_regular r then held (u32_at r 14)
    else if tells_complex r then held (u32_at r 17) && not (eqb (kind_field r) 10 && one_to_one (complex_told r))
    else if tells_legging r then is_series (u8_at r 8) && is_side (u8_at r 9) && held (u32_at r 14)
    else if tells_generation r then is_series (u8_at r 4) && held (u32_at r 5)
    else not (eqb (kind_field r) 84) || held (u32_at r 4)

-- The calls -----------------------------------------------------------------------------------

-- "What is read or written must be sound, no message number in it above its own, else 9."
unfoldable pub carries : (number : ℕ) → Venue → Bool
carries number v = sound v && follows (suc number) v

-- what a writing call returns and leaves: its number, how many bytes the set has, and the lent memory
pub record WrittenSet : Type 0 where
  pub number : ℕ
  pub written : ℕ
  pub memory : List ℕ

-- "Refused, … writing leaves the memory all zero and returns 0 bytes"
unfoldable pub not_written : (number room : ℕ) → WrittenSet
not_written n room = record { number = n; written = 0; memory = replicate room 0 }

-- "Zeros follow the set". "9 before 15": "15, lent memory shorter than the record set"
unfoldable pub write_set : (number : ℕ) → Venue → (room : ℕ) → WrittenSet
write_set number v room =
    let bytes = joined (set_of number v) in
    if not (carries number v) then not_written 9 room
    else if ltb room (length bytes) then not_written 15 room
    else record { number = 0; written = length bytes; memory = bytes ++ replicate (room - length bytes) 0 }

-- what a reading call returns: its number, the venue, and its message number
pub record ReadSet : Type 0 where
  pub number : ℕ
  pub venue : Venue
  pub message : ℕ

-- "Refused, reading returns a fresh venue and message number 0"
unfoldable pub not_read : (number : ℕ) → ReadSet
not_read n = record { number = n; venue = fresh_venue; message = 0 }

-- "16 comes before 9"
unfoldable pub read_row : List (List ℕ) → ReadSet
read_row rs =
    if not (is_set rs) then not_read 16
    else if not (all has_place rs && carries (number_told rs) (venue_told rs)) then not_read 9
    else record { number = 0; venue = venue_told rs; message = number_told rs }

unfoldable pub read_set : (memory : List ℕ) → ReadSet
read_set memory = elim (held_in memory) [ broken ↦ not_read 16 | row rs ↦ read_row rs ]
