-- A venue as bytes, which a host holds between calls: 4,656 of them, each number as in a message, little-endian. What a request adds to a venue
-- stands after what there was before, so that what (e) adds to a regular order, (g) to a complex order and (m) to a series are rows of their own.
--
--   from   a row                                                                                      bytes   rows
--      0   id u32, series u8, side u8, price u32, quantity u32                                           14   128 regular
--   1792   id u32, series1 u8, side1 u8, series2 u8, side2 u8, class u8, limit i32, quantity u32         17   32 complex
--   2336   parent u32, price u32, quantity u32                                                           12   16 legging
--   2528   status u8, bid u32, offer u32                                                                  9   8 series
--   2600   last id u32                                                                                    4
--   2604   edition u32, message number u32, figure u8, value u8                                          10   32 editions
--   2924   reserve u32, display u32                                                                       8   128 regular
--   3948   ratio1 u8, ratio2 u8                                                                           2   32 complex
--   4012   message numbers u32 of the last 20 generations, oldest first                                  80   8 series
--   4652   last id that a limited sweep looked at u32                                                     4
--
-- An edition's figure is 0 to 7, the increment of that series, or 8, the percent.
use Rattle.std.specs.Prelude.{◌≡◌, true, List, [], ◌∷◌, ◌++◌, ℕ, ◌+◌, ◌*◌, length, get_or, drop, replicate}
use Rattle.rules.specs.declared.Regular.{Regular}
use Rattle.rules.specs.declared.Complex.{Complex}
use Rattle.rules.specs.declared.Legging.{Legging}
use Rattle.rules.specs.declared.Listed.{Listed}
use Rattle.rules.specs.declared.Edition.{Edition}
use Rattle.rules.specs.declared.Generations.{Generations}
use Rattle.rules.specs.declared.Venue.{Venue}
use Rattle.rules.specs.declared.Message.TheVariants.{Status}
use Rattle.rules.specs.Words.{no_regular, no_complex, no_legging, not_listed, no_edition, no_generations, closed, fresh_venue, with_series}
use Rattle.rules.specs.Bytes.{u8_at, u32_at, as_signed, u8, u32, i32}
use Rattle.rules.specs.Messages.{encode_message}
use Rattle.rules.specs.Records.{FourBytes}
use Rattle.rules.specs.Sound.{sound}
use Rattle.rules.specs.Calls.{run}
use Rattle.places.specs.Layout.{upto}
use Rattle.sets.specs.Promises.{AllBytes}
use Rattle.rules.specs.Fields.{RegularFits, ComplexFits, LeggingFits, ListedFits, EditionFits, GenerationsFits}

-- where the editions begin
abbrev pub editions_at : ℕ
editions_at = 2604

-- where the regular orders' reserves begin
abbrev pub reserves_at : ℕ
reserves_at = 2924

-- where the complex orders' ratios begin
abbrev pub ratios_at : ℕ
ratios_at = 3948

-- where the series' generations begin
abbrev pub generations_at : ℕ
generations_at = 4012

-- where the last id that a limited sweep looked at stands
abbrev pub reached_at : ℕ
reached_at = 4652

abbrev pub venue_size : ℕ
venue_size = 4656

-- Writing -------------------------------------------------------------------------------------

-- a row's bytes
unfoldable pub regular_bytes : Regular → List ℕ
regular_bytes o = u32 o.id ++ u8 o.series ++ u8 o.side ++ u32 o.price ++ u32 o.quantity

-- what (e) adds to it: what of its quantity it does not show, and what it shows again, "the lesser of its shown quantity and what is left of it"
unfoldable pub reserve_bytes : Regular → List ℕ
reserve_bytes o = u32 o.reserve ++ u32 o.display

unfoldable pub complex_bytes : Complex → List ℕ
complex_bytes c =
    u32 c.id ++ u8 c.series1 ++ u8 c.side1 ++ u8 c.series2 ++ u8 c.side2 ++ u8 c.class ++ i32 c.limit ++ u32 c.quantity

-- what (g) adds to it: how many contracts of each leg are in a unit
unfoldable pub ratio_bytes : Complex → List ℕ
ratio_bytes c = u8 c.ratio1 ++ u8 c.ratio2

unfoldable pub legging_bytes : Legging → List ℕ
legging_bytes l = u32 l.parent ++ u32 l.price ++ u32 l.quantity

unfoldable pub listed_bytes : Listed → List ℕ
listed_bytes x = u8 x.status ++ u32 x.bid ++ u32 x.offer

unfoldable pub edition_bytes : Edition → List ℕ
edition_bytes e = u32 e.edition ++ u32 e.message ++ u8 e.figure ++ u8 e.value

-- a table's: row after row
unfoldable pub rows : {A : Type 0} → (A → List ℕ) → List A → List ℕ
rows row [] = []
rows row (x ∷ xs) = row x ++ rows row xs

-- what (m) adds to a series: the numbers of 20 messages
abbrev pub messages_of : Generations → List ℕ
messages_of g = upto (λ k. get_or g.messages k 0) 0 20

unfoldable pub generations_bytes : Generations → List ℕ
generations_bytes g = rows u32 (messages_of g)

unfoldable pub venue_bytes : Venue → List ℕ
venue_bytes v =
    rows regular_bytes v.regular ++ rows complex_bytes v.complex ++ rows legging_bytes v.legging ++ rows listed_bytes v.series ++ u32 v.last
    ++ rows edition_bytes v.editions ++ rows reserve_bytes v.regular ++ rows ratio_bytes v.complex ++ rows generations_bytes v.generations
    ++ u32 v.reached

-- Reading -------------------------------------------------------------------------------------

-- the row at the front of bs; an order's two rows, at the front of bs and of rs
unfoldable pub regular_from : (bs rs : List ℕ) → Regular
regular_from bs rs = record {
  id = u32_at bs 0;
  series = u8_at bs 4;
  side = u8_at bs 5;
  price = u32_at bs 6;
  quantity = u32_at bs 10;
  display = u32_at rs 4;
  reserve = u32_at rs 0;
}

unfoldable pub complex_from : (bs rs : List ℕ) → Complex
complex_from bs rs = record {
  id = u32_at bs 0;
  series1 = u8_at bs 4;
  side1 = u8_at bs 5;
  series2 = u8_at bs 6;
  side2 = u8_at bs 7;
  class = u8_at bs 8;
  limit = as_signed (u32_at bs 9);
  quantity = u32_at bs 13;
  ratio1 = u8_at rs 0;
  ratio2 = u8_at rs 1;
}

unfoldable pub legging_from : List ℕ → Legging
legging_from bs = record { parent = u32_at bs 0; price = u32_at bs 4; quantity = u32_at bs 8 }

unfoldable pub listed_from : List ℕ → Listed
listed_from bs = record { status = u8_at bs 0; bid = u32_at bs 1; offer = u32_at bs 5 }

unfoldable pub edition_from : List ℕ → Edition
edition_from bs = record { edition = u32_at bs 0; message = u32_at bs 4; figure = u8_at bs 8; value = u8_at bs 9 }

unfoldable pub generations_from : List ℕ → Generations
generations_from bs = record { messages = upto (λ k. u32_at bs (4 * k)) 0 20 }

-- row i of a table whose rows are `width` bytes each, from a position on
unfoldable pub row_at : {A : Type 0} → (List ℕ → A) → (from width : ℕ) → List ℕ → (i : ℕ) → A
row_at row from width bs i = row (drop (width * i + from) bs)

-- order i, from its row in either table
unfoldable pub rows_at : {A : Type 0} → (List ℕ → List ℕ → A) → (from width later short : ℕ) → List ℕ → (i : ℕ) → A
rows_at read from width later short bs i = row_at (row_at read from width bs i) later short bs i

unfoldable pub venue_from : List ℕ → Venue
venue_from bs = record {
  regular = upto (rows_at regular_from 0 14 reserves_at 8 bs) 0 128;
  complex = upto (rows_at complex_from 1792 17 ratios_at 2 bs) 0 32;
  legging = upto (row_at legging_from 2336 12 bs) 0 16;
  series = upto (row_at listed_from 2528 9 bs) 0 8;
  editions = upto (row_at edition_from editions_at 10 bs) 0 32;
  generations = upto (row_at generations_from generations_at 80 bs) 0 8;
  last = u32_at bs 2600;
  reached = u32_at bs reached_at;
}

-- What is held is read back -------------------------------------------------------------------

-- each array has its length
pub record Sized (v : Venue) : Type 0 where
  pub regular : length v.regular ≡ 128
  pub complex : length v.complex ≡ 32
  pub legging : length v.legging ≡ 16
  pub series : length v.series ≡ 8
  pub editions : length v.editions ≡ 32
  pub generations : length v.generations ≡ 8

-- a venue of the declared type
pub record Declared (v : Venue) : Type 0 where
  pub sized : Sized v
  pub regular : (i : ℕ) → RegularFits (get_or v.regular i no_regular)
  pub complex : (i : ℕ) → ComplexFits (get_or v.complex i no_complex)
  pub legging : (i : ℕ) → LeggingFits (get_or v.legging i no_legging)
  pub series : (i : ℕ) → ListedFits (get_or v.series i not_listed)
  pub editions : (i : ℕ) → EditionFits (get_or v.editions i no_edition)
  pub generations : (i : ℕ) → GenerationsFits (get_or v.generations i no_generations)
  pub last : FourBytes v.last
  pub reached : FourBytes v.reached

abbrev pub HeldWhole : Type 0
HeldWhole = (v : Venue) → Declared v → venue_from (venue_bytes v) ≡ v

-- and the bytes that were read are written again, whatever they are: no byte of a venue is left unread, and none is read as two fields
abbrev pub BytesBack : Type 0
BytesBack = (bs : List ℕ) → AllBytes bs → length bs ≡ venue_size → venue_bytes (venue_from bs) ≡ bs

-- so equal states are equal bytes
abbrev pub EqualBytes : Type 0
EqualBytes = (a b : List ℕ) → AllBytes a → AllBytes b → length a ≡ venue_size → length b ≡ venue_size → venue_from a ≡ venue_from b → a ≡ b

-- Zeros ---------------------------------------------------------------------------------------

-- zeros are not the fresh venue (request (l)), but that venue with all series closed, which is sound
unfoldable pub zeros_venue : Venue
zeros_venue = with_series fresh_venue (replicate 8 not_listed)

abbrev pub ZerosHeld : Type 0
ZerosHeld = (venue_from (replicate venue_size 0) ≡ zeros_venue) × (sound zeros_venue ≡ true)

-- "Hosts that counted on refusal 6 before the opening must send eight closing messages first": these leave the same of a fresh venue
unfoldable pub closings : List ℕ
closings = rows (λ s. encode_message (Status s closed)) (upto (λ s. s) 0 8)

abbrev pub ClosedFirst : Type 0
ClosedFirst = (run 96 closings).returned ≡ record { number = 0; done = 8; written = 96; venue = zeros_venue }
