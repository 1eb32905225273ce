-- Document 01, "Message and record bytes": the records, kinds 64 to 71, document 02 (m)'s, kind 72, and the sheet that they make.
use Rattle.std.specs.Prelude.{true, false, List, [], ◌∷◌, ◌++◌, ℕ, zero, suc, ◌-◌, ◌<◌, eqb, length, drop, replicate, ℤ, pos, negsuc, if◌then◌else◌}
use Rattle.rules.specs.declared.Cause.{Cause}
use Rattle.rules.specs.declared.Cause.TheVariants.{Worse, Unpaired, Executed, Withdrawn, OutOfBand, NotOpen, Replaced, Touched}
use Rattle.rules.specs.declared.Cause.TheVariants.{NoUnit}
use Rattle.rules.specs.Bytes.{u8_at, u16_at, u32_at, as_signed, length_field, kind_field, u8, u16, u32, i32, framed}

-- the records, by the table's columns
pub data Report : Type 0 where
  answer : (number refusal mask count : ℕ) → Report
  trade : (series side price quantity taker maker : ℕ) → Report
  pair : (id : ℕ) (n : ℤ) (quantity : ℕ) → Report
  generated : (id series side price displayed quantity : ℕ) → Report
  removed : (id series side : ℕ) → Cause → Report
  crossed : (taker maker : ℕ) (n : ℤ) (quantity : ℕ) → Report
  cancelled : (id quantity : ℕ) → Report
  looked : (count : ℕ) → Report

-- 01's number of a cause; the filing's clause beside it
abbrev pub cause_number : Cause → ℕ
-- (C)(4)(i): no longer at the displayed best bid or offer
cause_number Worse = 1
-- (C)(4)(ii): the net price is no longer achieved
cause_number Unpaired = 2
-- (C)(4)(iii): the complex order is executed in full or in part
cause_number Executed = 3
-- (C)(4)(iv): the complex order is cancelled
cause_number Withdrawn = 4
-- (C)(4)(v): outside the ACE parameter
cause_number OutOfBand = 5
-- (C)(4)(vi): an auction; 01 adds a series that is closed
cause_number NotOpen = 6
-- (C)(4)(vii): a better price, or the same price with a higher priority
cause_number Replaced = 7
-- (C)(4)(viii) and (ix)
cause_number Touched = 8
-- (C)(4)(x); request (g): touched by an order of unequal ratios where the sizes can't fill a unit
cause_number NoUnit = 10

-- Writing -------------------------------------------------------------------------------------

unfoldable pub encode : Report → List ℕ
-- 64 answer: message number u32 from 1, refusal u8 or 0, place mask u16, count u8
encode (answer number refusal mask count) = framed 64 (u32 number ++ u8 refusal ++ u16 mask ++ u8 count)
-- 65 trade: series u8, taker's side u8, price u32, quantity u32, taker id u32, maker id u32
encode (trade series side price quantity taker maker) =
    framed 65 (u8 series ++ u8 side ++ u32 price ++ u32 quantity ++ u32 taker ++ u32 maker)
-- 66 pair: complex id u32, net i32, quantity u32
encode (pair id n quantity) = framed 66 (u32 id ++ i32 n ++ u32 quantity)
-- 67 generated: complex id u32, series u8, side u8, price u32, displayed u32, quantity u32
encode (generated id series side price displayed quantity) =
    framed 67 (u32 id ++ u8 series ++ u8 side ++ u32 price ++ u32 displayed ++ u32 quantity)
-- 68 removed: complex id u32, series u8, side u8, cause u8
encode (removed id series side cause) = framed 68 (u32 id ++ u8 series ++ u8 side ++ u8 (cause_number cause))
-- 70 cross: taker id u32, maker id u32, taker's net i32, quantity u32
encode (crossed taker maker n quantity) = framed 70 (u32 taker ++ u32 maker ++ i32 n ++ u32 quantity)
-- 71 cancelled: id u32, quantity u32
encode (cancelled id quantity) = framed 71 (u32 id ++ u32 quantity)
-- "record 72, one u8"
encode (looked count) = framed 72 (u8 count)

unfoldable pub encode_all : List Report → List ℕ
encode_all [] = []
encode_all (r ∷ rs) = encode r ++ encode_all rs

-- a report memory of a length: its records, and then zeros
unfoldable pub sheet : (room : ℕ) → List Report → List ℕ
sheet room rs = encode_all rs ++ replicate (room - length (encode_all rs)) 0

-- Reading a sheet back ------------------------------------------------------------------------

-- the cause of a number
unfoldable pub cause_of : ℕ → Cause
cause_of n =
    if eqb n 1 then Worse
    else if eqb n 2 then Unpaired
    else if eqb n 3 then Executed
    else if eqb n 4 then Withdrawn
    else if eqb n 5 then OutOfBand
    else if eqb n 6 then NotOpen
    else if eqb n 7 then Replaced
    else if eqb n 8 then Touched
    else NoUnit

-- the record at the front of bs
unfoldable pub record_of : List ℕ → Report
record_of bs =
    let k = kind_field bs in
    if eqb k 64 then answer (u32_at bs 4) (u8_at bs 8) (u16_at bs 9) (u8_at bs 11)
    else if eqb k 65 then trade (u8_at bs 4) (u8_at bs 5) (u32_at bs 6) (u32_at bs 10) (u32_at bs 14) (u32_at bs 18)
    else if eqb k 66 then pair (u32_at bs 4) (as_signed (u32_at bs 8)) (u32_at bs 12)
    else if eqb k 67 then generated (u32_at bs 4) (u8_at bs 8) (u8_at bs 9) (u32_at bs 10) (u32_at bs 14) (u32_at bs 18)
    else if eqb k 68 then removed (u32_at bs 4) (u8_at bs 8) (u8_at bs 9) (cause_of (u8_at bs 10))
    else if eqb k 70 then crossed (u32_at bs 4) (u32_at bs 8) (as_signed (u32_at bs 12)) (u32_at bs 16)
    else if eqb k 71 then cancelled (u32_at bs 4) (u32_at bs 8)
    else looked (u8_at bs 4)

-- the records from bs on; the fuel is the length of bs
unfoldable pub records_from : (fuel : ℕ) → List ℕ → List Report
records_from zero bs = []
records_from (suc fuel) bs =
    elim (eqb (length_field bs) 0) [ true ↦ [] | false ↦ record_of bs ∷ records_from fuel (drop (length_field bs) bs) ]

-- "the sheet ends at the first zero length or at the end of the report memory"
unfoldable pub records : (memory : List ℕ) → List Report
records memory = records_from (length memory) memory

-- Records whose fields fit their widths -------------------------------------------------------

abbrev pub OneByte : ℕ → Type 0
OneByte x = x < 256

abbrev pub TwoBytes : ℕ → Type 0
TwoBytes x = x < 65536

abbrev pub FourBytes : ℕ → Type 0
FourBytes x = x < 4294967296

abbrev pub FourSigned : ℤ → Type 0
FourSigned (pos n) = n < 2147483648
FourSigned (negsuc n) = n < 2147483648

abbrev pub Fits : Report → Type 0
Fits (answer number refusal mask count) = FourBytes number × OneByte refusal × TwoBytes mask × OneByte count
Fits (trade series side price quantity taker maker) =
    OneByte series × OneByte side × FourBytes price × FourBytes quantity × FourBytes taker × FourBytes maker
Fits (pair id n quantity) = FourBytes id × FourSigned n × FourBytes quantity
Fits (generated id series side price displayed quantity) =
    FourBytes id × OneByte series × OneByte side × FourBytes price × FourBytes displayed × FourBytes quantity
Fits (removed id series side cause) = FourBytes id × OneByte series × OneByte side
Fits (crossed taker maker n quantity) = FourBytes taker × FourBytes maker × FourSigned n × FourBytes quantity
Fits (cancelled id quantity) = FourBytes id × FourBytes quantity
Fits (looked count) = OneByte count

-- each record of a list is so
abbrev pub ForAll : (Report → Type 0) → List Report → Type 0
ForAll P [] = Unit {0}
ForAll P (r ∷ rs) = P r × ForAll P rs
