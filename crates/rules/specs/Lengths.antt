-- Lengths of records, and what each order pays for: by these the bytes that one message writes are bounded.
use Rattle.std.specs.Prelude.{ℕ}
use Rattle.rules.specs.Records.{Report, answer, trade, pair, generated, removed, crossed, cancelled, looked}

-- The table's column "Length", of a record.
unfoldable pub record_length : Report → ℕ
record_length (answer number refusal mask count) = 12
record_length (trade series side price quantity taker maker) = 22
record_length (pair id n quantity) = 16
record_length (generated id series side price displayed quantity) = 22
record_length (removed id series side cause) = 11
record_length (crossed taker maker n quantity) = 20
record_length (cancelled id quantity) = 12
record_length (looked count) = 5

-- What each order pays for when it goes, or in a sweep when its turn comes. A round of legging in writes, beside the trades that use up
-- what their maker shows, a trade for each leg and the pair, 22 + 22 + 16; it uses up all that a level of one leg shows, or frees the
-- complex order. A cross writes 20 and frees a party. An order that arrives trades with each resting order twice at most, with what it
-- shows and with its reserve, 22 + 22.
abbrev pub per_regular : ℕ
per_regular = 60

-- a complex order that is one to one: it is freed by a round of legging in or by a cross, or it is left and may have both legs generated
abbrev pub per_complex : ℕ
per_complex = 66

-- One of unequal ratios (request (g)) is never generated for. By whole units a round may empty neither level and leave some of the order:
-- it frees nothing, and its two trades and its pair are 22 + 22 + 16; but what is left of one level then fills no unit, so it is the last
-- round of that order's turn.
abbrev pub per_round : ℕ
per_round = 60

-- and later it may be freed by a cross
abbrev pub per_cross : ℕ
per_cross = 20

abbrev pub per_unequal : ℕ
per_unequal = 80

-- a legging order's going writes its 68
abbrev pub per_legging : ℕ
per_legging = 11

-- a leg that is generated: its 67, and the 68 of the holder or, later, its own
abbrev pub per_leg : ℕ
per_leg = 33
