-- Document 01, "Trials": the printing program "prints a line per record of a run whose report memory never fills: kind, then fields in table order,
-- blank between". Text is a list of ASCII codes.
use Rattle.std.specs.Prelude.{◌≡◌, refl, true, false, List, [], ◌∷◌, ◌++◌, ℕ, zero, suc, ◌+◌, ◌/◌, ◌%◌, ltb, ℤ, pos, negsuc}
use Rattle.rules.specs.Records.{Report, answer, trade, pair, generated, removed, crossed, cancelled, looked, cause_number}

-- Numbers -------------------------------------------------------------------------------------

-- the decimal digits of n, the highest first; the fuel is n
unfoldable pub digits : (fuel n : ℕ) → List ℕ
digits zero n = (48 + n) ∷ []
digits (suc fuel) n = elim (ltb n 10) [ true ↦ (48 + n) ∷ [] | false ↦ digits fuel (n / 10) ++ ((48 + n % 10) ∷ []) ]

unfoldable pub decimal : ℕ → List ℕ
decimal n = digits n n

-- a number that may be negative: a minus sign before its size
unfoldable pub signed_text : ℤ → List ℕ
signed_text (pos n) = decimal n
signed_text (negsuc n) = 45 ∷ decimal (suc n)

-- A line --------------------------------------------------------------------------------------

-- "blank between": a blank before each field
unfoldable pub word : ℕ → List ℕ
word n = 32 ∷ decimal n

unfoldable pub signed_word : ℤ → List ℕ
signed_word z = 32 ∷ signed_text z

-- the end of the line
abbrev pub ending : List ℕ
ending = 10 ∷ []

unfoldable pub words : List ℕ → List ℕ
words [] = []
words (n ∷ ns) = word n ++ words ns

unfoldable pub line : (kind : ℕ) (fields : List ℕ) → List ℕ
line kind fields = decimal kind ++ words fields ++ ending

-- "a line per record: kind, then fields in table order"
unfoldable pub line_of : Report → List ℕ
-- 64 answer: message number, refusal or 0, place mask, count
line_of (answer number refusal mask count) = line 64 (number ∷ refusal ∷ mask ∷ count ∷ [])
-- 65 trade: series, taker's side, price, quantity, taker id, maker id
line_of (trade series side price quantity taker maker) = line 65 (series ∷ side ∷ price ∷ quantity ∷ taker ∷ maker ∷ [])
-- 66 pair: complex id, net, quantity
line_of (pair id n quantity) = decimal 66 ++ word id ++ signed_word n ++ word quantity ++ ending
-- 67 generated: complex id, series, side, price, displayed, quantity
line_of (generated id series side price displayed quantity) = line 67 (id ∷ series ∷ side ∷ price ∷ displayed ∷ quantity ∷ [])
-- 68 removed: complex id, series, side, cause
line_of (removed id series side cause) = line 68 (id ∷ series ∷ side ∷ cause_number cause ∷ [])
-- 70 cross: taker id, maker id, taker's net, quantity
line_of (crossed taker maker n quantity) = decimal 70 ++ word taker ++ word maker ++ signed_word n ++ word quantity ++ ending
-- 71 cancelled: id, quantity
line_of (cancelled id quantity) = line 71 (id ∷ quantity ∷ [])
-- 02 (m), 72: orders looked at
line_of (looked count) = line 72 (count ∷ [])

-- "prints a line per record"
unfoldable pub text_of : List Report → List ℕ
text_of [] = []
text_of (r ∷ rs) = line_of r ++ text_of rs

-- A line of the printed session, "65 0 1 115 5 4 3", and one with a credit, "66 3 -205 10".
pub printed : text_of (trade 0 1 115 5 4 3 ∷ pair 3 (negsuc 204) 10 ∷ []) ≡
    54 ∷ 53 ∷ 32 ∷ 48 ∷ 32 ∷ 49 ∷ 32 ∷ 49 ∷ 49 ∷ 53 ∷ 32 ∷ 53 ∷ 32 ∷ 52 ∷ 32 ∷ 51 ∷ 10
    ∷ 54 ∷ 54 ∷ 32 ∷ 51 ∷ 32 ∷ 45 ∷ 50 ∷ 48 ∷ 53 ∷ 32 ∷ 49 ∷ 48 ∷ 10 ∷ []
unfolding text_of line_of line words word signed_word signed_text decimal digits
printed = refl
