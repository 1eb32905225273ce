-- Document 01, "Message and record bytes": numbers as bytes. "Little-endian: length u16 of the whole, kind u16, then fields."
use Rattle.std.specs.Prelude.{List, [], ◌∷◌, ◌++◌, ℕ, zero, suc, ◌+◌, ◌-◌, ◌*◌, ◌/◌, ◌%◌, ltb, length, get_or, ℤ, pos, negsuc, if◌then◌else◌}

-- Reading -------------------------------------------------------------------------------------

-- the byte, the u16 and the u32 at a position
unfoldable pub u8_at : List ℕ → ℕ → ℕ
u8_at bs i = get_or bs i 0

unfoldable pub u16_at : List ℕ → ℕ → ℕ
u16_at bs i = u8_at bs i + 256 * u8_at bs (i + 1)

unfoldable pub u32_at : List ℕ → ℕ → ℕ
u32_at bs i = u16_at bs i + 65536 * u16_at bs (i + 2)

-- an i32, in two's complement: 4,294,967,295 is -1
unfoldable pub as_signed : ℕ → ℤ
as_signed x = if ltb x 2147483648 then pos x else negsuc (4294967295 - x)

-- what every message and record begins with
unfoldable pub length_field : List ℕ → ℕ
length_field bs = u16_at bs 0

unfoldable pub kind_field : List ℕ → ℕ
kind_field bs = u16_at bs 2

-- Writing -------------------------------------------------------------------------------------

-- the low `count` bytes of a number, lowest first
unfoldable pub bytes : (count : ℕ) → ℕ → List ℕ
bytes zero x = []
bytes (suc n) x = x % 256 ∷ bytes n (x / 256)

unfoldable pub as_unsigned : ℤ → ℕ
as_unsigned (pos n) = n
as_unsigned (negsuc n) = 4294967295 - n

abbrev pub u8 : ℕ → List ℕ
u8 = bytes 1

abbrev pub u16 : ℕ → List ℕ
u16 = bytes 2

abbrev pub u32 : ℕ → List ℕ
u32 = bytes 4

abbrev pub i32 : ℤ → List ℕ
i32 z = bytes 4 (as_unsigned z)

-- "length u16 of the whole, kind u16, then fields"
unfoldable pub framed : (kind : ℕ) → List ℕ → List ℕ
framed kind fields = u16 (4 + length fields) ++ u16 kind ++ fields
