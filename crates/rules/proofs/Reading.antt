-- The sheet reads back: each field's bytes give the field, each record's bytes the record, and the zeros after them end the sheet.
use mathlib.Core.Path.{◌≡◌, ap, refl}
use mathlib.Core.List.{List, [], ◌++◌, ◌∷◌, append_assoc}
use Prim.Native.Nat.{◌%◌, ◌*◌, ◌+◌, ◌-◌, ◌/◌, ◌<◌, ◌≤◌, suc, zero, ℕ}
use native.Mathlib.Omega.{arith}
use lib.IntN.{negsuc, pos, ℤ}
use lib.ListN.{drop, get_or, length, length-append, length-replicate, replicate}
use borrow.Author.Tests.{le-ltb, lt-ltb, ne_eqb}
use Rattle.rules.specs.declared.Cause.{Cause}
use Rattle.rules.specs.declared.Cause.TheVariants.{Executed, NoUnit, NotOpen, OutOfBand, Replaced, Touched, Unpaired, Withdrawn, Worse}
use Rattle.rules.specs.Bytes.{as_signed, as_unsigned, bytes, framed, kind_field, length_field, u16_at, u32_at, u8_at}
use Rattle.rules.specs.Records.{ForAll, Fits, FourSigned, Report, TwoBytes, FourBytes, OneByte, answer, cancelled, cause_number, cause_of}
use Rattle.rules.specs.Records.{crossed, encode, encode_all, generated, looked, pair, record_of, records, records_from, removed, sheet, trade}

-- Fields --------------------------------------------------------------------------------------

pub byte : (x : ℕ) → OneByte x → x % 256 ≡ x
byte x h = omega arith

pub half : (x : ℕ) → TwoBytes x → x % 256 + 256 * (x / 256 % 256) ≡ x
half x h = omega arith

pub word : (x : ℕ) → FourBytes x → x % 256 + 256 * (x / 256 % 256) + 65536 * (x / 256 / 256 % 256 + 256 * (x / 256 / 256 / 256 % 256)) ≡ x
word x h = omega arith

pub signed_back : (z : ℤ) → FourSigned z → as_signed (as_unsigned z) ≡ z
unfolding as_signed as_unsigned
signed_back (pos n) h = rw (lt-ltb n 2147483648 h)
signed_back (negsuc n) h = rw (le-ltb (4294967295 - n) 2147483648 (omega arith)) (ap negsuc (omega arith))

pub signed-small : (z : ℤ) → FourSigned z → FourBytes (as_unsigned z)
unfolding as_unsigned
signed-small (pos n) h = omega arith
signed-small (negsuc n) h = omega arith

pub cause-back : (c : Cause) → cause_of (cause_number c) ≡ c
unfolding cause_of
cause-back Worse = refl
cause-back Unpaired = refl
cause-back Executed = refl
cause-back Withdrawn = refl
cause-back OutOfBand = refl
cause-back NotOpen = refl
cause-back Replaced = refl
cause-back Touched = refl
cause-back NoUnit = refl

pub cause-small : (c : Cause) → OneByte (cause_number c)
cause-small Worse = omega arith
cause-small Unpaired = omega arith
cause-small Executed = omega arith
cause-small Withdrawn = omega arith
cause-small OutOfBand = omega arith
cause-small NotOpen = omega arith
cause-small Replaced = omega arith
cause-small Touched = omega arith
cause-small NoUnit = omega arith

-- Records -------------------------------------------------------------------------------------

pub record-back : (r : Report) → Fits r → (rest : List ℕ) → record_of (encode r ++ rest) ≡ r
unfolding record_of encode framed bytes kind_field u8_at u16_at u32_at
record-back (answer n x m c) h rest = rw (word n h.0, byte x h.1, half m h.2, byte c h.3)
record-back (trade s d p q t m) h rest =
    rw (byte s h.0, byte d h.1, word p h.2, word q h.3, word t h.4, word m h.5)
record-back (pair i n q) h rest = rw (word i h.0, word (as_unsigned n) (signed-small n h.1), signed_back n h.1, word q h.2)
record-back (generated i s d p x q) h rest =
    rw (word i h.0, byte s h.1, byte d h.2, word p h.3, word x h.4, word q h.5)
record-back (removed i s d c) h rest = rw (word i h.0, byte s h.1, byte d h.2, byte (cause_number c) (cause-small c), cause-back c)
record-back (crossed t m n q) h rest =
    rw (word t h.0, word m h.1, word (as_unsigned n) (signed-small n h.2), signed_back n h.2, word q h.3)
record-back (cancelled i q) h rest = rw (word i h.0, word q h.1)
record-back (looked n) h rest = rw (byte n h)

-- a record's length stands at its front
pub length_back : (r : Report) (rest : List ℕ) → length_field (encode r ++ rest) ≡ length (encode r)
unfolding length_field encode framed bytes u8_at u16_at
length_back (answer n x m c) rest = refl
length_back (trade s d p q t m) rest = refl
length_back (pair i n q) rest = refl
length_back (generated i s d p x q) rest = refl
length_back (removed i s d c) rest = refl
length_back (crossed t m n q) rest = refl
length_back (cancelled i q) rest = refl
length_back (looked n) rest = refl

pub some-length : (r : Report) → 4 < length (encode r)
unfolding encode framed bytes
some-length (answer n x m c) = omega arith
some-length (trade s d p q t m) = omega arith
some-length (pair i n q) = omega arith
some-length (generated i s d p x q) = omega arith
some-length (removed i s d c) = omega arith
some-length (crossed t m n q) = omega arith
some-length (cancelled i q) = omega arith
some-length (looked n) = omega arith

drop-front : (a b : List ℕ) → drop (length a) (a ++ b) ≡ b
drop-front [] b = refl
drop-front (x ∷ a) b = drop-front a b

-- Sheets --------------------------------------------------------------------------------------

zeros : (m i : ℕ) → ◌≡◌ {A = ℕ} (get_or (replicate m 0) i 0) 0
zeros zero i = refl
zeros (suc m) zero = refl
zeros (suc m) (suc i) = zeros m i

ended : (fuel m : ℕ) → records_from fuel (replicate m 0) ≡ []
unfolding records_from length_field u16_at u8_at
ended zero m = refl
ended (suc fuel) m = rw (zeros m 0, zeros m 1, records_from)

one_more : (fuel : ℕ) (r : Report) → Fits r → (rest : List ℕ) → records_from (suc fuel) (encode r ++ rest) ≡ r ∷ records_from fuel rest
unfolding records_from
one_more fuel r h rest =
    rw (length_back r rest, ne_eqb (length (encode r)) 0 (λ e. (let z = some-length r in omega arith)), records_from, record-back r h rest, length_back r rest, drop-front (encode r) rest)

reads : (fuel m : ℕ) (rs : List Report) → ForAll Fits rs → length (encode_all rs) ≤ fuel → records_from fuel (encode_all rs ++ replicate m 0) ≡ rs
unfolding encode_all
reads fuel m [] h le = ended fuel m
reads zero m (r ∷ rs) h le = (let z = some-length r in let y = simp length-append at le in absurd (omega arith))
reads (suc fuel) m (r ∷ rs) h le =
    let z = some-length r in
    let y = simp length-append at le in
    rw (append_assoc (encode r) (encode_all rs) (replicate m 0), one_more fuel r h.0 (encode_all rs ++ replicate m 0), reads fuel m rs h.1 (omega arith))

-- "the sheet ends at the first zero length or at the end of the report memory": reading so gives back exactly the records written
pub reads-back : (room : ℕ) (rs : List Report) → ForAll Fits rs → length (encode_all rs) ≤ room → records (sheet room rs) ≡ rs
unfolding records sheet
reads-back room rs h le =
    reads (length (encode_all rs ++ replicate (room - length (encode_all rs)) 0)) (room - length (encode_all rs)) rs h
    (simp (length-append, length-replicate) (omega arith))
