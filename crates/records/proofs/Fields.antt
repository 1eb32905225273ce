-- A number's bytes, and those of its low 32 bits.
use Rattle.std.specs.Int.{w32, w64, to_le_bytes, int_max}
use mathlib.Core.Bool.{Bool, true, false}
use lib.Dec.{leb}
use lib.IntN.{ℤ, pos, negsuc}
use mir.Val.{of_z, SFits}
use borrow.Author.Tests.{lt-leb, le-leb, leb-true, leb-false}
use mathlib.Core.Path.{◌≡◌, refl, ap, ◌∙◌}
use Prim.Native.Nat.{ℕ, suc, ◌-◌, ◌+◌, ◌*◌, ◌/◌, ◌%◌}
use native.Mathlib.Omega.{arith}
use Rattle.rules.specs.Bytes.{bytes, as_unsigned, i32}

-- one digit: it is the same, and so is the rest but for what was added above
digit : (x y k : ℕ) → x ≡ y + 256 * k → (x % 256 ≡ y % 256) × (x / 256 ≡ y / 256 + k)
digit x y k e = (omega arith, omega arith)

-- a number's low 32 bits have its bytes
pub low-bytes : (x : ℕ) → bytes 4 (x % 4294967296) ≡ bytes 4 x
unfolding bytes
low-bytes x =
    let y = x % 4294967296 in
    let q = x / 4294967296 in
    let a = digit x y (16777216 * q) (omega arith) in
    let b = digit (x / 256) (y / 256) (65536 * q) (a.1 ∙ omega arith) in
    let c = digit (x / 256 / 256) (y / 256 / 256) (256 * q) (b.1 ∙ omega arith) in
    let d = digit (x / 256 / 256 / 256) (y / 256 / 256 / 256) q c.1 in
    rw (a.0, b.0, c.0, d.0)

-- the library's bytes of a number
pub four-bytes : (x : ℕ) → to_le_bytes w32 x ≡ bytes 4 x
unfolding bytes
four-bytes x =
    let b : x / 65536 % 256 ≡ x / 256 / 256 % 256 = omega arith in
    let c : x / 16777216 % 256 ≡ x / 256 / 256 / 256 % 256 = omega arith in
    rw (b, c) refl

-- the 32 bits of a number that is at least -4294967296, or of that
pub clamped : (x : ℤ) → SFits w64 x → bytes 4 (of_z w64 (int_max x (negsuc 4294967295)) % 4294967296) ≡ i32 x
unfolding as_unsigned
clamped (pos n) f = low-bytes n
clamped (negsuc n) f = go (leb 4294967295 n) refl
  where
    go : (t : Bool) → leb 4294967295 n ≡ t → bytes 4 (of_z w64 (int_max (negsuc n) (negsuc 4294967295)) % 4294967296) ≡ i32 (negsuc n)
    go true e =
        let h = leb-true _ _ e in
        let z : 0 ≡ 4294967295 - n = omega arith in
        rw (lt-leb (suc n) 4294967295 (omega arith)) (ap (bytes 4) z)
    go false e =
        let h = leb-false _ _ e in
        let z : (18446744073709551616 - suc n) % 4294967296 ≡ 4294967295 - n = omega arith in
        rw (le-leb (suc n) 4294967295 (omega arith)) (ap (bytes 4) z)
