-- Numbers read from bytes: past the end, and from a part.
use mathlib.Core.Path.{◌≡◌, sym, ap, ap₂, ◌∙◌}
use mathlib.Core.List.{List}
use Prim.Native.Nat.{ℕ, ◌+◌, ◌*◌, ◌≤◌}
use native.Mathlib.Omega.{arith}
use lib.ListN.{length, drop, get_or-eq_default}
use lib.Seq.{get_or-drop}
use Rattle.rules.specs.Bytes.{u8_at, u16_at, u32_at}

-- past the end there are only zeros
pub u8-past : (s : List ℕ) (at : ℕ) → length s ≤ at → u8_at s at ≡ 0
unfolding u8_at
u8-past s at h = get_or-eq_default s 0 h

pub u16-past : (s : List ℕ) (at : ℕ) → length s ≤ at → u16_at s at ≡ 0
unfolding u16_at
u16-past s at h = let a = u8-past s at h in let b = u8-past s (at + 1) (omega arith) in omega arith

pub u32-past : (s : List ℕ) (at : ℕ) → length s ≤ at → u32_at s at ≡ 0
unfolding u32_at
u32-past s at h = let a = u16-past s at h in let b = u16-past s (at + 2) (omega arith) in omega arith

-- a number of 32 bits, byte by byte
pub u32-bytes : (s : List ℕ) (at : ℕ) → u32_at s at ≡ u8_at s at + 256 * u8_at s (at + 1) + 65536 * u8_at s (at + 2) + 16777216 * u8_at s (at + 3)
unfolding u32_at u16_at
u32-bytes s at = let e : at + 2 + 1 ≡ at + 3 = omega arith in rw e (omega arith)

-- what stands at i of the bytes from n on
pub u8-drop : (n : ℕ) (s : List ℕ) (i : ℕ) → u8_at (drop n s) i ≡ u8_at s (n + i)
unfolding u8_at
u8-drop n s i = get_or-drop n s i 0

pub u16-drop : (n : ℕ) (s : List ℕ) (i : ℕ) → u16_at (drop n s) i ≡ u16_at s (n + i)
unfolding u16_at
u16-drop n s i =
    let e : n + (i + 1) ≡ n + i + 1 = omega arith in
    ap₂ (λ (a b : ℕ). a + 256 * b) (u8-drop n s i) (u8-drop n s (i + 1) ∙ ap (u8_at s) e)

pub u32-drop : (n : ℕ) (s : List ℕ) (i : ℕ) → u32_at (drop n s) i ≡ u32_at s (n + i)
unfolding u32_at
u32-drop n s i =
    let e : n + (i + 2) ≡ n + i + 2 = omega arith in
    ap₂ (λ (a b : ℕ). a + 65536 * b) (u16-drop n s i) (u16-drop n s (i + 2) ∙ ap (u16_at s) e)

-- what stands at a position is at the front of the bytes from there on
pub u16-here : (n : ℕ) (s : List ℕ) → u16_at s n ≡ u16_at (drop n s) 0
u16-here n s = let e : n + 0 ≡ n = omega arith in sym (u16-drop n s 0 ∙ ap (u16_at s) e)

pub u32-here : (n : ℕ) (s : List ℕ) → u32_at s n ≡ u32_at (drop n s) 0
u32-here n s = let e : n + 0 ≡ n = omega arith in sym (u32-drop n s 0 ∙ ap (u32_at s) e)
