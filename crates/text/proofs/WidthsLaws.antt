-- How long a record's line is, by the widths of its fields.
use mathlib.Core.Path.{◌≡◌, refl, ap, ◌∙◌}
use mathlib.Core.Bool.{Bool, true, false}
use mathlib.Core.List.{[], ◌∷◌}
use Prim.Native.Nat.{ℕ, zero, suc, ◌+◌, ◌*◌, ◌/◌, ◌%◌, ◌^◌, ◌≤◌, ◌<◌}
use native.Mathlib.Nat.{pow-succ'}
use native.Mathlib.Omega.{arith}
use lib.Dec.{ltb}
use lib.IntN.{ℤ, pos, negsuc}
use lib.ListN.{length, length-append}
use borrow.Author.Tests.{ltb-true, ltb-false}
use Rattle.rules.specs.Lengths.{record_length}
use Rattle.rules.specs.Records.{Fits, FourSigned, Report, answer, trade, pair, generated, removed, crossed, cancelled, looked, cause_number, encode, encode_all}
use Rattle.rules.proofs.Reading.{cause-small}
use Rattle.rules.proofs.Worth.{lengths}
use Rattle.text.specs.Lines.{decimal, line, line_of, signed_text, signed_word, text_of, word, words}
use Rattle.text.specs.Widths.{TextAtMost}
use Rattle.text.proofs.TypingLaws.{decimal-more, decimal-small}

-- a number below 10 ^ suc k has at most suc k digits
decimal-length : (k n : ℕ) → n < 10 ^ suc k → length (decimal n) ≤ suc k
decimal-length zero n h = let e = ap length (decimal-small n (omega arith)) in omega arith
decimal-length (suc k) n h =
    let p = pow-succ' 10 (suc k) in
    go (ltb n 10) refl (decimal-length k (n / 10) (omega arith))
  where
    go : (t : Bool) → ltb n 10 ≡ t → length (decimal (n / 10)) ≤ suc k → length (decimal n) ≤ suc (suc k)
    go true e i = let l = ap length (decimal-small n (ltb-true n 10 e)) in omega arith
    go false e i =
        let l = ap length (decimal-more n (ltb-false n 10 e)) ∙ length-append (decimal (n / 10)) ((48 + n % 10) ∷ []) in
        omega arith

-- Fields --------------------------------------------------------------------------------------

byte-length : (n : ℕ) → n < 256 → length (word n) ≤ 4
unfolding word
byte-length n h = let i = decimal-length 2 n (omega arith) in omega arith

half_length : (n : ℕ) → n < 65536 → length (word n) ≤ 6
unfolding word
half_length n h = let i = decimal-length 4 n (omega arith) in omega arith

number-length : (n : ℕ) → n < 4294967296 → length (word n) ≤ 11
unfolding word
number-length n h = let i = decimal-length 9 n (omega arith) in omega arith

signed-length : (z : ℤ) → FourSigned z → length (signed_word z) ≤ 12
unfolding signed_word signed_text
signed-length (pos n) h = let i = decimal-length 9 n (omega arith) in omega arith
signed-length (negsuc n) h = let i = decimal-length 9 (suc n) (omega arith) in omega arith

-- Lines ---------------------------------------------------------------------------------------

line-most : (r : Report) → Fits r → 2 * length (line_of r) ≤ 5 * record_length r
unfolding line_of line words record_length
line-most (answer number refusal mask count) f =
    let k = decimal-length 1 64 (omega arith) in
    let a = number-length number f.0 in
    let b = byte-length refusal f.1 in
    let c = half_length mask f.2 in
    let d = byte-length count f.3 in
    simp length-append (omega arith)
line-most (trade series side price quantity taker maker) f =
    let k = decimal-length 1 65 (omega arith) in
    let a = byte-length series f.0 in
    let b = byte-length side f.1 in
    let c = number-length price f.2 in
    let d = number-length quantity f.3 in
    let e = number-length taker f.4 in
    let f = number-length maker f.5 in
    simp length-append (omega arith)
line-most (pair id n quantity) f =
    let k = decimal-length 1 66 (omega arith) in
    let a = number-length id f.0 in
    let b = signed-length n f.1 in
    let c = number-length quantity f.2 in
    simp length-append (omega arith)
line-most (generated id series side price displayed quantity) f =
    let k = decimal-length 1 67 (omega arith) in
    let a = number-length id f.0 in
    let b = byte-length series f.1 in
    let c = byte-length side f.2 in
    let d = number-length price f.3 in
    let e = number-length displayed f.4 in
    let f = number-length quantity f.5 in
    simp length-append (omega arith)
line-most (removed id series side cause) f =
    let k = decimal-length 1 68 (omega arith) in
    let a = number-length id f.0 in
    let b = byte-length series f.1 in
    let c = byte-length side f.2 in
    let d = byte-length (cause_number cause) (cause-small cause) in
    simp length-append (omega arith)
line-most (crossed taker maker n quantity) f =
    let k = decimal-length 1 70 (omega arith) in
    let a = number-length taker f.0 in
    let b = number-length maker f.1 in
    let c = signed-length n f.2 in
    let d = number-length quantity f.3 in
    simp length-append (omega arith)
line-most (cancelled id quantity) f =
    let k = decimal-length 1 71 (omega arith) in
    let a = number-length id f.0 in
    let b = number-length quantity f.1 in
    simp length-append (omega arith)
line-most (looked count) f =
    let k = decimal-length 1 72 (omega arith) in
    let a = byte-length count f in
    simp length-append (omega arith)

pub text-at-most : TextAtMost
unfolding text_of encode_all
text-at-most [] f = omega arith
text-at-most (r ∷ rs) f =
    let a = line-most r f.0 in
    let b = lengths r in
    let c = text-at-most rs f.1 in
    let d = length-append (line_of r) (text_of rs) in
    let e = length-append (encode r) (encode_all rs) in
    omega arith
