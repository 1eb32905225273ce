-- Bytes back: a record of whole bytes is spelled by what is read at its places.
use Rattle.std.specs.Prelude.{if◌then◌else◌}
use mathlib.Core.Path.{◌≡◌, refl, sym, ap, ap₂, ◌∙◌}
use mathlib.Core.Bool.{Bool, true, false}
use mathlib.Core.List.{List, [], ◌∷◌, ◌++◌, append_assoc, append-nil}
use Prim.Native.Nat.{ℕ, zero, suc, ◌≤◌, ◌<◌, ◌+◌, ◌-◌, ◌*◌, ◌/◌, ◌%◌}
use native.Mathlib.Omega.{arith}
use lib.Dec.{leb, ltb}
use lib.IntN.{negsuc, pos}
use lib.ListN.{drop, get_or, length, length-append, length-drop}
use lib.Seq.{drop-drop, drop-length, get_or-drop}
use borrow.Author.Tests.{leb-true, ne_eqb}
use Rattle.rules.specs.declared.Message.TheVariants.{Away, Status}
use Rattle.rules.specs.Words.{is_series, one_to_one, within}
use Rattle.rules.specs.Bytes.{as_signed, as_unsigned, bytes, framed, kind_field, length_field, u16, u16_at, u32, u32_at, u8, u8_at}
use Rattle.rules.specs.Messages.{encode_message, order_at, order_fields, two_leg_at, two_leg_fields}
use Rattle.rules.specs.Records.{FourBytes}
use Rattle.rules.proofs.Tests.{and_r}
use Rattle.sets.specs.Promises.{AllBytes}
use Rattle.sets.specs.Set.{complex_record, complex_told, edition_record, edition_told, first_record, generation_record, legging_record, regular_record, regular_told, set_length}
use Rattle.sets.proofs.Rows.{Well}

-- Numbers -------------------------------------------------------------------------------------

bytes-cons : (n a y : ℕ) → a < 256 → bytes (suc n) (a + 256 * y) ≡ a ∷ bytes n y
unfolding bytes
bytes-cons n a y h =
    let p : (a + 256 * y) % 256 ≡ a = omega arith in
    let q : (a + 256 * y) / 256 ≡ y = omega arith in
    rw (p, q)

byte-spelled : (a : ℕ) → a < 256 → u8 a ≡ a ∷ []
byte-spelled a h = let e : a ≡ a + 256 * 0 = omega arith in ap (λ (n : ℕ). u8 n) e ∙ bytes-cons 0 a 0 h ∙ unfold bytes in refl

half-spelled : (a b : ℕ) → a < 256 → b < 256 → u16 (a + 256 * b) ≡ a ∷ b ∷ []
half-spelled a b h k = bytes-cons 1 a b h ∙ ap (λ (l : List ℕ). a ∷ l) (byte-spelled b k)

word-spelled : (a b c d : ℕ) → a < 256 → b < 256 → c < 256 → d < 256 → u32 (a + 256 * b + 65536 * (c + 256 * d)) ≡ a ∷ b ∷ c ∷ d ∷ []
word-spelled a b c d h i j k =
    let e : a + 256 * b + 65536 * (c + 256 * d) ≡ a + 256 * (b + 256 * (c + 256 * d)) = omega arith in
    rw (e, bytes-cons 3 a (b + 256 * (c + 256 * d)) h, bytes-cons 2 b (c + 256 * d) i, bytes-cons 1 c d j, byte-spelled d k)

-- the front of a list of bytes
front-byte : (s : List ℕ) → AllBytes s → 1 ≤ length s → s ≡ u8 (get_or s 0 0) ++ drop 1 s
front-byte [] h le = absurd (omega arith)
front-byte (a ∷ s) h le = rw (byte-spelled a h.0)

front-half : (s : List ℕ) → AllBytes s → 2 ≤ length s → s ≡ u16 (get_or s 0 0 + 256 * get_or s 1 0) ++ drop 2 s
front-half [] h le = absurd (omega arith)
front-half (a ∷ []) h le = absurd (omega arith)
front-half (a ∷ b ∷ s) h le = rw (half-spelled a b h.0 h.1.0)

front-word : (s : List ℕ) → AllBytes s → 4 ≤ length s → s ≡ u32 (get_or s 0 0 + 256 * get_or s 1 0 + 65536 * (get_or s 2 0 + 256 * get_or s 3 0)) ++ drop 4 s
front-word [] h le = absurd (omega arith)
front-word (a ∷ []) h le = absurd (omega arith)
front-word (a ∷ b ∷ []) h le = absurd (omega arith)
front-word (a ∷ b ∷ c ∷ []) h le = absurd (omega arith)
front-word (a ∷ b ∷ c ∷ d ∷ s) h le = rw (word-spelled a b c d h.0 h.1.0 h.1.1.0 h.1.1.1.0)

-- a number of four bytes, and its sign
pub unsigned_back : (x : ℕ) → FourBytes x → as_unsigned (as_signed x) ≡ x
unfolding as_signed as_unsigned
unsigned_back x h = go (ltb x 2147483648)
  where
    go : (b : Bool) → as_unsigned (if b then pos x else negsuc (4294967295 - x)) ≡ x
    go true = refl
    go false = omega arith

-- At a place ----------------------------------------------------------------------------------

pub bytes_drop : (i : ℕ) (r : List ℕ) → AllBytes r → AllBytes (drop i r)
bytes_drop zero r h = h
bytes_drop (suc i) [] h = tt
bytes_drop (suc i) (x ∷ r) h = bytes_drop i r h.1

at_byte : (r : List ℕ) (i : ℕ) → u8_at r i ≡ get_or (drop i r) 0 0
unfolding u8_at
at_byte r i = let e : i + 0 ≡ i = omega arith in sym (get_or-drop i r 0 0 ∙ ap (λ (n : ℕ). get_or r n 0) e)

at-half : (r : List ℕ) (i : ℕ) → u16_at r i ≡ get_or (drop i r) 0 0 + 256 * get_or (drop i r) 1 0
unfolding u16_at
at-half r i = rw (at_byte r i, get_or-drop i r 1 0) (unfold u8_at in refl)

at-word : (r : List ℕ) (i : ℕ) → u32_at r i ≡ get_or (drop i r) 0 0 + 256 * get_or (drop i r) 1 0 + 65536 * (get_or (drop i r) 2 0 + 256 * get_or (drop i r) 3 0)
unfolding u32_at u16_at
at-word r i = let e : i + 2 + 1 ≡ i + 3 = omega arith in rw (at_byte r i, get_or-drop i r 1 0, get_or-drop i r 2 0, get_or-drop i r 3 0, e) (unfold u8_at in refl)

byte_small : (r : List ℕ) → AllBytes r → (i : ℕ) → get_or r i 0 < 256
byte_small [] h i = omega arith
byte_small (x ∷ r) h zero = h.0
byte_small (x ∷ r) h (suc i) = byte_small r h.1 i

pub word_small : (r : List ℕ) → AllBytes r → (i : ℕ) → FourBytes (u32_at r i)
unfolding u32_at u16_at u8_at
word_small r h i =
    let a = byte_small r h i in
    let b = byte_small r h (i + 1) in
    let c = byte_small r h (i + 2) in
    let d = byte_small r h (i + 2 + 1) in
    omega arith

-- at place i of a record stand these bytes
abbrev pub At : (r : List ℕ) (i : ℕ) (xs : List ℕ) → Type 0
At r i xs = drop i r ≡ xs ++ drop (i + length xs) r

module _ (r : List ℕ) (all : AllBytes r) (i : ℕ) where
  drop-on : (n : ℕ) → drop n (drop i r) ≡ drop (i + n) r
  drop-on n = drop-drop n i r

  some_left : (n : ℕ) → i + n ≤ length r → n ≤ length (drop i r)
  some_left n le = rw (length-drop i r) (omega arith)

  pub u8-at : i + 1 ≤ length r → At r i (u8 (u8_at r i))
  unfolding bytes
  u8-at le = front-byte (drop i r) (bytes_drop i r all) (some_left 1 le) ∙ rw (← at_byte r i, drop-on 1)

  pub u16-at : i + 2 ≤ length r → At r i (u16 (u16_at r i))
  unfolding bytes
  u16-at le = front-half (drop i r) (bytes_drop i r all) (some_left 2 le) ∙ rw (← at-half r i, drop-on 2)

  pub u32-at : i + 4 ≤ length r → At r i (u32 (u32_at r i))
  unfolding bytes
  u32-at le = front-word (drop i r) (bytes_drop i r all) (some_left 4 le) ∙ rw (← at-word r i, drop-on 4)

pub join : (r : List ℕ) (i j : ℕ) (xs ys : List ℕ) → i + length xs ≡ j → At r i xs → At r j ys → At r i (xs ++ ys)
join r i j xs ys n a b =
    let e : j + length ys ≡ i + length (xs ++ ys) = (let l = length-append xs ys in omega arith) in
    a ∙ ap (λ (m : ℕ). xs ++ drop m r) n ∙ ap (λ (l : List ℕ). xs ++ l) (b ∙ ap (λ (m : ℕ). ys ++ drop m r) e) ∙ sym (append_assoc xs ys (drop (i + length (xs ++ ys)) r))

-- and these are all of it
pub all-at : (r xs : List ℕ) → At r 0 xs → length xs ≡ length r → xs ≡ r
all-at r xs a n =
    let e : 0 + length xs ≡ length r = omega arith in
    sym (a ∙ ap (λ (m : ℕ). xs ++ drop m r) e ∙ ap (λ (l : List ℕ). xs ++ l) (drop-length r) ∙ append-nil xs)

-- Records -------------------------------------------------------------------------------------

-- a record whose bytes are bytes
pub record Clean (r : List ℕ) : Type 0 where
  pub well : Well r
  pub bytes : AllBytes r

module _ (r : List ℕ) (c : Clean r) where
  -- of a kind, it has that kind's length
  sized : (k : ℕ) → kind_field r ≡ k → length r ≡ set_length k
  sized k e = sym c.well.known ∙ ap set_length e

  -- its front, and its fields after it
  framed-back : (k : ℕ) (fields : List ℕ) → kind_field r ≡ k → At r 4 fields → 4 + length fields ≡ length r → framed k fields ≡ r
  unfolding framed length_field kind_field bytes
  framed-back k fields e f n =
      let four = c.well.four in
      let front = join r 0 2 (u16 (u16_at r 0)) (u16 (u16_at r 2)) refl (u16-at r c.bytes 0 (omega arith)) (u16-at r c.bytes 2 (omega arith)) in
      let all : At r 0 (u16 (u16_at r 0) ++ u16 (u16_at r 2) ++ fields) = join r 0 4 (u16 (u16_at r 0) ++ u16 (u16_at r 2)) fields refl front f in
      ap₂ (λ (x y : ℕ). u16 x ++ u16 y ++ fields) (n ∙ sym c.well.told) (sym e) ∙ all-at r (u16 (u16_at r 0) ++ u16 (u16_at r 2) ++ fields) all (omega arith)

  -- a field at a place of a record that is long enough
  u8-in : (i : ℕ) → i + 1 ≤ length r → At r i (u8 (u8_at r i))
  u8-in i le = u8-at r c.bytes i le

  u32-in : (i : ℕ) → i + 4 ≤ length r → At r i (u32 (u32_at r i))
  u32-in i le = u32-at r c.bytes i le

  pub first-spelled : kind_field r ≡ 80 → first_record (u32_at r 4) (u32_at r 8) ≡ r
  unfolding first_record bytes set_length
  first-spelled k =
      let n = sized 80 k in
      framed-back 80 _ k (join r 4 8 (u32 (u32_at r 4)) (u32 (u32_at r 8)) refl (u32-in 4 (omega arith)) (u32-in 8 (omega arith))) (sym n)

  pub status-spelled : kind_field r ≡ 5 → encode_message (Status (u8_at r 4) (u8_at r 5)) ≡ r
  unfolding encode_message bytes set_length
  status-spelled k =
      let n = sized 5 k in
      framed-back 5 _ k (join r 4 5 (u8 (u8_at r 4)) (u8 (u8_at r 5)) refl (u8-in 4 (omega arith)) (u8-in 5 (omega arith))) (sym n)

  pub away-spelled : kind_field r ≡ 4 → encode_message (Away (u8_at r 4) (u32_at r 5) (u32_at r 9)) ≡ r
  unfolding encode_message bytes set_length
  away-spelled k =
      let n = sized 4 k in
      let a = join r 4 5 (u8 (u8_at r 4)) (u32 (u32_at r 5)) refl (u8-in 4 (omega arith)) (u32-in 5 (omega arith)) in
      framed-back 4 _ k (join r 4 9 (u8 (u8_at r 4) ++ u32 (u32_at r 5)) (u32 (u32_at r 9)) refl a (u32-in 9 (omega arith))) (sym n)

  -- editions: of a figure that is a series, and of the percentage
  pub edition-spelled : kind_field r ≡ 7 → is_series (u8_at r 4) ≡ true → edition_record (edition_told r) ≡ r
  unfolding edition_record edition_told is_series within bytes set_length
  edition-spelled k s =
      let n = sized 7 k in
      let le = leb-true (u8_at r 4) 7 (and_r (leb 0 (u8_at r 4)) (leb (u8_at r 4) 7) s) in
      let no = ne_eqb (u8_at r 4) 8 (λ e. omega arith) in
      let a = join r 4 5 (u8 (u8_at r 4)) (u8 (u8_at r 5)) refl (u8-in 4 (omega arith)) (u8-in 5 (omega arith)) in
      let b = join r 4 6 (u8 (u8_at r 4) ++ u8 (u8_at r 5)) (u32 (u32_at r 6)) refl a (u32-in 6 (omega arith)) in
      let f = framed-back 7 _ k (join r 4 10 (u8 (u8_at r 4) ++ u8 (u8_at r 5) ++ u32 (u32_at r 6)) (u32 (u32_at r 10)) refl b (u32-in 10 (omega arith))) (sym n) in
      rw (k, no) f

  pub percent-spelled : kind_field r ≡ 8 → edition_record (edition_told r) ≡ r
  unfolding edition_record edition_told bytes set_length
  percent-spelled k =
      let n = sized 8 k in
      let a = join r 4 5 (u8 (u8_at r 4)) (u32 (u32_at r 5)) refl (u8-in 4 (omega arith)) (u32-in 5 (omega arith)) in
      let f = framed-back 8 _ k (join r 4 9 (u8 (u8_at r 4) ++ u32 (u32_at r 5)) (u32 (u32_at r 9)) refl a (u32-in 9 (omega arith))) (sym n) in
      rw k f

  pub regular-spelled : kind_field r ≡ 9 → regular_record (regular_told r) ≡ r
  unfolding regular_record regular_told order_fields order_at bytes set_length
  regular-spelled k =
      let n = sized 9 k in
      let a = join r 4 8 (u32 (u32_at r 4)) (u8 (u8_at r 8)) refl (u32-in 4 (omega arith)) (u8-in 8 (omega arith)) in
      let b = join r 4 9 (u32 (u32_at r 4) ++ u8 (u8_at r 8)) (u8 (u8_at r 9)) refl a (u8-in 9 (omega arith)) in
      let d = join r 4 10 (u32 (u32_at r 4) ++ u8 (u8_at r 8) ++ u8 (u8_at r 9)) (u32 (u32_at r 10)) refl b (u32-in 10 (omega arith)) in
      let e = join r 4 14 (u32 (u32_at r 4) ++ u8 (u8_at r 8) ++ u8 (u8_at r 9) ++ u32 (u32_at r 10)) (u32 (u32_at r 14)) refl d (u32-in 14 (omega arith)) in
      let f = framed-back 9 _ k (join r 4 18 (u32 (u32_at r 4) ++ u8 (u8_at r 8) ++ u8 (u8_at r 9) ++ u32 (u32_at r 10) ++ u32 (u32_at r 14)) (u32 (u32_at r 18)) refl e (u32-in 18 (omega arith))) (sym n) in
      rw k f

  pub legging-spelled : kind_field r ≡ 82 → legging_record (u8_at r 8) (u8_at r 9) (record { parent = u32_at r 4; price = u32_at r 10; quantity = u32_at r 14 }) ≡ r
  unfolding legging_record bytes set_length
  legging-spelled k =
      let n = sized 82 k in
      let a = join r 4 8 (u32 (u32_at r 4)) (u8 (u8_at r 8)) refl (u32-in 4 (omega arith)) (u8-in 8 (omega arith)) in
      let b = join r 4 9 (u32 (u32_at r 4) ++ u8 (u8_at r 8)) (u8 (u8_at r 9)) refl a (u8-in 9 (omega arith)) in
      let d = join r 4 10 (u32 (u32_at r 4) ++ u8 (u8_at r 8) ++ u8 (u8_at r 9)) (u32 (u32_at r 10)) refl b (u32-in 10 (omega arith)) in
      framed-back 82 _ k (join r 4 14 (u32 (u32_at r 4) ++ u8 (u8_at r 8) ++ u8 (u8_at r 9) ++ u32 (u32_at r 10)) (u32 (u32_at r 14)) refl d (u32-in 14 (omega arith))) (sym n)

  pub generation-spelled : kind_field r ≡ 83 → generation_record (u8_at r 4) (u32_at r 5) ≡ r
  unfolding generation_record bytes set_length
  generation-spelled k =
      let n = sized 83 k in
      framed-back 83 _ k (join r 4 5 (u8 (u8_at r 4)) (u32 (u32_at r 5)) refl (u8-in 4 (omega arith)) (u32-in 5 (omega arith))) (sym n)

  pub reached-spelled : kind_field r ≡ 84 → framed 84 (u32 (u32_at r 4)) ≡ r
  unfolding bytes set_length
  reached-spelled k = let n = sized 84 k in framed-back 84 _ k (u32-in 4 (omega arith)) (sym n)

  -- a complex order, with its ratios
  two-leg : (x y : ℕ) → 21 ≤ length r → At r 4 (two_leg_fields (two_leg_at r x y))
  unfolding two_leg_fields two_leg_at bytes
  two-leg x y n =
      let a = join r 4 8 (u32 (u32_at r 4)) (u8 (u8_at r 8)) refl (u32-in 4 (omega arith)) (u8-in 8 (omega arith)) in
      let b = join r 4 9 (u32 (u32_at r 4) ++ u8 (u8_at r 8)) (u8 (u8_at r 9)) refl a (u8-in 9 (omega arith)) in
      let d = join r 4 10 (u32 (u32_at r 4) ++ u8 (u8_at r 8) ++ u8 (u8_at r 9)) (u8 (u8_at r 10)) refl b (u8-in 10 (omega arith)) in
      let e = join r 4 11 (u32 (u32_at r 4) ++ u8 (u8_at r 8) ++ u8 (u8_at r 9) ++ u8 (u8_at r 10)) (u8 (u8_at r 11)) refl d (u8-in 11 (omega arith)) in
      let f = join r 4 12 (u32 (u32_at r 4) ++ u8 (u8_at r 8) ++ u8 (u8_at r 9) ++ u8 (u8_at r 10) ++ u8 (u8_at r 11)) (u8 (u8_at r 12)) refl e (u8-in 12 (omega arith)) in
      let g = join r 4 13 (u32 (u32_at r 4) ++ u8 (u8_at r 8) ++ u8 (u8_at r 9) ++ u8 (u8_at r 10) ++ u8 (u8_at r 11) ++ u8 (u8_at r 12)) (u32 (u32_at r 13)) refl f (u32-in 13 (omega arith)) in
      let h = join r 4 17 (u32 (u32_at r 4) ++ u8 (u8_at r 8) ++ u8 (u8_at r 9) ++ u8 (u8_at r 10) ++ u8 (u8_at r 11) ++ u8 (u8_at r 12)
      ++ u32 (u32_at r 13)) (u32 (u32_at r 17)) refl g (u32-in 17 (omega arith)) in
      rw (unsigned_back (u32_at r 13) (word_small r c.bytes 13)) h

  pub two-spelled : kind_field r ≡ 2 → complex_record (complex_told r) ≡ r
  unfolding complex_record complex_told encode_message one_to_one two_leg_fields two_leg_at bytes set_length
  two-spelled k =
      let n = sized 2 k in
      let f = framed-back 2 (two_leg_fields (two_leg_at r 1 1)) k (two-leg 1 1 (omega arith)) (sym n) in
      rw k f

  pub ten-spelled : kind_field r ≡ 10 → one_to_one (complex_told r) ≡ false → complex_record (complex_told r) ≡ r
  unfolding complex_record complex_told encode_message two_leg_fields two_leg_at bytes set_length
  ten-spelled k o =
      let n = sized 10 k in
      let x = u8_at r 21 in
      let y = u8_at r 22 in
      let a = join r 4 21 (two_leg_fields (two_leg_at r x y)) (u8 x) refl (two-leg x y (omega arith)) (u8-in 21 (omega arith)) in
      let f = framed-back 10 (two_leg_fields (two_leg_at r x y) ++ u8 x ++ u8 y) k (join r 4 22 (two_leg_fields (two_leg_at r x y) ++ u8 x) (u8 y) refl a (u8-in 22 (omega arith))) (sym n) in
      rw (o, k) f
