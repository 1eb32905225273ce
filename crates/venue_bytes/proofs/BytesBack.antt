-- The bytes that a venue was read from are written again.
use mathlib.Core.Path.{◌≡◌, refl, sym, ap, subst, ◌∙◌}
use mathlib.Core.List.{List, [], ◌++◌}
use Prim.Native.Nat.{ℕ, zero, suc, ◌+◌, ◌*◌, ◌≤◌, ◌<◌}
use native.Mathlib.Nat.{mul-suc, mul-le-mul_left}
use native.Mathlib.Omega.{arith}
use lib.ListN.{length, get_or, drop, length-append, length-drop}
use lib.Seq.{drop-drop}
use Rattle.rules.specs.Bytes.{u8_at, u32_at, bytes, u8, u32}
use Rattle.wire.proofs.Numbers.{u32-here}
use Rattle.places.specs.Layout.{upto}
use Rattle.places.proofs.Tables.{upto-length, upto-at, upto-along}
use Rattle.sets.specs.Promises.{AllBytes}
use Rattle.sets.proofs.Spelled.{At, u8-at, u32-at, join, all-at, bytes_drop, word_small, unsigned_back}
use Rattle.venue_bytes.specs.Held.{editions_at, reserves_at, ratios_at, generations_at, reached_at, venue_size, regular_bytes, complex_bytes, legging_bytes, listed_bytes}
use Rattle.venue_bytes.specs.Held.{edition_bytes, reserve_bytes, ratio_bytes, messages_of, generations_bytes, rows, venue_bytes}
use Rattle.venue_bytes.specs.Held.{row_at, rows_at, venue_from, regular_from, complex_from, legging_from, listed_from, edition_from, generations_from}
use Rattle.venue_bytes.specs.Held.{BytesBack, EqualBytes}
use Rattle.venue_bytes.proofs.Rows.{rows-length}
use Rattle.venue_bytes.proofs.Widths.{regular-width, complex-width, legging-width, listed-width, edition-width, reserve-width, ratio-width}
use Rattle.venue_bytes.proofs.Widths.{number-width, generations-width}

-- the first n bytes of s are these
record First (s : List ℕ) (n : ℕ) (xs : List ℕ) : Type 0 where
  at : At s 0 xs
  long : length xs ≡ n

none_yet : (s : List ℕ) → First s 0 []
none_yet s = record { at = refl; long = refl }

and : (s : List ℕ) (n k : ℕ) (xs ys : List ℕ) → First s n xs → At s n ys → length ys ≡ k → First s (n + k) (xs ++ ys)
and s n k xs ys f a l = let e = f.long in record { at = join s 0 n xs ys (omega arith) f.at a; long = length-append xs ys ∙ omega arith }

-- A row ---------------------------------------------------------------------------------------

module _ (s : List ℕ) (all : AllBytes s) where
  and_byte : (n : ℕ) (xs : List ℕ) → n + 1 ≤ length s → First s n xs → First s (n + 1) (xs ++ u8 (u8_at s n))
  unfolding bytes
  and_byte n xs le f = and s n 1 xs (u8 (u8_at s n)) f (u8-at s all n le) refl

  and_word : (n : ℕ) (xs : List ℕ) → n + 4 ≤ length s → First s n xs → First s (n + 4) (xs ++ u32 (u32_at s n))
  and_word n xs le f = and s n 4 xs (u32 (u32_at s n)) f (u32-at s all n le) (number-width (u32_at s n))

  id-first : 4 ≤ length s → First s 4 (u32 (u32_at s 0))
  id-first h = and_word 0 [] (omega arith) (none_yet s)

  regular-spelled : (t : List ℕ) → 14 ≤ length s → First s 14 (regular_bytes (regular_from s t))
  unfolding regular_bytes regular_from
  regular-spelled t h = and_word 10 _ (omega arith) (and_word 6 _ (omega arith) (and_byte 5 _ (omega arith) (and_byte 4 _ (omega arith) (id-first (omega arith)))))

  reserve-spelled : (t : List ℕ) → 8 ≤ length s → First s 8 (reserve_bytes (regular_from t s))
  unfolding reserve_bytes regular_from
  reserve-spelled t h = and_word 4 _ (omega arith) (id-first (omega arith))

  complex-spelled : (t : List ℕ) → 17 ≤ length s → First s 17 (complex_bytes (complex_from s t))
  unfolding complex_bytes complex_from
  complex-spelled t h =
      rw (unsigned_back (u32_at s 9) (word_small s all 9))
      (and_word 13 _ (omega arith) (and_word 9 _ (omega arith) (and_byte 8 _ (omega arith) (and_byte 7 _ (omega arith) (and_byte 6 _ (omega arith)
      (and_byte 5 _ (omega arith) (and_byte 4 _ (omega arith) (id-first (omega arith)))))))))

  ratio-spelled : (t : List ℕ) → 2 ≤ length s → First s 2 (ratio_bytes (complex_from t s))
  unfolding ratio_bytes complex_from
  ratio-spelled t h = and_byte 1 (u8 (u8_at s 0)) (omega arith) (and_byte 0 [] (omega arith) (none_yet s))

  legging-spelled : 12 ≤ length s → First s 12 (legging_bytes (legging_from s))
  unfolding legging_bytes legging_from
  legging-spelled h = and_word 8 _ (omega arith) (and_word 4 _ (omega arith) (id-first (omega arith)))

  listed-spelled : 9 ≤ length s → First s 9 (listed_bytes (listed_from s))
  unfolding listed_bytes listed_from
  listed-spelled h = and_word 5 _ (omega arith) (and_word 1 (u8 (u8_at s 0)) (omega arith) (and_byte 0 [] (omega arith) (none_yet s)))

  edition-spelled : 10 ≤ length s → First s 10 (edition_bytes (edition_from s))
  unfolding edition_bytes edition_from
  edition-spelled h = and_byte 9 _ (omega arith) (and_byte 8 _ (omega arith) (and_word 4 _ (omega arith) (id-first (omega arith))))

-- A table -------------------------------------------------------------------------------------

-- what stands first from a position on stands at that position
first-at : (bs xs : List ℕ) (p n : ℕ) → First (drop p bs) n xs → At bs p xs
first-at bs xs p n f =
    let e : p + (0 + length xs) ≡ p + length xs = omega arith in
    f.at ∙ ap (λ (l : List ℕ). xs ++ l) (drop-drop (0 + length xs) p bs ∙ ap (λ (n : ℕ). drop n bs) e)

-- k rows from row i on, where each stands at its place
rows-at : {A : Type 0} (row : A → List ℕ) (width : ℕ) → ((x : A) → length (row x) ≡ width) → (f : ℕ → A) (from : ℕ) (bs : List ℕ) (i k : ℕ) →
    ((j : ℕ) → i ≤ j → j < i + k → At bs (width * j + from) (row (f j))) → At bs (width * i + from) (rows row (upto f i k))
unfolding rows upto
rows-at row width even f from bs i zero here = let e : width * i + from ≡ width * i + from + 0 = omega arith in ap (λ (n : ℕ). drop n bs) e
rows-at row width even f from bs i (suc k) here =
    let w = even (f i) in
    let m = mul-suc width i in
    join bs (width * i + from) (width * suc i + from) (row (f i)) (rows row (upto f (suc i) k)) (omega arith) (here i (omega arith) (omega arith))
    (rows-at row width even f from bs (suc i) k (λ j p q. here j (omega arith) (omega arith)))

-- the numbers read for a series' generations are those that are written
messages-read : (s : List ℕ) → messages_of (generations_from s) ≡ upto (λ k. u32_at s (4 * k)) 0 20
unfolding generations_from
messages-read s = upto-along (λ k. get_or (upto (λ i. u32_at s (4 * i)) 0 20) k 0) (λ k. u32_at s (4 * k)) 0 0 20
    (λ x h. let e : 0 + x ≡ x = omega arith in ap (λ (k : ℕ). get_or (upto (λ i. u32_at s (4 * i)) 0 20) k 0) e ∙ upto-at (λ i. u32_at s (4 * i)) 0 0 20 x h)

module _ (bs : List ℕ) (all : AllBytes bs) where
  -- and then the n rows of a table, each first among the bytes from its position on
  and-table : {A : Type 0} (row : A → List ℕ) (width : ℕ) → ((x : A) → length (row x) ≡ width) → (f : ℕ → A) (from n : ℕ) (xs : List ℕ) → width * n + from ≤ length bs → First bs from xs →
      ((j : ℕ) → (let s = drop (width * j + from) bs in AllBytes s → width ≤ length s → First s width (row (f j)))) → First bs (from + width * n) (xs ++ rows row (upto f 0 n))
  and-table row width even f from n xs le first spelled =
      let z : width * 0 + from ≡ from = omega arith in
      let many = upto-length f 0 n in
      and bs from (width * n) xs (rows row (upto f 0 n)) first (subst (λ (p : ℕ). At bs p (rows row (upto f 0 n))) z (rows-at row width even f from bs 0 n here))
      (rows-length row width even (upto f 0 n) ∙ ap (λ (k : ℕ). width * k) many)
    where
      here : (j : ℕ) → 0 ≤ j → j < 0 + n → At bs (width * j + from) (row (f j))
      here j p q =
          let k = mul-le-mul_left width q in
          let m = mul-suc width j in
          let long : width ≤ length (drop (width * j + from) bs) = rw (length-drop (width * j + from) bs) (omega arith) in
          first-at bs (row (f j)) (width * j + from) width (spelled j (bytes_drop (width * j + from) bs all) long)

  -- a series' generations are a table of their own
  generations-spelled : 80 ≤ length bs → First bs 80 (generations_bytes (generations_from bs))
  unfolding generations_bytes
  generations-spelled h =
      subst (λ (l : List ℕ). First bs 80 (rows u32 l)) (sym (messages-read bs)) (and-table u32 4 number-width (λ k. u32_at bs (4 * k)) 0 20 [] (omega arith) (none_yet bs) there)
    where
      there : (j : ℕ) → (let s = drop (4 * j + 0) bs in AllBytes s → 4 ≤ length s → First s 4 (u32 (u32_at bs (4 * j))))
      there j a le =
          let e : 4 * j + 0 ≡ 4 * j = omega arith in
          subst (λ (x : ℕ). First (drop (4 * j + 0) bs) 4 (u32 x)) (sym (u32-here (4 * j) bs ∙ ap (λ (n : ℕ). u32_at (drop n bs) 0) (sym e))) (id-first (drop (4 * j + 0) bs) a le)

-- The venue -----------------------------------------------------------------------------------

whole : (bs : List ℕ) → AllBytes bs → length bs ≡ venue_size → First bs venue_size (venue_bytes (venue_from bs))
unfolding venue_bytes venue_from rows_at row_at
whole bs all size =
    and_word bs all reached_at _ (omega arith)
    (and-table bs all generations_bytes 80 generations-width _ generations_at 8 _ (omega arith)
    (and-table bs all ratio_bytes 2 ratio-width _ ratios_at 32 _ (omega arith)
    (and-table bs all reserve_bytes 8 reserve-width _ reserves_at 128 _ (omega arith)
    (and-table bs all edition_bytes 10 edition-width _ editions_at 32 _ (omega arith)
    (and_word bs all 2600 _ (omega arith)
    (and-table bs all listed_bytes 9 listed-width _ 2528 8 _ (omega arith)
    (and-table bs all legging_bytes 12 legging-width _ 2336 16 _ (omega arith)
    (and-table bs all complex_bytes 17 complex-width _ 1792 32 _ (omega arith)
    (and-table bs all regular_bytes 14 regular-width _ 0 128 [] (omega arith) (none_yet bs)
    (λ j a h. regular-spelled _ a _ h))
    (λ j a h. complex-spelled _ a _ h))
    (λ j a h. legging-spelled _ a h))
    (λ j a h. listed-spelled _ a h)))
    (λ j a h. edition-spelled _ a h))
    (λ j a h. reserve-spelled _ a _ h))
    (λ j a h. ratio-spelled _ a _ h))
    (λ j a h. generations-spelled _ a h))

pub bytes_back : BytesBack
bytes_back bs all size = let w = whole bs all size in all-at bs (venue_bytes (venue_from bs)) w.at (w.long ∙ sym size)

pub equal-bytes : EqualBytes
equal-bytes a b all-a all-b size-a size-b e = sym (bytes_back a all-a size-a) ∙ ap venue_bytes e ∙ bytes_back b all-b size-b
