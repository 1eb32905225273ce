-- A venue is read back from its bytes.
use mathlib.Core.Path.{◌≡◌, refl, sym, ap, ◌∙◌}
use mathlib.Core.List.{List, [], ◌++◌, append_assoc, append-nil}
use Prim.Native.Nat.{ℕ, suc, ◌+◌, ◌*◌, ◌<◌}
use native.Mathlib.Omega.{arith}
use lib.ListN.{length, get_or, take, drop, length-append, take-append-drop}
use lib.Seq.{ext_get_or, drop-cons, drop_at, length-take-le}
use Rattle.rules.specs.declared.Regular.{Regular}
use Rattle.rules.specs.declared.Complex.{Complex}
use Rattle.rules.specs.declared.Legging.{Legging}
use Rattle.rules.specs.declared.Listed.{Listed}
use Rattle.rules.specs.declared.Edition.{Edition}
use Rattle.rules.specs.declared.Generations.{Generations}
use Rattle.rules.specs.Words.{no_regular, no_complex, no_legging, not_listed, no_edition, no_generations}
use Rattle.rules.specs.Bytes.{u8_at, u16_at, u32_at, as_unsigned, bytes, u32}
use Rattle.rules.specs.Records.{FourBytes}
use Rattle.rules.proofs.Reading.{byte, word, signed_back, signed-small}
use Rattle.wire.proofs.Numbers.{u32-here}
use Rattle.places.specs.Layout.{upto}
use Rattle.places.proofs.Tables.{upto-length, upto-at}
use Rattle.places.proofs.Parts.{venue-is}
use Rattle.venue_bytes.specs.Held.{editions_at, reserves_at, ratios_at, generations_at, reached_at, regular_bytes, complex_bytes, legging_bytes, listed_bytes}
use Rattle.venue_bytes.specs.Held.{edition_bytes, reserve_bytes, ratio_bytes, messages_of, generations_bytes, rows, venue_bytes}
use Rattle.venue_bytes.specs.Held.{row_at, rows_at, venue_from, regular_from, complex_from, legging_from, listed_from, edition_from, generations_from}
use Rattle.venue_bytes.specs.Held.{HeldWhole}
use Rattle.venue_bytes.proofs.Rows.{rows_append, rows-length}
use Rattle.rules.specs.Fields.{RegularFits, ComplexFits, LeggingFits, ListedFits, EditionFits, GenerationsFits}
use Rattle.venue_bytes.proofs.Widths.{regular-width, complex-width, legging-width, listed-width, edition-width, reserve-width, ratio-width}
use Rattle.venue_bytes.proofs.Widths.{number-width, messages-many, message-at, generations-width}
use Rattle.venue_writer.proofs.Whole.{regular-part, complex-part, legging-part, series-part, last-part, editions-part, reserves-part, ratios-part, generations-part}

-- A row ---------------------------------------------------------------------------------------

regular-back : (o : Regular) → RegularFits o → (rest more : List ℕ) → regular_from (regular_bytes o ++ rest) (reserve_bytes o ++ more) ≡ o
unfolding regular_from regular_bytes reserve_bytes bytes u8_at u16_at u32_at
regular-back o f rest more =
    rw (
      word o.id f.id,
      byte o.series f.series,
      byte o.side f.side,
      word o.price f.price,
      word o.quantity f.quantity,
      word o.display f.display,
      word o.reserve f.reserve,
    )

complex-back : (c : Complex) → ComplexFits c → (rest more : List ℕ) → complex_from (complex_bytes c ++ rest) (ratio_bytes c ++ more) ≡ c
unfolding complex_from complex_bytes ratio_bytes bytes u8_at u16_at u32_at
complex-back c f rest more =
    rw (
      word c.id f.id,
      byte c.series1 f.series1,
      byte c.side1 f.side1,
      byte c.series2 f.series2,
      byte c.side2 f.side2,
      byte c.class f.class,
      word (as_unsigned c.limit) (signed-small c.limit f.limit),
      signed_back c.limit f.limit,
      word c.quantity f.quantity,
      byte c.ratio1 f.ratio1,
      byte c.ratio2 f.ratio2,
    )

legging-back : (l : Legging) → LeggingFits l → (rest : List ℕ) → legging_from (legging_bytes l ++ rest) ≡ l
unfolding legging_from legging_bytes bytes u8_at u16_at u32_at
legging-back l f rest = rw (word l.parent f.parent, word l.price f.price, word l.quantity f.quantity)

listed_back : (x : Listed) → ListedFits x → (rest : List ℕ) → listed_from (listed_bytes x ++ rest) ≡ x
unfolding listed_from listed_bytes bytes u8_at u16_at u32_at
listed_back x f rest = rw (byte x.status f.status, word x.bid f.bid, word x.offer f.offer)

edition-back : (e : Edition) → EditionFits e → (rest : List ℕ) → edition_from (edition_bytes e ++ rest) ≡ e
unfolding edition_from edition_bytes bytes u8_at u16_at u32_at
edition-back e f rest = rw (word e.edition f.edition, word e.message f.message, byte e.figure f.figure, byte e.value f.value)

last-back : (x : ℕ) → FourBytes x → (rest : List ℕ) → u32_at (u32 x ++ rest) 0 ≡ x
unfolding bytes u8_at u16_at u32_at
last-back x f rest = word x f

-- A table -------------------------------------------------------------------------------------

-- each row of it is read back
all_back : {A : Type 0} (f : ℕ → A) (none : A) (l : List A) (n : ℕ) → length l ≡ n → ((i : ℕ) → i < length l → f i ≡ get_or l i none) → upto f 0 n ≡ l
all_back f none l n k back =
    ext_get_or none (upto f 0 n) l (upto-length f 0 n ∙ sym k)
    (λ i h. let j : i < n = omega (arith, upto-length f 0 n) in
    let z : 0 + i ≡ i = omega arith in
    upto-at f none 0 n i j ∙ ap f z ∙ back i (omega arith))

module _ {A : Type 0} (row : A → List ℕ) (width : ℕ) (even : (x : A) → length (row x) ≡ width) (none : A) where
  -- from row i on
  row_here : (front rest : List ℕ) (l : List A) (i : ℕ) → i < length l →
      drop (width * i + length front) (front ++ rows row l ++ rest) ≡ row (get_or l i none) ++ (rows row (drop (suc i) l) ++ rest)
  unfolding rows
  row_here front rest l i h =
      let before : List ℕ = rows row (take i l) in
      let after : List ℕ = rows row (drop (suc i) l) in
      let x : A = get_or l i none in
      let split : rows row l ≡ before ++ (row x ++ after) =
      ap (rows row) (sym (take-append-drop i l) ∙ ap (λ (y : List A). take i l ++ y) (drop-cons l i none h)) ∙ rows_append row (take i l) _ in
      let n : length before ≡ width * i = rows-length row width even (take i l) ∙ ap (λ (k : ℕ). width * k) (length-take-le i l (omega arith)) in
      let m : length (front ++ before) ≡ width * i + length front = length-append front before ∙ omega arith in
      ap (λ (y : List ℕ). drop (width * i + length front) (front ++ y ++ rest)) split
      ∙ ap (drop (width * i + length front)) (simp append_assoc)
      ∙ drop_at (front ++ before) (row x ++ (after ++ rest)) (width * i + length front) m

  -- row i of a table that stands behind `front`
  row-at : {B : Type 0} (read : List ℕ → B) (from : ℕ) (bs front rest : List ℕ) (l : List A) (i : ℕ) → bs ≡ front ++ rows row l ++ rest → length front ≡ from →
      i < length l → row_at read from width bs i ≡ read (row (get_or l i none) ++ (rows row (drop (suc i) l) ++ rest))
  unfolding row_at
  row-at read from bs front rest l i e f h =
      ap read (ap (drop (width * i + from)) e ∙ ap (λ (q : ℕ). drop (width * i + q) (front ++ rows row l ++ rest)) (sym f) ∙ row_here front rest l i h)

  table-back : (read : List ℕ → A) (from n : ℕ) (bs front rest : List ℕ) (l : List A) → bs ≡ front ++ rows row l ++ rest → length front ≡ from → length l ≡ n →
      ((i : ℕ) (r : List ℕ) → read (row (get_or l i none) ++ r) ≡ get_or l i none) → upto (row_at read from width bs) 0 n ≡ l
  table-back read from n bs front rest l e f k back =
      all_back (row_at read from width bs) none l n k (λ i h. row-at read from bs front rest l i e f h ∙ back i _)

-- a series' generations are a table of their own
module _ (g : Generations) (f : GenerationsFits g) where
  generations-back : (rest : List ℕ) → generations_from (generations_bytes g ++ rest) ≡ g
  unfolding generations_from generations_bytes
  generations-back rest =
      ap (λ (l : List ℕ). record { messages = l })
      (all_back (λ (k : ℕ). u32_at bs (4 * k)) 0 (messages_of g) 20 (messages-many g) here ∙ all_back (λ (k : ℕ). get_or g.messages k 0) 0 g.messages 20 f.many (λ k h. refl))
    where
      bs : List ℕ
      bs = rows u32 (messages_of g) ++ rest

      here : (k : ℕ) → k < length (messages_of g) → u32_at bs (4 * k) ≡ get_or (messages_of g) k 0
      here k h =
          let z : 4 * k ≡ 4 * k + 0 = omega arith in
          let e = message-at g k (omega (arith, messages-many g)) in
          let w = f.messages k in
          u32-here (4 * k) bs ∙ ap (λ (x : List ℕ). u32_at x 0) (ap (λ (n : ℕ). drop n bs) z ∙ row_here u32 4 number-width 0 [] rest (messages_of g) k h)
          ∙ last-back (get_or (messages_of g) k 0) (omega arith) _

-- a list in two tables
module _ {A : Type 0} (row more : A → List ℕ) (width short : ℕ) (even : (x : A) → length (row x) ≡ width) (flat : (x : A) → length (more x) ≡ short) (none : A) where
  tables-back : (read : List ℕ → List ℕ → A) (from later n : ℕ) (bs front rest before after : List ℕ) (l : List A) → bs ≡ front ++ rows row l ++ rest → length front ≡ from →
      bs ≡ before ++ rows more l ++ after → length before ≡ later → length l ≡ n →
      ((i : ℕ) (r s : List ℕ) → read (row (get_or l i none) ++ r) (more (get_or l i none) ++ s) ≡ get_or l i none) → upto (rows_at read from width later short bs) 0 n ≡ l
  unfolding rows_at
  tables-back read from later n bs front rest before after l e f g h k back =
      all_back (rows_at read from width later short bs) none l n k
      (λ i lt. row-at more short flat none (row_at read from width bs i) later bs before after l i g h lt
      ∙ ap (λ (r : List ℕ → A). r (more (get_or l i none) ++ (rows more (drop (suc i) l) ++ after))) (row-at row width even none read from bs front rest l i e f lt)
      ∙ back i _ _)

-- The venue -----------------------------------------------------------------------------------

pub held_whole : HeldWhole
unfolding venue_from venue_bytes
held_whole v d =
    let R : List ℕ = rows regular_bytes v.regular in
    let C : List ℕ = rows complex_bytes v.complex in
    let L : List ℕ = rows legging_bytes v.legging in
    let S : List ℕ = rows listed_bytes v.series in
    let Z : List ℕ = u32 v.last in
    let E : List ℕ = rows edition_bytes v.editions in
    let H : List ℕ = rows reserve_bytes v.regular in
    let Q : List ℕ = rows ratio_bytes v.complex in
    let N : List ℕ = rows generations_bytes v.generations in
    let P : List ℕ = u32 v.reached in
    let s = d.sized in
    let split : venue_bytes v ≡ R ++ C ++ L ++ S ++ (Z ++ (E ++ H ++ Q ++ N ++ P)) = simp append_assoc in
    venue-is _ _
    (tables-back regular_bytes reserve_bytes 14 8 regular-width reserve-width no_regular regular_from 0 reserves_at 128 (venue_bytes v) []
    (C ++ L ++ S ++ Z ++ E ++ H ++ Q ++ N ++ P) (R ++ C ++ L ++ S ++ Z ++ E) (Q ++ N ++ P) v.regular
    (simp append_assoc) refl (simp append_assoc) (editions-part v s) s.regular (λ i r t. regular-back _ (d.regular i) r t))
    (tables-back complex_bytes ratio_bytes 17 2 complex-width ratio-width no_complex complex_from 1792 ratios_at 32 (venue_bytes v) R
    (L ++ S ++ Z ++ E ++ H ++ Q ++ N ++ P) (R ++ C ++ L ++ S ++ Z ++ E ++ H) (N ++ P) v.complex
    (simp append_assoc) (regular-part v s) (simp append_assoc) (reserves-part v s) s.complex (λ i r t. complex-back _ (d.complex i) r t))
    (table-back legging_bytes 12 legging-width no_legging legging_from 2336 16 (venue_bytes v) (R ++ C) (S ++ Z ++ E ++ H ++ Q ++ N ++ P) v.legging (simp append_assoc) (complex-part v s) s.legging
    (λ i r. legging-back _ (d.legging i) r))
    (table-back listed_bytes 9 listed-width not_listed listed_from 2528 8 (venue_bytes v) (R ++ C ++ L) (Z ++ E ++ H ++ Q ++ N ++ P) v.series (simp append_assoc) (legging-part v s) s.series
    (λ i r. listed_back _ (d.series i) r))
    (table-back edition_bytes 10 edition-width no_edition edition_from editions_at 32 (venue_bytes v) (R ++ C ++ L ++ S ++ Z) (H ++ Q ++ N ++ P)
    v.editions (simp append_assoc) (last-part v s) s.editions
    (λ i r. edition-back _ (d.editions i) r))
    (table-back generations_bytes 80 generations-width no_generations generations_from generations_at 8 (venue_bytes v)
    (R ++ C ++ L ++ S ++ Z ++ E ++ H ++ Q) P v.generations refl (ratios-part v s) s.generations
    (λ i r. generations-back _ (d.generations i) r))
    (u32-here 2600 (venue_bytes v)
    ∙ ap (λ (x : List ℕ). u32_at (drop 2600 x) 0) split
    ∙ ap (λ (x : List ℕ). u32_at x 0) (drop_at (R ++ C ++ L ++ S) (Z ++ (E ++ H ++ Q ++ N ++ P)) 2600 (series-part v s))
    ∙ last-back v.last d.last (E ++ H ++ Q ++ N ++ P))
    (u32-here reached_at (venue_bytes v)
    ∙ ap (λ (x : List ℕ). u32_at x 0) (drop_at (R ++ C ++ L ++ S ++ Z ++ E ++ H ++ Q ++ N) P reached_at (generations-part v s) ∙ sym (append-nil P))
    ∙ last-back v.reached d.reached [])
