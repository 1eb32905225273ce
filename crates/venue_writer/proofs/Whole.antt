-- A venue's bytes from its tables written one after another.
use mathlib.Core.Path.{◌≡◌, sym, ap, ap₂, ◌∙◌}
use mathlib.Core.List.{List, [], ◌∷◌, ◌++◌, append-nil}
use Prim.Native.Nat.{ℕ, ◌+◌, ◌≤◌, ◌<◌}
use native.Mathlib.Numerals.{add-one}
use lib.Seq.{take-suc}
use native.Mathlib.Omega.{arith}
use lib.ListN.{length, get_or, take, drop, length-append, take-append-drop, drop_of_length-le}
use Rattle.rules.specs.declared.Venue.{Venue}
use Rattle.rules.specs.Bytes.{u32, bytes}
use Rattle.records.specs.Seen.{Seen, seen, pasted, ◌plus◌}
use Rattle.records.proofs.SeenLaws.{plus-in, plus-room, pasted-nil, pasted_length, pasted-pasted}
use Rattle.venue_bytes.specs.Held.{editions_at, reserves_at, ratios_at, generations_at, reached_at, venue_size, rows, venue_bytes, Sized}
use Rattle.venue_bytes.specs.Held.{regular_bytes, complex_bytes, legging_bytes, listed_bytes, edition_bytes, reserve_bytes, ratio_bytes, generations_bytes}
use Rattle.venue_bytes.proofs.Rows.{rows-length, rows_append}
use Rattle.venue_bytes.proofs.Widths.{regular-width, complex-width, legging-width, listed-width, edition-width, reserve-width, ratio-width, generations-width}

-- bytes in the place of all
pub all-written : (l m x : List ℕ) (end : ℕ) → seen m end ≡ seen l 0 plus x → length x ≡ length l → m ≡ x
unfolding seen pasted
all-written l m x end p h =
    ap (λ (w : Seen). w.memory) (p ∙ plus-in l x 0 (omega arith)) ∙ ap (λ (y : List ℕ). x ++ y) (drop_of_length-le l {i = 0 + length x} (omega arith)) ∙ append-nil x

-- Bytes written after bytes -------------------------------------------------------------------

module _ (l a m : List ℕ) (at pos : ℕ) (p : seen m pos ≡ seen l at plus a) where
  pub end-of : at + length a ≤ length l → pos ≡ at + length a
  unfolding seen
  end-of h = ap (λ (w : Seen). w.at) (p ∙ plus-in l a at h)

  pub long-of : length m ≡ length l
  unfolding seen
  long-of = ap (λ (w : Seen). length w.memory) p ∙ plus-room (seen l at) a

  module _ (b : List ℕ) (h : at + length (a ++ b) ≤ length l) where
    pub room-after : pos + length b ≤ length m
    room-after = let n = length-append a b in let e = end-of (omega arith) in omega (arith, long-of)

    pub plus-plus : (o : List ℕ) (end : ℕ) → seen o end ≡ seen m pos plus b → seen o end ≡ seen l at plus (a ++ b)
    plus-plus o end q =
        let n = length-append a b in
        let in-a : at + length a ≤ length l = omega arith in
        let long = pasted_length l a at in-a in
        let next : at + length a + length b ≡ at + length (a ++ b) = omega arith in
        q ∙ ap (λ (w : Seen). w plus b) (p ∙ plus-in l a at in-a)
        ∙ plus-in (pasted l at a) b (at + length a) (omega arith)
        ∙ ap₂ seen (pasted-pasted l a b at in-a) next
        ∙ sym (plus-in l (a ++ b) at h)

-- the bytes are these
pub plus_is : (w x : Seen) (a b : List ℕ) → w ≡ x plus a → a ≡ b → w ≡ x plus b
plus_is w x a b p e = p ∙ ap (λ (y : List ℕ). x plus y) e

-- no bytes
pub plus-none : (l : List ℕ) (at : ℕ) → at ≤ length l → seen l at ≡ seen l at plus []
plus-none l at h = let e : at + 0 ≡ at = omega arith in sym (plus-in l [] at (omega arith) ∙ ap₂ seen (pasted-nil l at) e)

-- the rows up to place i, and row i
pub taken-next : {A : Type 0} (l : List A) (x d : A) (i : ℕ) → i < length l → x ≡ get_or l i d → take (i + 1) l ≡ take i l ++ x ∷ []
taken-next l x d i h e = ap (λ (k : ℕ). take k l) (add-one i) ∙ take-suc l i d h ∙ ap (λ y. take i l ++ y ∷ []) (sym e)

module _ {A : Type 0} (row : A → List ℕ) (l : List A) (x : A) (i : ℕ) (is : take (i + 1) l ≡ take i l ++ x ∷ []) where
  pub rows-next : rows row (take i l) ++ row x ≡ rows row (take (i + 1) l)
  unfolding rows
  rows-next = sym (ap (rows row) is ∙ rows_append row (take i l) (x ∷ []) ∙ ap (λ (y : List ℕ). rows row (take i l) ++ y) (append-nil (row x)))

  pub rows-room : length (rows row (take i l) ++ row x) ≤ length (rows row l)
  rows-room =
      let n = length-append (rows row (take (i + 1) l)) (rows row (drop (i + 1) l)) in
      let e = ap (λ (y : List ℕ). length y) (sym (rows_append row (take (i + 1) l) (drop (i + 1) l)) ∙ ap (rows row) (take-append-drop (i + 1) l)) in
      omega (arith, ap length rows-next)

module _ (v : Venue) (sized : Sized v) where
  abbrev R : List ℕ
  R = rows regular_bytes v.regular

  abbrev C : List ℕ
  C = rows complex_bytes v.complex

  abbrev L : List ℕ
  L = rows legging_bytes v.legging

  abbrev S : List ℕ
  S = rows listed_bytes v.series

  abbrev E : List ℕ
  E = rows edition_bytes v.editions

  abbrev H : List ℕ
  H = rows reserve_bytes v.regular

  abbrev Q : List ℕ
  Q = rows ratio_bytes v.complex

  abbrev N : List ℕ
  N = rows generations_bytes v.generations

  pub regular-part : length R ≡ 1792
  regular-part = let n = sized.regular in rows-length regular_bytes 14 regular-width v.regular ∙ omega arith

  pub complex-part : length (R ++ C) ≡ 2336
  complex-part = let n = sized.complex in let k = regular-part in length-append R C ∙ omega (arith, rows-length complex_bytes 17 complex-width v.complex)

  pub legging-part : length (R ++ C ++ L) ≡ 2528
  legging-part = let n = sized.legging in let k = complex-part in length-append (R ++ C) L ∙ omega (arith, rows-length legging_bytes 12 legging-width v.legging)

  pub series-part : length (R ++ C ++ L ++ S) ≡ 2600
  series-part = let n = sized.series in let k = legging-part in length-append (R ++ C ++ L) S ∙ omega (arith, rows-length listed_bytes 9 listed-width v.series)

  pub last-part : length (R ++ C ++ L ++ S ++ u32 v.last) ≡ editions_at
  unfolding bytes
  last-part = let k = series-part in length-append (R ++ C ++ L ++ S) (u32 v.last) ∙ omega arith

  pub editions-part : length (R ++ C ++ L ++ S ++ u32 v.last ++ E) ≡ reserves_at
  editions-part =
      let n = sized.editions in
      let k = last-part in
      length-append (R ++ C ++ L ++ S ++ u32 v.last) E ∙ omega (arith, rows-length edition_bytes 10 edition-width v.editions)

  pub reserves-part : length (R ++ C ++ L ++ S ++ u32 v.last ++ E ++ H) ≡ ratios_at
  reserves-part =
      let n = sized.regular in
      let k = editions-part in
      length-append (R ++ C ++ L ++ S ++ u32 v.last ++ E) H ∙ omega (arith, rows-length reserve_bytes 8 reserve-width v.regular)

  pub ratios-part : length (R ++ C ++ L ++ S ++ u32 v.last ++ E ++ H ++ Q) ≡ generations_at
  ratios-part =
      let n = sized.complex in
      let k = reserves-part in
      length-append (R ++ C ++ L ++ S ++ u32 v.last ++ E ++ H) Q ∙ omega (arith, rows-length ratio_bytes 2 ratio-width v.complex)

  pub generations-part : length (R ++ C ++ L ++ S ++ u32 v.last ++ E ++ H ++ Q ++ N) ≡ reached_at
  generations-part =
      let n = sized.generations in
      let k = ratios-part in
      length-append (R ++ C ++ L ++ S ++ u32 v.last ++ E ++ H ++ Q) N ∙ omega (arith, rows-length generations_bytes 80 generations-width v.generations)

  pub venue-length : length (venue_bytes v) ≡ venue_size
  unfolding venue_bytes bytes
  venue-length = let k = generations-part in length-append (R ++ C ++ L ++ S ++ u32 v.last ++ E ++ H ++ Q ++ N) (u32 v.reached) ∙ omega arith

  -- each table is put after those before it
  module _ (l : List ℕ) (big : length l ≡ venue_size) (m : List ℕ) (pos : ℕ) where
    complex-fits : 0 + length (R ++ C) ≤ length l
    complex-fits = omega (arith, big, complex-part)

    pub complex-room : seen m pos ≡ seen l 0 plus R → pos + length C ≤ length m
    complex-room p = room-after l R m 0 pos p C complex-fits

    pub complex-put : seen m pos ≡ seen l 0 plus R → (o : List ℕ) (end : ℕ) → seen o end ≡ seen m pos plus C → seen o end ≡ seen l 0 plus (R ++ C)
    complex-put p = plus-plus l R m 0 pos p C complex-fits

    legging-fits : 0 + length (R ++ C ++ L) ≤ length l
    legging-fits = omega (arith, big, legging-part)

    pub legging-room : seen m pos ≡ seen l 0 plus (R ++ C) → pos + length L ≤ length m
    legging-room p = room-after l (R ++ C) m 0 pos p L legging-fits

    pub legging-put : seen m pos ≡ seen l 0 plus (R ++ C) → (o : List ℕ) (end : ℕ) → seen o end ≡ seen m pos plus L → seen o end ≡ seen l 0 plus (R ++ C ++ L)
    legging-put p = plus-plus l (R ++ C) m 0 pos p L legging-fits

    series-fits : 0 + length (R ++ C ++ L ++ S) ≤ length l
    series-fits = omega (arith, big, series-part)

    pub series-room : seen m pos ≡ seen l 0 plus (R ++ C ++ L) → pos + length S ≤ length m
    series-room p = room-after l (R ++ C ++ L) m 0 pos p S series-fits

    pub series-put : seen m pos ≡ seen l 0 plus (R ++ C ++ L) → (o : List ℕ) (end : ℕ) → seen o end ≡ seen m pos plus S → seen o end ≡ seen l 0 plus (R ++ C ++ L ++ S)
    series-put p = plus-plus l (R ++ C ++ L) m 0 pos p S series-fits

    last-fits : 0 + length (R ++ C ++ L ++ S ++ u32 v.last) ≤ length l
    last-fits = omega (arith, big, last-part)

    pub last-put : seen m pos ≡ seen l 0 plus (R ++ C ++ L ++ S) → (o : List ℕ) (end : ℕ) → seen o end ≡ seen m pos plus (u32 v.last) → seen o end ≡ seen l 0 plus (R ++ C ++ L ++ S ++ u32 v.last)
    last-put p = plus-plus l (R ++ C ++ L ++ S) m 0 pos p (u32 v.last) last-fits

    editions-fits : 0 + length (R ++ C ++ L ++ S ++ u32 v.last ++ E) ≤ length l
    editions-fits = omega (arith, big, editions-part)

    pub editions-room : seen m pos ≡ seen l 0 plus (R ++ C ++ L ++ S ++ u32 v.last) → pos + length E ≤ length m
    editions-room p = room-after l (R ++ C ++ L ++ S ++ u32 v.last) m 0 pos p E editions-fits

    pub editions-put : seen m pos ≡ seen l 0 plus (R ++ C ++ L ++ S ++ u32 v.last) → (o : List ℕ) (end : ℕ) → seen o end ≡ seen m pos plus E → seen o end ≡ seen l 0 plus (R ++ C ++ L ++ S ++ u32 v.last ++ E)
    editions-put p = plus-plus l (R ++ C ++ L ++ S ++ u32 v.last) m 0 pos p E editions-fits

    reserves-fits : 0 + length (R ++ C ++ L ++ S ++ u32 v.last ++ E ++ H) ≤ length l
    reserves-fits = omega (arith, big, reserves-part)

    pub reserves-room : seen m pos ≡ seen l 0 plus (R ++ C ++ L ++ S ++ u32 v.last ++ E) → pos + length H ≤ length m
    reserves-room p = room-after l (R ++ C ++ L ++ S ++ u32 v.last ++ E) m 0 pos p H reserves-fits

    pub reserves-put : seen m pos ≡ seen l 0 plus (R ++ C ++ L ++ S ++ u32 v.last ++ E) → (o : List ℕ) (end : ℕ) → seen o end ≡ seen m pos plus H → seen o end ≡ seen l 0 plus (R ++ C ++ L ++ S ++ u32 v.last ++ E ++ H)
    reserves-put p = plus-plus l (R ++ C ++ L ++ S ++ u32 v.last ++ E) m 0 pos p H reserves-fits

    ratios-fits : 0 + length (R ++ C ++ L ++ S ++ u32 v.last ++ E ++ H ++ Q) ≤ length l
    ratios-fits = omega (arith, big, ratios-part)

    pub ratios-room : seen m pos ≡ seen l 0 plus (R ++ C ++ L ++ S ++ u32 v.last ++ E ++ H) → pos + length Q ≤ length m
    ratios-room p = room-after l (R ++ C ++ L ++ S ++ u32 v.last ++ E ++ H) m 0 pos p Q ratios-fits

    pub ratios-put : seen m pos ≡ seen l 0 plus (R ++ C ++ L ++ S ++ u32 v.last ++ E ++ H) → (o : List ℕ) (end : ℕ) → seen o end ≡ seen m pos plus Q → seen o end ≡ seen l 0 plus (R ++ C ++ L ++ S ++ u32 v.last ++ E ++ H ++ Q)
    ratios-put p = plus-plus l (R ++ C ++ L ++ S ++ u32 v.last ++ E ++ H) m 0 pos p Q ratios-fits

    generations-fits : 0 + length (R ++ C ++ L ++ S ++ u32 v.last ++ E ++ H ++ Q ++ N) ≤ length l
    generations-fits = omega (arith, big, generations-part)

    pub generations-room : seen m pos ≡ seen l 0 plus (R ++ C ++ L ++ S ++ u32 v.last ++ E ++ H ++ Q) → pos + length N ≤ length m
    generations-room p = room-after l (R ++ C ++ L ++ S ++ u32 v.last ++ E ++ H ++ Q) m 0 pos p N generations-fits

    pub generations-put : seen m pos ≡ seen l 0 plus (R ++ C ++ L ++ S ++ u32 v.last ++ E ++ H ++ Q) → (o : List ℕ) (end : ℕ) → seen o end ≡ seen m pos plus N → seen o end ≡ seen l 0 plus (R ++ C ++ L ++ S ++ u32 v.last ++ E ++ H ++ Q ++ N)
    generations-put p = plus-plus l (R ++ C ++ L ++ S ++ u32 v.last ++ E ++ H ++ Q) m 0 pos p N generations-fits

    reached-fits : 0 + length (R ++ C ++ L ++ S ++ u32 v.last ++ E ++ H ++ Q ++ N ++ u32 v.reached) ≤ length l
    unfolding venue_bytes
    reached-fits = omega (arith, big, venue-length)

    pub reached-put : seen m pos ≡ seen l 0 plus (R ++ C ++ L ++ S ++ u32 v.last ++ E ++ H ++ Q ++ N) → (o : List ℕ) (end : ℕ) → seen o end ≡ seen m pos plus (u32 v.reached) → seen o end ≡ seen l 0 plus (R ++ C ++ L ++ S ++ u32 v.last ++ E ++ H ++ Q ++ N ++ u32 v.reached)
    reached-put p = plus-plus l (R ++ C ++ L ++ S ++ u32 v.last ++ E ++ H ++ Q ++ N) m 0 pos p (u32 v.reached) reached-fits

    pub venue-put : seen m pos ≡ seen l 0 plus (R ++ C ++ L ++ S ++ u32 v.last ++ E ++ H ++ Q ++ N ++ u32 v.reached) → m ≡ venue_bytes v
    unfolding venue_bytes
    venue-put p = all-written l m (R ++ C ++ L ++ S ++ u32 v.last ++ E ++ H ++ Q ++ N ++ u32 v.reached) pos p (venue-length ∙ sym big)
