-- Laws of what is written of a lent slice: one write, any number of them, and writes to a part of it.
use mathlib.Core.Path.{◌≡◌, refl, sym, ap, ap₂, ◌∙◌}
use mathlib.Core.Bool.{Bool, true, false}
use mathlib.Core.List.{List, [], ◌∷◌, ◌++◌, append_assoc, append-nil}
use Prim.Native.Nat.{ℕ, suc, ◌+◌, ◌-◌, ◌*◌, ◌≤◌, ◌<◌}
use native.Mathlib.Omega.{arith}
use native.Mathlib.Numerals.{add-one}
use lib.Dec.{leb}
use lib.ListN.{length, get_or, take, drop, replicate, length-append, length-drop, drop_of_length-le, take-append-drop}
use lib.Seq.{take-suc, take_all, length-take-le, take-take, take_at, drop_at, drop-drop, take-append-add, drop-append-add}
use borrow.Author.Tests.{le-leb, lt-leb, leb-true, leb-false}
use borrow.Rule.Slice.PartMut.{put_mid}
use Rattle.rules.specs.Bytes.{u32, framed, bytes}
use Rattle.rules.specs.Records.{Report, answer, encode, encode_all, sheet}
use Rattle.records.specs.Seen.{Seen, seen, pasted, word_bytes, ◌plus◌, ◌writes◌}

-- One write -----------------------------------------------------------------------------------

-- the bytes fit
pub plus-in : (l bs : List ℕ) (at : ℕ) → at + length bs ≤ length l → seen l at plus bs ≡ seen (pasted l at bs) (at + length bs)
unfolding seen ◌plus◌
plus-in l bs at h = rw (le-leb _ _ h)

-- they do not
pub plus-out : (l bs : List ℕ) (at : ℕ) → length l < at + length bs → seen l at plus bs ≡ seen l (suc (length l))
unfolding seen ◌plus◌
plus-out l bs at h = rw (lt-leb _ _ h)

-- a record's bytes are the record written
pub emitted : (w x : Seen) (bs : List ℕ) (r : Report) → x ≡ w plus bs → bs ≡ encode r → x ≡ w writes (r ∷ [])
unfolding ◌writes◌
emitted w x bs r p q = p ∙ ap (λ (y : List ℕ). w plus y) q

-- Bytes in place of others --------------------------------------------------------------------

module _ (l bs : List ℕ) (at : ℕ) (inside : at ≤ length l) where
  front_length : length (take at l ++ bs) ≡ at + length bs
  front_length = length-append (take at l) bs ∙ ap (λ (n : ℕ). n + length bs) (length-take-le at l inside)

  -- the bytes before them are kept, they stand after these, and the bytes after them are kept
  pub pasted_below : take at (pasted l at bs) ≡ take at l
  unfolding pasted
  pasted_below = ap (take at) (append_assoc (take at l) bs _) ∙ take_at (take at l) _ at (length-take-le at l inside)

  pub pasted-to : take (at + length bs) (pasted l at bs) ≡ take at l ++ bs
  unfolding pasted
  pasted-to = take_at (take at l ++ bs) _ _ front_length

  pub pasted-from : drop at (pasted l at bs) ≡ bs ++ drop (at + length bs) l
  unfolding pasted
  pasted-from = ap (drop at) (append_assoc (take at l) bs _) ∙ drop_at (take at l) _ at (length-take-le at l inside)

  pub pasted_above : drop (at + length bs) (pasted l at bs) ≡ drop (at + length bs) l
  unfolding pasted
  pasted_above = drop_at (take at l ++ bs) _ _ front_length

-- the slice has as many bytes as before
pub pasted_length : (l bs : List ℕ) (at : ℕ) → at + length bs ≤ length l → length (pasted l at bs) ≡ length l
unfolding pasted
pasted_length l bs at h = simp (length-append, length-drop) (omega (arith, length-take-le at l (omega arith)))

-- bytes copied to the part of them from a on
pub pasted-part : (l ys bs : List ℕ) (a k : ℕ) → ys ≡ bs → k ≡ length bs → put_mid a k l ys ≡ pasted l a bs
unfolding pasted
pasted-part l ys bs a k e f =
    ap₂ (λ (x : List ℕ) (n : ℕ). take a l ++ (x ++ drop n (drop a l))) e f
    ∙ ap (λ (x : List ℕ). take a l ++ (bs ++ x)) (drop-drop (length bs) a l)
    ∙ sym (append_assoc (take a l) bs (drop (a + length bs) l))

-- no bytes
pub pasted-nil : (l : List ℕ) (at : ℕ) → pasted l at [] ≡ l
unfolding pasted
pasted-nil l at =
    let e : at + 0 ≡ at = omega arith in
    ap (λ (k : ℕ). take at l ++ [] ++ drop k l) e ∙ ap (λ (x : List ℕ). x ++ drop at l) (append-nil (take at l)) ∙ take-append-drop at l

pasted-is : (l bs : List ℕ) (at : ℕ) → pasted l at bs ≡ take at l ++ bs ++ drop (at + length bs) l
unfolding pasted
pasted-is l bs at = refl

-- bytes, and others right after them
pub pasted-pasted : (l a b : List ℕ) (at : ℕ) → at + length a ≤ length l → pasted (pasted l at a) (at + length a) b ≡ pasted l at (a ++ b)
pasted-pasted l a b at h =
    pasted-is (pasted l at a) b (at + length a)
    ∙ ap (λ (x : List ℕ). x ++ b ++ drop (at + length a + length b) (pasted l at a)) (pasted-to l a at inside)
    ∙ ap (λ (x : List ℕ). take at l ++ a ++ b ++ x) rest
    ∙ ap (λ (x : List ℕ). x ++ drop (at + length (a ++ b)) l) (append_assoc (take at l) a b)
    ∙ sym (pasted-is l (a ++ b) at)
  where
    inside : at ≤ length l
    inside = omega arith

    ends : at + length a + length b ≡ at + length (a ++ b)
    ends = omega (arith, length-append a b)

    rest : drop (at + length a + length b) (pasted l at a) ≡ drop (at + length (a ++ b)) l
    rest =
        sym (drop-drop (length b) (at + length a) (pasted l at a)) ∙ ap (drop (length b)) (pasted_above l a at inside)
        ∙ drop-drop (length b) (at + length a) l
        ∙ ap (λ (n : ℕ). drop n l) ends

-- Bytes and then numbers of four bytes, as one write ------------------------------------------

words-length : (ws : List ℕ) → length (word_bytes ws) ≡ 4 * length ws
unfolding word_bytes bytes
words-length [] = refl
words-length (x ∷ ws) = let e = words-length ws in omega arith

words_append : (a b : List ℕ) → word_bytes (a ++ b) ≡ word_bytes a ++ word_bytes b
unfolding word_bytes
words_append [] b = refl
words_append (x ∷ a) b = ap (λ (y : List ℕ). u32 x ++ y) (words_append a b) ∙ sym (append_assoc (u32 x) (word_bytes a) (word_bytes b))

-- i of the words stand from `at` on
pub record Laid (l : List ℕ) (at : ℕ) (words out : List ℕ) (i : ℕ) : Type 0 where
  pub some_words : i ≤ length words
  pub memory-is : out ≡ pasted l at (word_bytes (take i words))

pub laid-start : (l words : List ℕ) (at : ℕ) → Laid l at words l 0
unfolding word_bytes
laid-start l words at = record { some_words = omega arith; memory-is = sym (pasted-nil l at) }

module _ (l words : List ℕ) (at : ℕ) (fits : at + 4 * length words ≤ length l) (out : List ℕ) (i : ℕ) (laid : Laid l at words out i) where
  laid-length : length (word_bytes (take i words)) ≡ 4 * i
  laid-length = words-length (take i words) ∙ ap (λ (k : ℕ). 4 * k) (length-take-le i words laid.some_words)

  pub laid-room : length out ≡ length l
  laid-room =
      let h = laid.some_words in
      ap length laid.memory-is ∙ pasted_length l (word_bytes (take i words)) at (omega (arith, fits, laid-length))

  -- one more
  pub laid_next : (m : List ℕ) → i < length words → m ≡ pasted out (at + 4 * i) (u32 (get_or words i 0)) → Laid l at words m (i + 1)
  unfolding word_bytes
  laid_next m h e =
      let a : List ℕ = word_bytes (take i words) in
      let b : List ℕ = u32 (get_or words i 0) in
      let n : length a ≡ 4 * i = laid-length in
      let p : at + 4 * i ≡ at + length a = omega arith in
      let t : take (i + 1) words ≡ take i words ++ (get_or words i 0 ∷ []) = rw add-one (take-suc words i 0 h) in
      let w : word_bytes (take (i + 1) words) ≡ a ++ b =
      ap word_bytes t ∙ words_append (take i words) (get_or words i 0 ∷ []) ∙ ap (λ (y : List ℕ). a ++ y) (append-nil b) in
      record {
        some_words = omega arith;
        memory-is =
            e ∙ ap₂ (λ (x : List ℕ) (k : ℕ). pasted x k b) laid.memory-is p ∙ pasted-pasted l a b at (omega (arith, fits))
            ∙ ap (pasted l at) (sym w);
      }

  -- all of them
  pub laid_end : length words ≤ i → out ≡ pasted l at (word_bytes words)
  laid_end h = laid.memory-is ∙ ap (λ (x : List ℕ). pasted l at (word_bytes x)) (take_all i words h)

module _ (l head words : List ℕ) (at : ℕ) where
  both-length : length (head ++ word_bytes words) ≡ length head + 4 * length words
  both-length = length-append head (word_bytes words) ∙ ap (λ (k : ℕ). length head + k) (words-length words)

  -- a head and words after it
  pub head-words : (m o : List ℕ) (pos : ℕ) → at + length head + 4 * length words ≤ length l → seen m pos ≡ seen l at plus head →
      o ≡ pasted m pos (word_bytes words) → seen o (pos + 4 * length words) ≡ seen l at plus (head ++ word_bytes words)
  unfolding seen
  head-words m o pos fits e q =
      let s : seen m pos ≡ seen (pasted l at head) (at + length head) = e ∙ plus-in l head at (omega arith) in
      let z : pos ≡ at + length head = ap (λ (w : Seen). w.at) s in
      let n : pos + 4 * length words ≡ at + length (head ++ word_bytes words) = omega (arith, both-length) in
      ap₂ seen (q ∙ ap₂ (λ (x : List ℕ) (k : ℕ). pasted x k (word_bytes words)) (ap (λ (w : Seen). w.memory) s) z
      ∙ pasted-pasted l head (word_bytes words) at (omega arith)) n
      ∙ sym (plus-in l (head ++ word_bytes words) at (omega (arith, both-length)))

  -- there is room for the words after the head
  pub head-room : (m : List ℕ) (pos : ℕ) → at + length head + 4 * length words ≤ length l → seen m pos ≡ seen l at plus head →
      pos + 4 * length words ≤ length m
  unfolding seen
  head-room m pos fits e =
      let s : seen m pos ≡ seen (pasted l at head) (at + length head) = e ∙ plus-in l head at (omega arith) in
      let z : pos ≡ at + length head = ap (λ (w : Seen). w.at) s in
      let y : length m ≡ length l = ap (λ (w : Seen). length w.memory) s ∙ pasted_length l head at (omega arith) in
      omega arith

  -- they do not fit
  pub words-out : length l < at + length head + 4 * length words → seen l (suc (length l)) ≡ seen l at plus (head ++ word_bytes words)
  words-out h = sym (plus-out l (head ++ word_bytes words) at (omega (arith, both-length)))

-- Any number of writes ------------------------------------------------------------------------

pub writes-nil : (w : Seen) → w writes [] ≡ w
unfolding ◌writes◌
writes-nil w = refl

pub writes-cons : (w : Seen) (r : Report) (rs : List Report) → w writes (r ∷ rs) ≡ (w plus encode r) writes rs
unfolding ◌writes◌
writes-cons w r rs = refl

-- two lists of records are one
pub writes-writes : (w : Seen) (a b : List Report) → w writes a writes b ≡ w writes (a ++ b)
unfolding ◌writes◌
writes-writes w [] b = refl
writes-writes w (r ∷ a) b = writes-writes (w plus encode r) a b

-- the length of the slice is kept
pub plus-room : (w : Seen) (bs : List ℕ) → length (w plus bs).memory ≡ length w.memory
unfolding seen
plus-room w bs = go (leb (w.at + length bs) (length w.memory)) refl
  where
    go : (t : Bool) → leb (w.at + length bs) (length w.memory) ≡ t → length (w plus bs).memory ≡ length w.memory
    go true e =
        let h : w.at + length bs ≤ length w.memory = leb-true _ _ e in
        ap (λ (x : Seen). length x.memory) (plus-in w.memory bs w.at h) ∙ pasted_length w.memory bs w.at h
    go false e = ap (λ (x : Seen). length x.memory) (plus-out w.memory bs w.at (leb-false _ _ e))

pub writes-room : (w : Seen) (rs : List Report) → length (w writes rs).memory ≡ length w.memory
unfolding ◌writes◌
writes-room w [] = refl
writes-room w (r ∷ rs) = writes-room (w plus encode r) rs ∙ plus-room w (encode r)

-- the records fit: their bytes stand one after another from the position on
pub writes-in : (l : List ℕ) (at : ℕ) (rs : List Report) → at + length (encode_all rs) ≤ length l →
    seen l at writes rs ≡ seen (pasted l at (encode_all rs)) (at + length (encode_all rs))
unfolding ◌writes◌ encode_all
writes-in l at [] h = let e : at ≡ at + 0 = omega arith in ap₂ seen (sym (pasted-nil l at)) e
writes-in l at (r ∷ rs) h =
    let a : List ℕ = encode r in
    let b : List ℕ = encode_all rs in
    let n = length-append a b in
    let k : at + length a ≤ length l = omega arith in
    let e : at + length a + length b ≡ at + length (a ++ b) = omega arith in
    let p : length (pasted l at a) ≡ length l = pasted_length l a at k in
    ap (λ (w : Seen). w writes rs) (plus-in l a at k)
    ∙ writes-in (pasted l at a) (at + length a) rs (omega arith)
    ∙ ap₂ seen (pasted-pasted l a b at k) e

-- a position past the end stays there, and no byte changes
pub stuck : (l : List ℕ) (rs : List Report) → seen l (suc (length l)) writes rs ≡ seen l (suc (length l))
unfolding ◌writes◌
stuck l [] = refl
stuck l (r ∷ rs) = ap (λ (w : Seen). w writes rs) (plus-out l (encode r) (suc (length l)) (omega arith)) ∙ stuck l rs

-- they do not fit: the position is past the end
pub writes-out : (l : List ℕ) (at : ℕ) (rs : List Report) → length l < at + length (encode_all rs) → length l < (seen l at writes rs).at
unfolding seen ◌writes◌ encode_all
writes-out l at [] h = omega arith
writes-out l at (r ∷ rs) h = go (leb (at + length a) (length l)) refl (λ k. writes-out (pasted l at a) (at + length a) rs (more k))
  where
    a : List ℕ
    a = encode r

    more : (k : at + length a ≤ length l) → length (pasted l at a) < at + length a + length (encode_all rs)
    more k = let p = pasted_length l a at k in let n = length-append a (encode_all rs) in omega arith

    go : (t : Bool) → leb (at + length a) (length l) ≡ t →
        (at + length a ≤ length l → length (pasted l at a) < (seen (pasted l at a) (at + length a) writes rs).at) →
        length l < ((seen l at plus a) writes rs).at
    go true e rest =
        let k : at + length a ≤ length l = leb-true _ _ e in
        let z : ((seen l at plus a) writes rs).at ≡ (seen (pasted l at a) (at + length a) writes rs).at =
        ap (λ (w : Seen). (w writes rs).at) (plus-in l a at k) in
        let i = rest k in
        let p = pasted_length l a at k in
        omega arith
    go false e rest =
        let z : ((seen l at plus a) writes rs).at ≡ suc (length l) =
        ap (λ (w : Seen). (w writes rs).at) (plus-out l a at (leb-false _ _ e)) ∙ ap (λ (w : Seen). w.at) (stuck l rs) in
        omega arith

-- a position is never more than one past the end, if it was not at first; so one that is past the end is known
plus-most : (w : Seen) (bs : List ℕ) → (w plus bs).at ≤ suc (length w.memory)
unfolding seen
plus-most w bs = go (leb (w.at + length bs) (length w.memory)) refl
  where
    go : (t : Bool) → leb (w.at + length bs) (length w.memory) ≡ t → (w plus bs).at ≤ suc (length w.memory)
    go true e =
        let h = leb-true (w.at + length bs) (length w.memory) e in
        let z : (w plus bs).at ≡ w.at + length bs = ap (λ (x : Seen). x.at) (plus-in w.memory bs w.at h) in
        omega arith
    go false e =
        let z : (w plus bs).at ≡ suc (length w.memory) = ap (λ (x : Seen). x.at) (plus-out w.memory bs w.at (leb-false _ _ e)) in
        omega arith

pub writes-most : (w : Seen) (rs : List Report) → w.at ≤ suc (length w.memory) → (w writes rs).at ≤ suc (length w.memory)
unfolding ◌writes◌
writes-most w [] h = h
writes-most w (r ∷ rs) h =
    let e = plus-room w (encode r) in
    let p = plus-most w (encode r) in
    let i = writes-most (w plus encode r) rs (omega arith) in
    omega arith

-- the bytes before the position are kept, whether the records fit or not
pub writes_below : (l : List ℕ) (at : ℕ) (rs : List Report) (k : ℕ) → k ≤ at → k ≤ length l → take k (seen l at writes rs).memory ≡ take k l
unfolding seen ◌writes◌
writes_below l at [] k h i = refl
writes_below l at (r ∷ rs) k h i =
    go (leb (at + length a) (length l)) refl
    (λ f. writes_below (pasted l at a) (at + length a) rs k (omega arith) (rw (pasted_length l a at f) i))
  where
    a : List ℕ
    a = encode r

    -- by one record that fits
    one : at + length a ≤ length l → take k (pasted l at a) ≡ take k l
    one f =
        let j : at ≤ length l = omega arith in
        sym (take-take k at (pasted l at a) h) ∙ ap (take k) (pasted_below l a at j) ∙ take-take k at l h

    go : (t : Bool) → leb (at + length a) (length l) ≡ t →
        (at + length a ≤ length l → take k (seen (pasted l at a) (at + length a) writes rs).memory ≡ take k (pasted l at a)) →
        take k ((seen l at plus a) writes rs).memory ≡ take k l
    go true e rest =
        let f : at + length a ≤ length l = leb-true _ _ e in
        ap (λ (w : Seen). take k (w writes rs).memory) (plus-in l a at f) ∙ rest f ∙ one f
    go false e rest =
        ap (λ (w : Seen). take k (w writes rs).memory) (plus-out l a at (leb-false _ _ e)) ∙ ap (λ (w : Seen). take k w.memory) (stuck l rs)

-- What an equation of writers says of the bytes -----------------------------------------------

-- the records were written: they fit, and nothing else changed
pub record Wrote (l : List ℕ) (at : ℕ) (rs : List Report) (m : List ℕ) (end : ℕ) : Type 0 where
  pub fits : at + length (encode_all rs) ≤ length l
  pub end_is : end ≡ at + length (encode_all rs)
  pub memory-is : m ≡ pasted l at (encode_all rs)

module _ (l m : List ℕ) (at end : ℕ) (rs : List Report) (e : seen m end ≡ seen l at writes rs) where
  same_at : end ≡ (seen l at writes rs).at
  unfolding seen
  same_at = ap (λ (w : Seen). w.at) e

  same_memory : m ≡ (seen l at writes rs).memory
  unfolding seen
  same_memory = ap (λ (w : Seen). w.memory) e

  pub seen-room : length m ≡ length l
  unfolding seen
  seen-room = ap length same_memory ∙ writes-room (seen l at) rs

  pub end-most : at ≤ suc (length l) → end ≤ suc (length l)
  unfolding seen
  end-most h = let i = writes-most (seen l at) rs h in let z = same_at in omega arith

  pub wrote : end ≤ length l → Wrote l at rs m end
  unfolding seen
  wrote h = go (leb (at + length (encode_all rs)) (length l)) refl
    where
      go : (t : Bool) → leb (at + length (encode_all rs)) (length l) ≡ t → Wrote l at rs m end
      go true b =
          let f : at + length (encode_all rs) ≤ length l = leb-true _ _ b in
          record {
            fits = f;
            end_is = same_at ∙ ap (λ (w : Seen). w.at) (writes-in l at rs f);
            memory-is = same_memory ∙ ap (λ (w : Seen). w.memory) (writes-in l at rs f);
          }
      go false b = let z = writes-out l at rs (leb-false _ _ b) in let y = same_at in absurd (omega arith)

  -- they did not fit
  pub overflowed : length l < end → length l < at + length (encode_all rs)
  unfolding seen
  overflowed h = go (leb (at + length (encode_all rs)) (length l)) refl
    where
      go : (t : Bool) → leb (at + length (encode_all rs)) (length l) ≡ t → length l < at + length (encode_all rs)
      go true b =
          let f : at + length (encode_all rs) ≤ length l = leb-true _ _ b in
          let z = same_at ∙ ap (λ (w : Seen). w.at) (writes-in l at rs f) in
          absurd (omega arith)
      go false b = leb-false _ _ b

-- Records written from the start of a slice, and zeros after them, are its sheet; also if what stands after them (in o) has changed since,
-- as where a later message's records did not fit.
pub sheet-left : (l m o : List ℕ) (end : ℕ) (rs : List Report) → seen m end ≡ seen l 0 writes rs → end ≤ length l →
    length o ≡ length m → take end o ≡ take end m → take end o ++ replicate (length o - end) 0 ≡ sheet (length l) rs
unfolding sheet
sheet-left l m o end rs e h k t =
    let w = wrote l m 0 end rs e h in
    let bs : List ℕ = encode_all rs in
    let f : take end o ≡ bs = t ∙ ap₂ take w.end_is w.memory-is ∙ pasted-to l bs 0 (omega arith) in
    let n : length o - end ≡ length l - length bs = (let r = seen-room l m 0 end rs e in let q = w.end_is in omega arith) in
    ap₂ (λ (x : List ℕ) (j : ℕ). x ++ replicate j 0) f n

-- A part of a slice ---------------------------------------------------------------------------

-- what is seen of a part that stands after p, as seen of the whole
unfoldable pub onto : List ℕ → Seen → Seen
onto p w = seen (p ++ w.memory) (length p + w.at)

pub onto-plus : (p : List ℕ) (w : Seen) (bs : List ℕ) → onto p (w plus bs) ≡ onto p w plus bs
unfolding onto seen
onto-plus p w bs = go (leb (w.at + length bs) (length w.memory)) refl
  where
    l : List ℕ
    l = w.memory

    n : length (p ++ l) ≡ length p + length l
    n = length-append p l

    front : take (length p + w.at) (p ++ l) ≡ p ++ take w.at l
    front = take-append-add p l w.at

    back : drop (length p + w.at + length bs) (p ++ l) ≡ drop (w.at + length bs) l
    back =
        let e : length p + w.at + length bs ≡ length p + (w.at + length bs) = omega arith in
        ap (λ (k : ℕ). drop k (p ++ l)) e ∙ drop-append-add p l (w.at + length bs)

    moved : pasted (p ++ l) (length p + w.at) bs ≡ p ++ pasted l w.at bs
    moved =
        pasted-is (p ++ l) bs (length p + w.at)
        ∙ ap₂ (λ (x y : List ℕ). x ++ bs ++ y) front back
        ∙ ap (λ (x : List ℕ). x ++ drop (w.at + length bs) l) (append_assoc p (take w.at l) bs)
        ∙ append_assoc p (take w.at l ++ bs) (drop (w.at + length bs) l)
        ∙ ap (λ (x : List ℕ). p ++ x) (sym (pasted-is l bs w.at))

    go : (t : Bool) → leb (w.at + length bs) (length l) ≡ t → onto p (w plus bs) ≡ onto p w plus bs
    go true e =
        let h : w.at + length bs ≤ length l = leb-true _ _ e in
        let k : length p + (w.at + length bs) ≡ length p + w.at + length bs = omega arith in
        ap (onto p) (plus-in l bs w.at h) ∙ ap₂ seen (sym moved) k ∙ sym (plus-in (p ++ l) bs (length p + w.at) (omega (arith, n)))
    go false e =
        let h : length l < w.at + length bs = leb-false _ _ e in
        let k : length p + suc (length l) ≡ suc (length (p ++ l)) = omega (arith, n) in
        ap (onto p) (plus-out l bs w.at h) ∙ ap (seen (p ++ l)) k ∙ sym (plus-out (p ++ l) bs (length p + w.at) (omega (arith, n)))

pub onto-writes : (p : List ℕ) (w : Seen) (rs : List Report) → onto p (w writes rs) ≡ onto p w writes rs
unfolding ◌writes◌
onto-writes p w [] = refl
onto-writes p w (r ∷ rs) = onto-writes p (w plus encode r) rs ∙ ap (λ (x : Seen). x writes rs) (onto-plus p w (encode r))

-- the tail of a slice from a on: what is lent of it is all of it
pub part-all : (l : List ℕ) (a : ℕ) → take (length l - a) (drop a l) ≡ drop a l
part-all l a = take_all (length l - a) (drop a l) (rw length-drop (omega arith))

-- and it comes back after what stands before it
pub tail-back : (l ys : List ℕ) (a : ℕ) → put_mid a (length l - a) l ys ≡ take a l ++ ys
tail-back l ys a =
    ap (λ (x : List ℕ). take a l ++ (ys ++ x)) (drop_of_length-le (drop a l) {i = length l - a} (rw length-drop (omega arith)))
    ∙ ap (λ (x : List ℕ). take a l ++ x) (append-nil ys)

-- what stands before it is as it was, and then comes what was written to it
pub tail-front : (l ys : List ℕ) (a : ℕ) → a ≤ length l → take a (put_mid a (length l - a) l ys) ≡ take a l
tail-front l ys a h = ap (take a) (tail-back l ys a) ∙ take_at (take a l) ys a (length-take-le a l h)

pub tail_more : (l ys : List ℕ) (a w : ℕ) → a ≤ length l → take (a + w) (put_mid a (length l - a) l ys) ≡ take a l ++ take w ys
tail_more l ys a w h =
    ap (take (a + w)) (tail-back l ys a)
    ∙ ap (λ (k : ℕ). take (k + w) (take a l ++ ys)) (sym (length-take-le a l h))
    ∙ take-append-add (take a l) ys w

-- records written from the start of the tail are records written to the whole from a on
pub tail-writes : (l ys : List ℕ) (a w : ℕ) (rs : List Report) → a ≤ length l →
    seen ys w ≡ seen (take (length l - a) (drop a l)) 0 writes rs → seen (put_mid a (length l - a) l ys) (a + w) ≡ seen l a writes rs
unfolding onto seen
tail-writes l ys a w rs h e =
    let n : length (take a l) ≡ a = length-take-le a l h in
    let z : a + 0 ≡ a = omega arith in
    ap₂ seen (tail-back l ys a) (ap (λ (k : ℕ). k + w) (sym n))
    ∙ ap (onto (take a l)) (e ∙ ap (λ (x : List ℕ). seen x 0 writes rs) (part-all l a))
    ∙ onto-writes (take a l) (seen (drop a l) 0) rs
    ∙ ap₂ (λ (x : List ℕ) (k : ℕ). seen x k writes rs) (take-append-drop a l) (ap (λ (k : ℕ). k + 0) n ∙ z)

-- The answer set last -------------------------------------------------------------------------

-- bytes x at a position and records after them, then as many other bytes in the place of x
pub reset : (l m x y : List ℕ) (at end : ℕ) (rs : List Report) → length x ≡ length y → seen m end ≡ (seen l at plus x) writes rs →
    seen (seen m at plus y).memory end ≡ (seen l at plus y) writes rs
unfolding onto seen
reset l m x y at end rs n e = go (leb (at + length x) (length l)) refl
  where
    same : length m ≡ length l
    same = ap (λ (w : Seen). length w.memory) e ∙ writes-room (seen l at plus x) rs ∙ plus-room (seen l at) x

    -- what the records leave of the bytes after x
    rest : Seen
    rest = seen (drop (at + length x) l) 0 writes rs

    -- z at the position, and the records after it
    laid : (z : List ℕ) → length z ≡ length x → at + length x ≤ length l → (seen l at plus z) writes rs ≡ onto (take at l ++ z) rest
    laid z k h =
        let i : at ≤ length l = omega arith in
        let j : at + length z ≡ at + length x = omega arith in
        let ends : at + length z ≡ length (take at l ++ z) + 0 = omega (arith, front_length l z at i) in
        ap (λ (w : Seen). w writes rs)
        (plus-in l z at (omega arith) ∙ ap₂ seen (pasted-is l z at ∙ ap (λ (q : ℕ). take at l ++ z ++ drop q l) j) ends)
        ∙ sym (onto-writes (take at l ++ z) (seen (drop (at + length x) l) 0) rs)

    go : (t : Bool) → leb (at + length x) (length l) ≡ t → seen (seen m at plus y).memory end ≡ (seen l at plus y) writes rs
    go true b =
        let h : at + length x ≤ length l = leb-true _ _ b in
        let i : at ≤ length l = omega arith in
        let s : seen m end ≡ onto (take at l ++ x) rest = e ∙ laid x refl h in
        let f : length (take at l ++ x) ≡ at + length y = front_length l x at i ∙ ap (λ (k : ℕ). at + k) n in
        let front : take at m ≡ take at l =
        ap (λ (w : Seen). take at w.memory) s ∙ ap (take at) (append_assoc (take at l) x rest.memory)
        ∙ take_at (take at l) (x ++ rest.memory) at (length-take-le at l i) in
        let back : drop (at + length y) m ≡ rest.memory =
        ap (λ (w : Seen). drop (at + length y) w.memory) s ∙ drop_at (take at l ++ x) rest.memory (at + length y) f in
        let memory : (seen m at plus y).memory ≡ take at l ++ y ++ rest.memory =
        ap (λ (w : Seen). w.memory) (plus-in m y at (omega (arith, same))) ∙ pasted-is m y at ∙ ap₂ (λ (p q : List ℕ). p ++ y ++ q) front back in
        let ends : end ≡ length (take at l ++ y) + rest.at =
        ap (λ (w : Seen). w.at) s ∙ ap (λ (k : ℕ). k + rest.at) (f ∙ sym (front_length l y at i)) in
        ap₂ seen memory ends ∙ sym (laid y (sym n) h)
    go false b =
        let h : length l < at + length x = leb-false _ _ b in
        let full : (z : List ℕ) → length l < at + length z → (seen l at plus z) writes rs ≡ seen l (suc (length l)) =
        λ z f. ap (λ (w : Seen). w writes rs) (plus-out l z at f) ∙ stuck l rs in
        let s : seen m end ≡ seen l (suc (length l)) = e ∙ full x h in
        ap (λ (w : Seen). seen w.memory end) (plus-out m y at (omega (arith, same))) ∙ s ∙ sym (full y (omega arith))

-- an answer's record has 12 bytes
pub answer-length : (a b c d : ℕ) → length (encode (answer a b c d)) ≡ 12
unfolding encode framed bytes
answer-length a b c d = refl

-- an answer written first, records after it, and then the answer set anew: the hypotheses are what these three ensure
pub answer-last : (l k m o : List ℕ) (at i end a b c d x y z u : ℕ) (rs : List Report) → seen k i ≡ seen l at writes (answer a b c d ∷ []) →
    seen m end ≡ seen k i writes rs → o ≡ (seen m at writes (answer x y z u ∷ [])).memory → seen o end ≡ seen l at writes (answer x y z u ∷ rs)
unfolding ◌writes◌
answer-last l k m o at i end a b c d x y z u rs p e q =
    ap (λ (n : List ℕ). seen n end) q
    ∙ reset l m (encode (answer a b c d)) (encode (answer x y z u)) at end rs (answer-length a b c d ∙ sym (answer-length x y z u))
    (e ∙ ap (λ (w : Seen). w writes rs) p)
