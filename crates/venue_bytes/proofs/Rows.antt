-- A table of rows of one width: its bytes, a row written or read at its place, and all of them.
use mathlib.Core.Path.{◌≡◌, refl, sym, ap, ap₂, ◌∙◌}
use mathlib.Core.List.{List, [], ◌∷◌, ◌++◌, append_assoc, append-nil}
use Prim.Native.Nat.{ℕ, suc, ◌+◌, ◌-◌, ◌*◌, ◌≤◌, ◌<◌, zero-le}
use native.Mathlib.Nat.{mul-zero, mul-suc, mul-le-mul_left}
use native.Mathlib.Omega.{arith}
use native.Mathlib.Numerals.{add-one}
use lib.ListN.{length, get_or, set, take, drop, length-append}
use lib.Seq.{take-suc, take_all, length-take-le}
use Rattle.records.specs.Seen.{Seen, seen, pasted, ◌plus◌}
use Rattle.records.proofs.SeenLaws.{plus-in, pasted-nil, pasted_length, pasted-pasted, part-all}
use Rattle.std.proofs.lemmas.List.{take_more_set}
use Rattle.places.specs.Layout.{upto}
use Rattle.places.proofs.Tables.{upto-more}
use Rattle.venue_bytes.specs.Held.{rows, row_at, rows_at}

module _ {A : Type 0} (row : A → List ℕ) where
  pub rows_append : (a b : List A) → rows row (a ++ b) ≡ rows row a ++ rows row b
  unfolding rows
  rows_append [] b = refl
  rows_append (x ∷ a) b = ap (λ (y : List ℕ). row x ++ y) (rows_append a b) ∙ sym (append_assoc (row x) (rows row a) (rows row b))

  -- the first i rows of l stand in `out` from a position on
  pub record Written (from : ℕ) (l : List A) (out₀ out : List ℕ) (i : ℕ) : Type 0 where
    pub some : i ≤ length l
    pub memory : out ≡ pasted out₀ from (rows row (take i l))

  pub written_none : (from : ℕ) (l : List A) (out₀ : List ℕ) → Written from l out₀ out₀ 0
  unfolding rows
  written_none from l out₀ = record { some = zero-le; memory = sym (pasted-nil out₀ from) }

  pub written_all : (from : ℕ) (l : List A) (out₀ out : List ℕ) (i : ℕ) → Written from l out₀ out i → length l ≤ i → out ≡ pasted out₀ from (rows row l)
  written_all from l out₀ out i w h = w.memory ∙ ap (λ (x : List A). pasted out₀ from (rows row x)) (take_all i l h)

  module _ (width : ℕ) (even : (x : A) → length (row x) ≡ width) where
    pub rows-length : (l : List A) → length (rows row l) ≡ width * length l
    unfolding rows
    rows-length [] = sym (mul-zero width)
    rows-length (x ∷ l) =
        let e = rows-length l in
        let w = even x in
        length-append (row x) (rows row l) ∙ omega (arith, mul-suc width (length l))

    module _ (from : ℕ) (l : List A) (out₀ : List ℕ) (fits : width * length l + from ≤ length out₀) (out : List ℕ) (i : ℕ) (w : Written from l out₀ out i) where
      written-length : length (rows row (take i l)) ≡ width * i
      written-length = rows-length (take i l) ∙ ap (λ (k : ℕ). width * k) (length-take-le i l w.some)

      pub written-room : length out ≡ length out₀
      written-room =
          let h = mul-le-mul_left width w.some in
          ap length w.memory ∙ pasted_length out₀ (rows row (take i l)) from (omega (arith, fits, written-length))

      -- one more
      pub written_next : (d x : A) (at : ℕ) (o : List ℕ) → i < length l → x ≡ get_or l i d → at ≡ width * i + from → o ≡ (seen out at plus row x).memory →
          Written from l out₀ o (i + 1)
      unfolding rows seen
      written_next d x at o h e p q =
          let a : List ℕ = rows row (take i l) in
          let n : length a ≡ width * i = written-length in
          let k : width * suc i ≤ width * length l = mul-le-mul_left width h in
          let s = mul-suc width i in
          let m = even x in
          let r = written-room in
          let here : at ≡ from + length a = omega arith in
          let t : take (i + 1) l ≡ take i l ++ (x ∷ []) = rw (add-one, e) (take-suc l i d h) in
          let more : rows row (take (i + 1) l) ≡ a ++ row x =
          ap (rows row) t ∙ rows_append (take i l) (x ∷ []) ∙ ap (λ (y : List ℕ). a ++ y) (append-nil (row x)) in
          record {
            some = omega arith;
            memory =
                q ∙ ap (λ (y : Seen). y.memory) (plus-in out (row x) at (omega (arith, fits)))
                ∙ ap₂ (λ (y : List ℕ) (j : ℕ). pasted y j (row x)) w.memory here
                ∙ pasted-pasted out₀ a (row x) from (omega (arith, fits))
                ∙ ap (pasted out₀ from) (sym more);
          }

-- one row more of a table, read
pub filled_next : {A : Type 0} (f : ℕ → A) (i : ℕ) (r : List A) (x : A) → i < length r → take i r ≡ upto f 0 i → x ≡ f i →
    take (i + 1) (set r i x) ≡ upto f 0 (i + 1)
filled_next {A} f i r x h e p =
    take_more_set r i x h ∙ ap₂ (λ (a : List A) (y : A). a ++ y ∷ []) e p ∙ sym (upto-more f i) ∙ ap (upto f 0) (sym (add-one i))

-- the row at a position, read from the bytes lent from there on
pub row_read : {A : Type 0} (row : List ℕ → A) (from width : ℕ) (s : List ℕ) (i : ℕ) (x : A) →
    x ≡ row (take (length s - (width * i + from)) (drop (width * i + from) s)) → x ≡ row_at row from width s i
unfolding row_at
row_read row from width s i x p = p ∙ ap row (part-all s (width * i + from))

-- an order, read from its two rows
pub rows-read : {A : Type 0} (read : List ℕ → List ℕ → A) (from width later short : ℕ) (s : List ℕ) (i : ℕ) (x : A) →
    x ≡ read (take (length s - (width * i + from)) (drop (width * i + from) s)) (take (length s - (short * i + later)) (drop (short * i + later) s)) →
    x ≡ rows_at read from width later short s i
unfolding rows_at
rows-read {A} read from width later short s i x p =
    let row : List ℕ = take (length s - (width * i + from)) (drop (width * i + from) s) in
    row_read (read row) later short s i x p
    ∙ ap (λ (g : List ℕ → A). row_at g later short s i) (row_read read from width s i (read row) refl)
