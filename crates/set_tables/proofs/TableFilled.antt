-- A table of the venue, filled by the records of a memory one after another.
use Rattle.std.specs.Prelude.{if◌then◌else◌}
use mathlib.Core.Path.{◌≡◌, refl, sym, ap, ◌∙◌}
use mathlib.Core.Bool.{Bool, true, false, not, ◌||◌, true≢false}
use mathlib.Core.List.{List, [], ◌∷◌, ◌++◌, map}
use Prim.Native.Nat.{ℕ, zero, suc, ◌≤◌, ◌<◌, ◌+◌, ◌-◌}
use native.Mathlib.Omega.{arith}
use native.Mathlib.Numerals.{add-one}
use lib.Dec.{eqb}
use lib.ListN.{length, set, take, drop, replicate, length-set, length-map}
use lib.Seq.{sets, sets-eq}
use borrow.Author.Tests.{eq-eqb, ne_eqb}
use Rattle.rules.specs.Base.{keep}
use Rattle.rules.specs.Bytes.{length_field, kind_field}
use Rattle.rules.specs.Refusals.{torn}
use Rattle.sets.specs.Set.{Held, broken, row, behind, held_in, count_of, places, set_length}
use Rattle.sets.proofs.Rows.{Well, AllWell, held_out}
use Rattle.set_check.specs.declared.Front.TheVariants.{Broken, Record}
use Rattle.set_check.specs.Order.{front_of, one_if}
use Rattle.set_tables.specs.Told.{row_in, told_by, begun}
use Rattle.set_check.proofs.Walks.{InFront, in-front, held-ended, held-broken}
use Rattle.set_tables.proofs.Ordered.{count-more}

-- Walking -------------------------------------------------------------------------------------

abbrev is_row : Held → Bool
is_row broken = false
is_row (row rs) = true

abbrev row_of : Held → List (List ℕ)
row_of broken = []
row_of (row rs) = rs

pub row-in : (bs : List ℕ) (rs : List (List ℕ)) → held_in bs ≡ row rs → row_in bs ≡ rs
unfolding row_in
row-in bs rs e = rw (e, row_in)

-- bytes that are held as a row: its end, or a record in front
module _ (bs : List ℕ) (framed : held_in bs ≡ row (row_in bs)) where
  pub row-ended : length_field bs ≡ 0 → row_in bs ≡ []
  row-ended e = row-in bs [] (held-ended bs (unfold front_of in (rw (eq-eqb (length_field bs) 0 e))))

  front-is : (length_field bs ≡ 0 → ⊥) → front_of bs ≡ Record (length_field bs)
  front-is n = go (torn bs || not (eqb (length_field bs) (set_length (kind_field bs)))) refl
    where
      front : (t : Bool) → (torn bs || not (eqb (length_field bs) (set_length (kind_field bs)))) ≡ t → front_of bs ≡ (if t then Broken else Record (length_field bs))
      front t e = unfold front_of in (rw (ne_eqb (length_field bs) 0 n, e))

      go : (t : Bool) → (torn bs || not (eqb (length_field bs) (set_length (kind_field bs)))) ≡ t → front_of bs ≡ Record (length_field bs)
      go true e = absurd (true≢false (ap is_row (sym framed ∙ held-broken bs (front true e))))
      go false e = front false e

  pub record Next (n : ℕ) : Type 0 where
    pub four : 4 ≤ n
    pub fits : n ≤ length bs
    pub rows : row_in bs ≡ take n bs ∷ row_in (drop n bs)
    pub others : held_in (drop n bs) ≡ row (row_in (drop n bs))
    pub well : Well (take n bs)

  pub row_next : (n : ℕ) → n ≡ length_field bs → (n ≡ 0 → ⊥) → Next n
  row_next n here some = go (held_in (drop n bs)) refl
    where
      front : front_of bs ≡ Record n
      front = front-is (λ z. some (here ∙ z)) ∙ ap Record (sym here)

      ahead : InFront bs n
      ahead = in-front bs n front

      wells : (rs : List (List ℕ)) → held_in bs ≡ row rs → AllWell rs
      wells rs e = (held_out (length bs) bs rs (unfold held_in in e)).well

      go : (h : Held) → held_in (drop n bs) ≡ h → Next n
      go broken e = absurd (true≢false (ap is_row (sym framed ∙ ahead.held ∙ ap (behind (take n bs)) e) ∙ (unfold behind in refl)))
      go (row rs) e =
          let all : held_in bs ≡ row (take n bs ∷ rs) = ahead.held ∙ ap (behind (take n bs)) e ∙ (unfold behind in refl) in
          let i : row_in (drop n bs) ≡ rs = row-in (drop n bs) rs e in
          record {
            four = ahead.four;
            fits = ahead.fits;
            rows = row-in bs (take n bs ∷ rs) all ∙ ap (λ (x : List (List ℕ)). take n bs ∷ x) (sym i);
            others = e ∙ ap row (sym i);
            well = (wells (take n bs ∷ rs) all).0;
          }

  -- what is behind the record in front
  module _ (n : ℕ) (x : Next n) (rest : List ℕ) (behind : rest ≡ drop n bs) where
    pub rest_framed : held_in rest ≡ row (row_in rest)
    rest_framed = rw behind x.others

    pub rest_rows : (r : List ℕ) → r ≡ take n bs → row_in bs ≡ r ∷ row_in rest
    rest_rows r e = rw (behind, e) x.rows

-- the record in front is as long as its kind says
pub front_well : (bs r : List ℕ) (rest : List (List ℕ)) → held_in bs ≡ row (row_in bs) → row_in bs ≡ r ∷ rest → Well r
front_well bs r rest framed e = ((held_out (length bs) bs (r ∷ rest) (unfold held_in in (framed ∙ ap row e))).well).0

-- Rows of one kind ------------------------------------------------------------------------------

-- so many free places, and what is put there one after another
free-left : {A : Type 0} (none : A) (n k : ℕ) → drop k (replicate n none) ≡ replicate (n - k) none
free-left none n zero = let e : n ≡ n - 0 = omega arith in ap (λ (j : ℕ). replicate j none) e
free-left none zero (suc k) = let e : 0 ≡ 0 - suc k = omega arith in ap (λ (j : ℕ). replicate j none) e
free-left none (suc n) (suc k) = let e : suc n - suc k ≡ n - k = omega arith in free-left none n k ∙ ap (λ (j : ℕ). replicate j none) (sym e)

pub places_begun : {A : Type 0} (count : ℕ) (none : A) (xs : List A) → begun xs (replicate count none) ≡ places count none xs
unfolding places
places_begun count none xs = ap (λ y. xs ++ y) (free-left none count (length xs))

module _ {A : Type 0} (tells : List ℕ → Bool) (told : List ℕ → A) where
  -- the first n places are filled, and the rows left fill others
  pub record Filling (whole : List A) (count : ℕ) (l : List A) (n : ℕ) (left : List (List ℕ)) : Type 0 where
    pub long : length l ≡ count
    pub room : n + count_of tells left ≤ count
    pub filled : sets l n (told_by tells told left) ≡ whole

  pub filling-start : (l : List A) (rs left : List (List ℕ)) → count_of tells rs ≤ length l → left ≡ rs → Filling (begun (told_by tells told rs) l) (length l) l 0 left
  filling-start l rs left few e =
      let c = ap (count_of tells) e in
      let n : length (told_by tells told rs) ≤ length l = rw (length-map (keep tells rs) told) (unfold count_of in few) in
      let z : 0 + length (told_by tells told rs) ≡ length (told_by tells told rs) = omega arith in
      record { long = refl; room = omega arith; filled = ap (λ (w : List (List ℕ)). sets l 0 (told_by tells told w)) e ∙ sets-eq (told_by tells told rs) l 0 (omega arith) ∙ ap (λ (k : ℕ). told_by tells told rs ++ drop k l) z }

  module _ (whole : List A) (count : ℕ) (l : List A) (n : ℕ) where
    pub filling-end : (left : List (List ℕ)) → Filling whole count l n left → left ≡ [] → l ≡ whole
    filling-end left f e = sym (ap (λ (rs : List (List ℕ)). sets l n (told_by tells told rs)) e ∙ (unfold keep in refl)) ∙ f.filled

    module _ (r : List ℕ) (left rest : List (List ℕ)) (f : Filling whole count l n left) (e : left ≡ r ∷ rest) where
      pub filling_skip : tells r ≡ false → Filling whole count l n rest
      filling_skip t =
          let c = count-more tells r rest in
          let m = ap (count_of tells) e in
          let z : one_if (tells r) ≡ 0 = rw t (unfold one_if in refl) in
          let o = f.room in
          let k : keep tells left ≡ keep tells rest = ap (keep tells) e ∙ (unfold keep in (rw t)) in
          record { long = f.long; room = omega arith; filled = sym (ap (λ (rs : List (List ℕ)). sets l n (map told rs)) k) ∙ f.filled }

      pub filling-room : tells r ≡ true → n < count
      filling-room t =
          let c = count-more tells r rest in
          let m = ap (count_of tells) e in
          let z : one_if (tells r) ≡ 1 = rw t (unfold one_if in refl) in
          let o = f.room in
          omega arith

      pub filling-put : (x : A) → tells r ≡ true → x ≡ told r → Filling whole count (set l n x) (n + 1) rest
      filling-put x t p =
          let c = count-more tells r rest in
          let m = ap (count_of tells) e in
          let z : one_if (tells r) ≡ 1 = rw t (unfold one_if in refl) in
          let o = f.room in
          let k : keep tells left ≡ r ∷ keep tells rest = ap (keep tells) e ∙ (unfold keep in (rw t)) in
          let put : sets (set l n x) (n + 1) (told_by tells told rest) ≡ sets l n (told_by tells told left) =
          ap (λ (j : ℕ). sets (set l n x) j (told_by tells told rest)) (add-one n) ∙ ap (λ (y : A). sets (set l n y) (suc n) (told_by tells told rest)) p ∙ sym (ap (λ (rs : List (List ℕ)). sets l n (map told rs)) k) in
          record { long = length-set l n x ∙ f.long; room = omega arith; filled = put ∙ f.filled }
