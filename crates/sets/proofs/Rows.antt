-- A row of records, written one after another with zeros behind it, is held so; and what is held in a memory is its first bytes.
use mathlib.Core.Path.{◌≡◌, refl, sym, ap, subst, ◌∙◌}
use mathlib.Core.Bool.{Bool, true, false, not, ◌||◌, true≢false}
use mathlib.Core.List.{List, [], ◌∷◌, ◌++◌, append_assoc}
use Prim.Native.Nat.{ℕ, zero, suc, ◌≤◌, ◌+◌}
use native.Mathlib.Omega.{arith}
use lib.Dec.{eqb}
use lib.ListN.{length, get_or, take, drop, replicate, length-append, length-replicate, take-append-drop, get_or-append}
use lib.Seq.{take-append_seam, drop-append_seam, take-append-add, length-take-le}
use borrow.Author.Tests.{eqb-true, eq-eqb, ltb-false, not-false, ne_eqb, le-ltb}
use Rattle.rules.specs.Bytes.{u8_at, u16_at, length_field, kind_field}
use Rattle.rules.specs.Refusals.{torn}
use Rattle.rules.proofs.Tests.{or-false-l, or-false-r}
use Rattle.sets.specs.Set.{Held, broken, row, behind, held_from, held_in, joined, set_length}
use Rattle.sets.specs.Promises.{RowsAre}
use Rattle.sets.proofs.Lists.{Each}

-- a record's bytes: its length in front, and a kind of the set of that length
pub record Well (r : List ℕ) : Type 0 where
  pub four : 4 ≤ length r
  pub told : length_field r ≡ length r
  pub known : set_length (kind_field r) ≡ length r

abbrev pub AllWell : List (List ℕ) → Type 0
AllWell = Each Well

-- the front of a longer list is read alike
pub length_front : (a b : List ℕ) → 4 ≤ length a → length_field (a ++ b) ≡ length_field a
unfolding length_field u16_at u8_at
length_front a b h = rw (get_or-append a b 0 0 (omega arith), get_or-append a b 0 1 (omega arith))

kind-front : (a b : List ℕ) → 4 ≤ length a → kind_field (a ++ b) ≡ kind_field a
unfolding kind_field u16_at u8_at
kind-front a b h = rw (get_or-append a b 0 2 (omega arith), get_or-append a b 0 3 (omega arith))

zeros : (m i : ℕ) → ◌≡◌ {A = ℕ} (get_or (replicate m 0) i 0) 0
zeros zero i = refl
zeros (suc m) zero = refl
zeros (suc m) (suc i) = zeros m i

ended : (fuel m : ℕ) → held_from fuel (replicate m 0) ≡ row []
unfolding held_from length_field u16_at u8_at
ended zero m = refl
ended (suc fuel) m = rw (zeros m 0, zeros m 1, held_from)

one_more : (fuel : ℕ) (r rest : List ℕ) → Well r → held_from (suc fuel) (r ++ rest) ≡ behind r (held_from fuel rest)
unfolding held_from torn
one_more fuel r rest w =
    let f = w.four in
    let l : length_field (r ++ rest) ≡ length r = length_front r rest f ∙ w.told in
    let k : set_length (kind_field (r ++ rest)) ≡ length r = ap set_length (kind-front r rest f) ∙ w.known in
    let n : length (r ++ rest) ≡ length r + length rest = length-append r rest in
    rw (
      l,
      ne_eqb (length r) 0 (λ e. omega arith),
      held_from,
      l,
      k,
      n,
      le-ltb (length r + length rest) 4 (omega arith),
      le-ltb (length r) 4 f,
      le-ltb (length r + length rest) (length r) (omega arith),
      eq-eqb (length r) (length r) refl,
      held_from,
      l,
      take-append_seam r rest,
      drop-append_seam r rest,
    )

reads : (fuel m : ℕ) (rs : List (List ℕ)) → AllWell rs → length (joined rs) ≤ fuel → held_from fuel (joined rs ++ replicate m 0) ≡ row rs
unfolding joined
reads fuel m [] h le = ended fuel m
reads zero m (r ∷ rs) h le = (let z = h.0.four in let y = simp length-append at le in absurd (omega arith))
reads (suc fuel) m (r ∷ rs) h le =
    let z = h.0.four in
    let y = simp length-append at le in
    rw (append_assoc r (joined rs) (replicate m 0), one_more fuel r (joined rs ++ replicate m 0) h.0, reads fuel m rs h.1 (omega arith)) (unfold behind in refl)

-- a row written with zeros behind it is held
pub row-held : (rs : List (List ℕ)) (m : ℕ) → AllWell rs → held_in (joined rs ++ replicate m 0) ≡ row rs
unfolding held_in
row-held rs m h = reads (length (joined rs ++ replicate m 0)) m rs h (simp (length-append, length-replicate) (omega arith))

-- What is held ----------------------------------------------------------------------------------

abbrev row_of : Held → List (List ℕ)
row_of broken = []
row_of (row rs) = rs

abbrev is_row : Held → Bool
is_row broken = false
is_row (row rs) = true

-- the first bytes of a list are these records, and each is a record's bytes
pub record Holds (bs : List ℕ) (rs : List (List ℕ)) : Type 0 where
  pub well : AllWell rs
  pub bytes : take (length (joined rs)) bs ≡ joined rs

none-held : (bs : List ℕ) (rs : List (List ℕ)) → row [] ≡ row rs → Holds bs rs
unfolding joined
none-held bs rs h = subst (λ l. Holds bs l) (ap row_of h) (record { well = tt; bytes = refl })

-- the record in front
front-well : (bs : List ℕ) → (torn bs || not (eqb (length_field bs) (set_length (kind_field bs)))) ≡ false → Well (take (length_field bs) bs) × (length_field bs ≤ length bs)
unfolding torn
front-well bs h =
    let n = length_field bs in
    let z = h in
    let a = ltb-false (length bs) 4 (search (or-false-l, or-false-r, z) depth 6) in
    let b = ltb-false n 4 (search (or-false-l, or-false-r, z) depth 6) in
    let c = ltb-false (length bs) n (search (or-false-l, or-false-r, z) depth 6) in
    let k = eqb-true n (set_length (kind_field bs)) (not-false (eqb n (set_length (kind_field bs))) (search (or-false-l, or-false-r, z) depth 6)) in
    let l : length (take n bs) ≡ n = length-take-le n bs c in
    let s : take n bs ++ drop n bs ≡ bs = take-append-drop n bs in
    let f : length_field (take n bs) ≡ n = sym (length_front (take n bs) (drop n bs) (omega arith)) ∙ ap length_field s in
    let g : kind_field (take n bs) ≡ kind_field bs = sym (kind-front (take n bs) (drop n bs) (omega arith)) ∙ ap kind_field s in
    (record { four = omega arith; told = f ∙ sym l; known = ap set_length g ∙ sym k ∙ sym l }, c)

-- one record more is held in front
more-held : (bs : List ℕ) (n : ℕ) (rs : List (List ℕ)) → n ≤ length bs → Well (take n bs) → Holds (drop n bs) rs → Holds bs (take n bs ∷ rs)
unfolding joined
more-held bs n rs le w h =
    let l : length (take n bs) ≡ n = length-take-le n bs le in
    let j : length (take n bs ++ joined rs) ≡ n + length (joined rs) = length-append (take n bs) (joined rs) ∙ ap (λ (k : ℕ). k + length (joined rs)) l in
    record {
      well = (w, h.well);
      bytes =
          ap (λ (k : ℕ). take k bs) j
          ∙ ap (λ (x : List ℕ). take (n + length (joined rs)) x) (sym (take-append-drop n bs))
          ∙ ap (λ (k : ℕ). take (k + length (joined rs)) (take n bs ++ drop n bs)) (sym l)
          ∙ take-append-add (take n bs) (drop n bs) (length (joined rs))
          ∙ ap (λ (x : List ℕ). take n bs ++ x) h.bytes;
    }

pub held_out : (fuel : ℕ) (bs : List ℕ) (rs : List (List ℕ)) → held_from fuel bs ≡ row rs → Holds bs rs
unfolding held_from behind
held_out zero bs rs h = none-held bs rs h
held_out (suc fuel) bs rs h =
    go (eqb (length_field bs) 0) (torn bs || not (eqb (length_field bs) (set_length (kind_field bs)))) refl h (λ qs. held_out fuel (drop (length_field bs) bs) qs)
  where
    n : ℕ
    n = length_field bs

    further : (w : Well (take n bs)) → n ≤ length bs → (x : Held) → held_from fuel (drop n bs) ≡ x → behind (take n bs) x ≡ row rs →
        ((qs : List (List ℕ)) → held_from fuel (drop n bs) ≡ row qs → Holds (drop n bs) qs) → Holds bs rs
    further w le broken e k ih = absurd (true≢false (sym (ap is_row k)))
    further w le (row qs) e k ih = subst (λ l. Holds bs l) (ap row_of k) (more-held bs n qs le w (ih qs e))

    go : (z t : Bool) → (torn bs || not (eqb (length_field bs) (set_length (kind_field bs)))) ≡ t →
        ◌≡◌ {A = Held} (elim z [ true ↦ row [] | false ↦ elim t [ true ↦ broken | false ↦ behind (take n bs) (held_from fuel (drop n bs)) ] ]) (row rs) →
        ((qs : List (List ℕ)) → held_from fuel (drop n bs) ≡ row qs → Holds (drop n bs) qs) → Holds bs rs
    go true t e k ih = none-held bs rs k
    go false true e k ih = absurd (true≢false (sym (ap is_row k)))
    go false false e k ih = let f = front-well bs e in further f.0 f.1 (held_from fuel (drop n bs)) refl k ih

pub rows_are : RowsAre
unfolding held_in
rows_are memory rs h = (held_out (length memory) memory rs h).bytes
