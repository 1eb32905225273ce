-- Reading what was written gives the venue and the number back.
use Rattle.std.specs.Prelude.{if◌then◌else◌}
use mathlib.Core.Path.{◌≡◌, refl, sym, ap₂, ◌∙◌}
use mathlib.Core.Bool.{Bool, true, false, not}
use mathlib.Core.List.{List, [], ◌∷◌, ◌++◌, map}
use Prim.Native.Nat.{ℕ, zero, suc, ◌≤◌, ◌<◌, ◌+◌, ◌-◌, ◌*◌}
use native.Mathlib.Omega.{arith}
use lib.Dec.{eqb, ltb}
use lib.ListN.{get_or, length, replicate}
use borrow.Author.Tests.{ltb-false}
use Rattle.rules.specs.declared.Regular.{Regular}
use Rattle.rules.specs.declared.Complex.{Complex}
use Rattle.rules.specs.declared.Edition.{Edition}
use Rattle.rules.specs.declared.Listed.{Listed}
use Rattle.rules.specs.declared.Generations.{Generations}
use Rattle.rules.specs.declared.Venue.{Venue}
use Rattle.rules.specs.declared.Message.TheVariants.{Away, Status}
use Rattle.rules.specs.Base.{held, keep}
use Rattle.rules.specs.Words.{no_complex, no_edition, no_generations, no_legging, no_regular, not_listed}
use Rattle.rules.specs.Bytes.{framed, kind_field, u32}
use Rattle.rules.specs.Messages.{encode_message}
use Rattle.rules.specs.Records.{FourBytes}
use Rattle.rules.specs.Places.{holds_complex, holds_edition, holds_regular}
use Rattle.rules.specs.Sound.{follows, listed_in_range, sound}
use Rattle.rules.proofs.Tests.{and_l, free-none}
use Rattle.demands.specs.Soundness.{Shaped}
use Rattle.sets.specs.Set.{carries, complex_record, complex_told, edition_record, edition_told, first_record, generations_told, held_in, joined, last_told}
use Rattle.sets.specs.Set.{legging_records, legging_told, listed_told, not_written, number_told, of_series, places, reached_records, reached_told}
use Rattle.sets.specs.Set.{read_row, row, read_set, regular_record, regular_told, series_records, set_of}
use Rattle.sets.specs.Set.{tells_complex, tells_edition, tells_legging, tells_regular, upward, venue_told, write_set}
use Rattle.sets.specs.Promises.{ReadsBack}
use Rattle.sets.proofs.Lists.{Each, each_more, keep-every, map_back}
use Rattle.sets.proofs.Rows.{row-held}
use Rattle.sets.proofs.Records.{Tells, first-tells, listed-tells, reached-kind, reached-tells}
use Rattle.sets.proofs.Parts.{sort-of}
use Rattle.sets.proofs.PartsKept.{Only, complexes-only, editions-only, flat, leggings-only, parts-kept, reached-only, regulars-only, series-only}
use Rattle.sets.proofs.Fine.{Good}
use Rattle.sets.proofs.Merging.{merge-complex, merge-regular}
use Rattle.sets.proofs.Slots.{leggings-told}
use Rattle.sets.proofs.Numbers.{Counted, series-kept, twenty-told}
use Rattle.sets.proofs.Carried.{Carried, carried}
use Rattle.sets.proofs.Written.{all_placed, all-well, front_of, goods-parts, is-set, set-goods, set-parts, tail_of}

-- f of each place of a list
pub upward-is : {A : Type 0} (f : ℕ → A) (none : A) (n : ℕ) (l : List A) → ((i : ℕ) → i < length l → f (n + i) ≡ get_or l i none) → upward f n (length l) ≡ l
unfolding upward
upward-is {A} f none n [] h = refl
upward-is {A} f none n (x ∷ l) h =
    let a : n + 0 ≡ n = omega arith in
    ap₂ (λ (y : A) (m : List A). y ∷ m) (rw a at (h 0 (omega arith))) (upward-is f none (suc n) l (λ i lt. (let b : suc n + i ≡ n + suc i = omega arith in rw b (h (suc i) (omega arith)))))

-- what is told by records of one kind only
pub legging-kept : (rs : List (List ℕ)) (n : ℕ) → legging_told rs n ≡ legging_told (keep tells_legging rs) n
unfolding legging_told keep
legging-kept [] n = refl
legging-kept (r ∷ rs) n = go (tells_legging r) refl (legging-kept rs n)
  where
    go : (b : Bool) → tells_legging r ≡ b → legging_told rs n ≡ legging_told (keep tells_legging rs) n →
        legging_told (r ∷ rs) n ≡ legging_told (if b then r ∷ keep tells_legging rs else keep tells_legging rs) n
    go true e ih = rw ih
    go false e ih = rw e ih

pub reached-kept : (rs : List (List ℕ)) → reached_told rs ≡ reached_told (keep (λ r. eqb (kind_field r) 84) rs)
unfolding reached_told keep
reached-kept [] = refl
reached-kept (r ∷ rs) = go (eqb (kind_field r) 84) refl (reached-kept rs)
  where
    go : (b : Bool) → eqb (kind_field r) 84 ≡ b → reached_told rs ≡ reached_told (keep (λ r. eqb (kind_field r) 84) rs) →
        reached_told (r ∷ rs) ≡ reached_told (if b then r ∷ keep (λ r. eqb (kind_field r) 84) rs else keep (λ r. eqb (kind_field r) 84) rs)
    go true e ih = rw ih
    go false e ih = rw e ih

-- the records of series i
series-at : (rs : List (List ℕ)) (s i : ℕ) (xs : List Listed) → i < length xs → (t : ℕ) → s + i ≡ t →
    (get_or (series_records s xs ++ rs) (2 * i) [] ≡ encode_message (Status t (get_or xs i not_listed).status))
    × (get_or (series_records s xs ++ rs) (suc (2 * i)) [] ≡ encode_message (Away t (get_or xs i not_listed).bid (get_or xs i not_listed).offer))
unfolding series_records
series-at rs s i [] lt t e = absurd (omega arith)
series-at rs s zero (x ∷ xs) lt t e = let z : s ≡ t = omega arith in rw z (refl, refl)
series-at rs s (suc i) (x ∷ xs) lt t e = let z : 2 * suc i ≡ suc (suc (2 * i)) = omega arith in rw z (series-at rs (suc s) i xs (omega arith) t (omega arith))

pub listed_back : (rs : List (List ℕ)) (first : List ℕ) (xs : List Listed) (i : ℕ) → i < length xs → Tells i (get_or xs i not_listed) →
    listed_told (first ∷ (series_records 0 xs ++ rs)) i ≡ get_or xs i not_listed
unfolding listed_told
listed_back rs first xs i lt t =
    let a : 2 * i + 1 ≡ suc (2 * i) = omega arith in
    let b : 2 * i + 2 ≡ suc (suc (2 * i)) = omega arith in
    let p = series-at rs 0 i xs lt i (omega arith) in
    rw (a, b, p.0, p.1, t.status-tells, t.bid-tells, t.offer-tells)

module _ (number : ℕ) (few : FourBytes number) (v : Venue) (w : Shaped v) (c : Carried v) where
  abbrev os : List Regular
  os = keep holds_regular v.regular

  abbrev cs : List Complex
  cs = keep holds_complex v.complex

  abbrev es : List Edition
  es = keep holds_edition v.editions

  -- the row of the set
  abbrev set : List (List ℕ)
  set = front_of number v ++ flat (tail_of v)

  kept : (k i : ℕ) (f : List ℕ → Bool) → Only k f → 0 + i ≡ k → keep f set ≡ keep f (get_or (front_of number v ∷ tail_of v) i [])
  kept k i f only n = parts-kept k f only i 0 n (front_of number v ∷ tail_of v) (goods-parts 0 (front_of number v ∷ tail_of v) (set-goods v w c number))

  regular-back : places 128 no_regular (map regular_told (keep tells_regular set)) ≡ v.regular
  regular-back =
      rw (kept 2 2 tells_regular regulars-only refl, merge-regular (length os + length cs) os cs (omega arith), map_back regular_record regular_told os c.regular.back)
      c.regular-places

  complex-back : places 32 no_complex (map complex_told (keep tells_complex set)) ≡ v.complex
  complex-back =
      rw (kept 2 2 tells_complex complexes-only refl, merge-complex (length os + length cs) os cs (omega arith), map_back complex_record complex_told cs c.complex.back)
      c.complex-places

  -- each record of a part is kept by the part's own test
  all-editions : keep tells_edition (map edition_record es) ≡ map edition_record es
  all-editions = keep-every tells_edition (map edition_record es) (each_more (Good 1) (λ r. tells_edition r ≡ true) (λ r g. (sort-of r 1 g.of).0) (map edition_record es) (set-goods v w c number).1.0)

  editions-back : places 32 no_edition (map edition_told (keep tells_edition set)) ≡ v.editions
  editions-back = rw (kept 1 1 tells_edition editions-only refl, all-editions, map_back edition_record edition_told es c.editions.back) c.edition-places

  all-leggings : keep tells_legging (legging_records 0 v.legging) ≡ legging_records 0 v.legging
  all-leggings =
      keep-every tells_legging (legging_records 0 v.legging)
      (each_more (Good 3) (λ r. tells_legging r ≡ true) (λ r g. (sort-of r 3 g.of).2) (legging_records 0 v.legging)
      (set-goods v w c number).1.1.1.0)

  legging-back : upward (legging_told set) 0 16 ≡ v.legging
  legging-back = rw (← w.legging) (upward-is (legging_told set) no_legging 0 v.legging (λ i lt. one i))
    where
      one : (i : ℕ) → legging_told set (0 + i) ≡ get_or v.legging i no_legging
      one i =
          let n = w.legging in
          let z : 0 + i ≡ 2 * 0 + i = omega arith in
          rw (legging-kept set (0 + i), kept 3 3 tells_legging leggings-only refl, all-leggings, z) (leggings-told 0 i v.legging (omega arith) c.legging 8 w.legging)

  generations-back : upward (generations_told set) 0 8 ≡ v.generations
  generations-back = rw (← w.generations) (upward-is (generations_told set) no_generations 0 v.generations one)
    where
      at : (i : ℕ) (gs : List Generations) → i < length gs → Each Counted gs → Counted (get_or gs i no_generations)
      at i [] lt h = absurd (omega arith)
      at zero (g ∷ gs) lt h = h.0
      at (suc i) (g ∷ gs) lt h = at i gs (omega arith) h.1

      one : (i : ℕ) → i < length v.generations → generations_told set (0 + i) ≡ get_or v.generations i no_generations
      one i lt =
          let n = w.generations in
          let z : 0 + i ≡ i = omega arith in
          rw z (twenty-told i (get_or v.generations i no_generations) (omega arith) (at i v.generations lt c.generations) set
          (kept 4 4 (of_series i) (series-only i) refl ∙ series-kept 0 i v.generations (omega arith) i (omega arith)))

  series-back : upward (listed_told set) 0 8 ≡ v.series
  series-back = rw (← w.series) (upward-is (listed_told set) not_listed 0 v.series one)
    where
      at : (i : ℕ) (xs : List Listed) → i < length xs → Each (λ x. listed_in_range x ≡ true) xs → listed_in_range (get_or xs i not_listed) ≡ true
      at i [] lt h = absurd (omega arith)
      at zero (x ∷ xs) lt h = h.0
      at (suc i) (x ∷ xs) lt h = at i xs (omega arith) h.1

      one : (i : ℕ) → i < length v.series → listed_told set (0 + i) ≡ get_or v.series i not_listed
      one i lt =
          let n = w.series in
          let z : 0 + i ≡ i = omega arith in
          rw z (listed_back (flat (tail_of v)) (first_record number v.last) v.series i lt (listed-tells i (get_or v.series i not_listed) (omega arith) (at i v.series lt c.series)))

  reached-back : reached_told set ≡ v.reached
  unfolding reached_records reached_told keep
  reached-back = reached-kept set ∙ rw (kept 5 5 (λ r. eqb (kind_field r) 84) reached-only refl) (go (held v.reached) refl)
    where
      go : (b : Bool) → held v.reached ≡ b → reached_told (keep (λ r. eqb (kind_field r) 84) (if b then framed 84 (u32 v.reached) ∷ [] else [])) ≡ v.reached
      go true e = rw (reached-kind v.reached, reached-kind v.reached, reached-tells v.reached c.reached)
      go false e = sym (free-none v.reached e)

  last-back : last_told set ≡ v.last
  unfolding last_told
  last-back = (first-tells number v.last few c.last).1

  number-back : number_told set ≡ number
  unfolding number_told
  number-back = (first-tells number v.last few c.last).0

  venue-back : venue_told set ≡ v
  unfolding venue_told
  venue-back = rw (regular-back, complex-back, legging-back, series-back, editions-back, generations-back, last-back, reached-back)

  row_back : carries number v ≡ true → read_row set ≡ record { number = 0; venue = v; message = number }
  unfolding read_row
  row_back h = rw (is-set v w c number, all_placed v w c number, venue-back, number-back, h)

-- what writing takes, and what it leaves
pub record WrittenSet (number room : ℕ) (v : Venue) : Type 0 where
  pub carries : carries number v ≡ true
  pub fits : length (joined (set_of number v)) ≤ room
  pub memory : (write_set number v room).memory ≡ joined (set_of number v) ++ replicate (room - length (joined (set_of number v))) 0

pub written-set : (number room : ℕ) (v : Venue) → (write_set number v room).number ≡ 0 → WrittenSet number room v
unfolding write_set not_written
written-set number room v h = go (carries number v) (ltb room (length (joined (set_of number v)))) refl refl h
  where
    go : (a b : Bool) → carries number v ≡ a → ltb room (length (joined (set_of number v))) ≡ b →
        (if not a then not_written 9 room else if b then not_written 15 room
        else record {
          number = 0;
          written = length (joined (set_of number v));
          memory = joined (set_of number v) ++ replicate
              (room - length (joined (set_of number v))) 0;
        }).number ≡ 0 → WrittenSet number room v
    go true true e f k = absurd (omega arith)
    go true false e f k = record { carries = e; fits = ltb-false room (length (joined (set_of number v))) f; memory = rw (e, f) }
    go false b e f k = absurd (omega arith)

-- a memory that holds a row is read as that row
pub read-row : (memory : List ℕ) (rs : List (List ℕ)) → held_in memory ≡ row rs → read_set memory ≡ read_row rs
unfolding read_set
read-row memory rs h = rw (h, read_set)

pub reads-back : ReadsBack
unfolding carries
reads-back number room v few w h =
    let t = written-set number room v h in
    let c = carried v w (and_l (sound v) (follows (suc number) v) t.carries) in
    let m = room - length (joined (set_of number v)) in
    rw (t.memory, read-row (joined (set_of number v) ++ replicate m 0) (set_of number v) (row-held (set_of number v) m (rw (set-parts number v) (all-well v w c number))), set-parts number v)
    (row_back number few v w c t.carries)
