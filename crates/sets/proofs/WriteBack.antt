-- Writing what was read from a whole set gives its records back.
use Rattle.std.specs.Prelude.{if◌then◌else◌}
use mathlib.Core.Path.{◌≡◌, refl, sym, ap, subst, ◌∙◌}
use mathlib.Core.Bool.{Bool, true, false, not, ◌&&◌, ◌||◌, false≢true}
use mathlib.Core.List.{List, [], ◌∷◌, ◌++◌, append-nil, map}
use Prim.Native.Nat.{ℕ, zero, suc, ◌≤◌, ◌<◌, ◌+◌, ◌-◌}
use native.Mathlib.Omega.{arith}
use lib.Dec.{eqb}
use lib.ListN.{get_or, length, take}
use borrow.Author.Tests.{eqb-false, eqb-true, le-ltb}
use Rattle.rules.specs.declared.Listed.{Listed}
use Rattle.rules.specs.declared.Message.TheVariants.{Away, Status}
use Rattle.rules.specs.Base.{all, held, keep}
use Rattle.rules.specs.Words.{no_complex, no_edition, no_regular, not_listed}
use Rattle.rules.specs.Bytes.{kind_field, u32_at, u8_at}
use Rattle.rules.specs.Messages.{encode_message}
use Rattle.rules.specs.Places.{holds_complex, holds_edition, holds_regular}
use Rattle.rules.proofs.Tests.{and_l, and_r, not-out}
use Rattle.sets.specs.Set.{by_id, carries, edition_record, edition_told, few_enough, first_record, generation_records, generations_told, has_place}
use Rattle.sets.specs.Set.{held_in, in_order, is_set, joined, last_told, legging_records, legging_told, listed_told}
use Rattle.sets.specs.Set.{sort_key, not_read, number_told, of_series, of_whole, part, reached_records, read_row, read_set, row, series_records, series_then}
use Rattle.sets.specs.Set.{set_of, tells_complex, tells_edition, tells_generation, tells_legging, tells_regular, venue_told, write_set}
use Rattle.sets.specs.Promises.{AllBytes, BytesBack, WritesBack}
use Rattle.sets.proofs.Lists.{Each, Of, Rising, each_map, each_more, every, keep-every, map_back}
use Rattle.sets.proofs.Rows.{AllWell, held_out, rows_are}
use Rattle.sets.proofs.Records.{Tells}
use Rattle.sets.proofs.Parts.{sort-of}
use Rattle.sets.proofs.PartsKept.{Only, Parts, complexes-only, editions-only, flat, leggings-only, parts-kept, reached-only, regulars-only, series-only}
use Rattle.sets.proofs.Fine.{away-fine, status-fine}
use Rattle.sets.proofs.Written.{set-parts}
use Rattle.sets.proofs.ReadBack.{legging-kept, listed_back, reached-kept, read-row, upward-is}
use Rattle.sets.proofs.Spelled.{Clean, away-spelled, first-spelled, status-spelled}
use Rattle.sets.proofs.Pieces.{sort-keys-climb, sort-keys-rise, order-split, parts-climb, pieces, pieces_are}
use Rattle.sets.proofs.PartsRead.{GenerationOf, LeggingOf, OrderOf, edition-of, generation-of, legging-of, order-of, reached-of}
use Rattle.sets.proofs.Again.{ReachedOf, books-again, complexes-so, complexes_of, generations-again, leggings-again, places-kept, reached-again, regulars-so, regulars_of, upward-same}

-- Bytes ---------------------------------------------------------------------------------------

pub bytes_take : (n : ℕ) (l : List ℕ) → AllBytes l → AllBytes (take n l)
bytes_take zero l h = tt
bytes_take (suc n) [] h = tt
bytes_take (suc n) (x ∷ l) h = (h.0, bytes_take n l h.1)

bytes-split : (a b : List ℕ) → AllBytes (a ++ b) → AllBytes a × AllBytes b
bytes-split [] b h = (tt, h)
bytes-split (x ∷ a) b h = let z = bytes-split a b h.1 in ((h.0, z.0), z.1)

-- each record of a row whose bytes are bytes
pub cleans : (rs : List (List ℕ)) → AllWell rs → AllBytes (joined rs) → Each Clean rs
unfolding joined
cleans [] w h = tt
cleans (r ∷ rs) w h = let z = bytes-split r (joined rs) h in (record { well = w.0; bytes = z.0 }, cleans rs w.1 z.1)

-- The series ----------------------------------------------------------------------------------

-- a row of `count` series' records from series s on, and the rest
record SeriesOf (count s : ℕ) (of : List ℕ → Bool) (rs : List (List ℕ)) : Type 0 where
  xs : List Listed
  tail : List (List ℕ)
  is : rs ≡ series_records s xs ++ tail
  size : length xs ≡ count
  tells : (i : ℕ) → i < length xs → (t : ℕ) → s + i ≡ t → Tells t (get_or xs i not_listed)
  front : Of 0 (series_records s xs)
  rest : (all of tail && in_order tail && few_enough tail) ≡ true

-- what a series' two records tell
listed-told : (s : ℕ) (q r : List ℕ) → encode_message (Status s (u8_at q 5)) ≡ q → encode_message (Away s (u32_at r 5) (u32_at r 9)) ≡ r → kind_field q ≡ 5 → u8_at q 4 ≡ s → kind_field r ≡ 4 → u8_at r 4 ≡ s →
    Tells s (record { status = u8_at q 5; bid = u32_at r 5; offer = u32_at r 9 })
listed-told s q r a b c d e f = record {
  status-kind = ap kind_field a ∙ c;
  status-series = ap (λ (l : List ℕ). u8_at l 4) a ∙ d;
  status-tells = ap (λ (l : List ℕ). u8_at l 5) a;
  away-kind = ap kind_field b ∙ e;
  away-series = ap (λ (l : List ℕ). u8_at l 4) b ∙ f;
  bid-tells = ap (λ (l : List ℕ). u32_at l 5) b;
  offer-tells = ap (λ (l : List ℕ). u32_at l 9) b;
}

one_more : (count s : ℕ) (of : List ℕ → Bool) (q r : List ℕ) (rs : List (List ℕ)) → encode_message (Status s (u8_at q 5)) ≡ q → encode_message (Away s (u32_at r 5) (u32_at r 9)) ≡ r →
    Tells s (record { status = u8_at q 5; bid = u32_at r 5; offer = u32_at r 9 }) → SeriesOf count (suc s) of rs → SeriesOf (suc count) s of (q ∷ r ∷ rs)
unfolding series_records
one_more count s of q r rs f g t h = record {
  xs = x ∷ h.xs;
  tail = h.tail;
  is = rw (f, g) (ap (λ (l : List (List ℕ)). q ∷ r ∷ l) h.is);
  size = ap suc h.size;
  tells = tells;
  front = ((status-fine s x t).of, ((away-fine s x t).of, h.front));
  rest = h.rest;
}
  where
    x : Listed
    x = record { status = u8_at q 5; bid = u32_at r 5; offer = u32_at r 9 }

    tells : (i : ℕ) → i < suc (length h.xs) → (u : ℕ) → s + i ≡ u → Tells u (get_or (x ∷ h.xs) i not_listed)
    tells zero lt u e = let z : s ≡ u = omega arith in rw z at t
    tells (suc i) lt u e = h.tells i (omega arith) u (omega arith)

series-out : (count s : ℕ) (of : List ℕ → Bool) (rs : List (List ℕ)) → Each Clean rs → series_then count s of rs ≡ true → SeriesOf count s of rs
unfolding series_then series_records
series-out zero s of rs c h = record { xs = []; tail = rs; is = refl; size = refl; tells = λ i lt t e. absurd (omega arith); front = tt; rest = h }
series-out (suc count) s of [] c h = absurd (false≢true h)
series-out (suc count) s of (q ∷ []) c h = absurd (false≢true h)
series-out (suc count) s of (q ∷ r ∷ rs) c h =
    let a = eqb-true (kind_field q) 5 (search (and_l, and_r, h) depth 6) in
    let b = eqb-true (u8_at q 4) s (search (and_l, and_r, h) depth 6) in
    let d = eqb-true (kind_field r) 4 (search (and_l, and_r, h) depth 6) in
    let e = eqb-true (u8_at r 4) s (search (and_l, and_r, h) depth 6) in
    let f = rw b at (status-spelled q c.0 a) in
    let g = rw e at (away-spelled r c.1.0 d) in
    one_more count s of q r rs f g (listed-told s q r f g a b d e)
    (series-out count (suc s) of rs c.1.1
    (and_r (eqb (kind_field q) 5 && eqb (u8_at q 4) s && eqb (kind_field r) 4 && eqb (u8_at r 4) s) (series_then count (suc s) of rs) h))

-- A set that is read --------------------------------------------------------------------------

record Read (rs : List (List ℕ)) : Type 0 where
  first : List ℕ
  xs : List Listed
  e : List (List ℕ)
  o : List (List ℕ)
  l : List (List ℕ)
  g : List (List ℕ)
  z : List (List ℕ)
  is : rs ≡ (first ∷ series_records 0 xs) ++ flat (e ∷ o ∷ l ∷ g ∷ z ∷ [])
  parts : Parts 0 ((first ∷ series_records 0 xs) ∷ e ∷ o ∷ l ∷ g ∷ z ∷ [])
  spelled : first_record (u32_at first 4) (u32_at first 8) ≡ first
  size : length xs ≡ 8
  tells : (i : ℕ) → i < length xs → Tells i (get_or xs i not_listed)
  editions : Each (λ r. (edition_record (edition_told r) ≡ r) × (held (edition_told r).edition ≡ true)) e
  orders : Each OrderOf o
  orders-rise : Rising sort_key 0 o
  leggings : Each LeggingOf l
  leggings-rise : Rising sort_key 0 l
  generations : Each GenerationOf g
  by-series : pieces sort_key 0 8 g ≡ g
  reached : Each ReachedOf z
  reached-order : in_order z ≡ true

module _ (rs : List (List ℕ)) (q : Read rs) where
  abbrev ps : List (List (List ℕ))
  ps = (q.first ∷ series_records 0 q.xs) ∷ q.e ∷ q.o ∷ q.l ∷ q.g ∷ q.z ∷ []

  kept : (k i : ℕ) (f : List ℕ → Bool) → Only k f → 0 + i ≡ k → keep f rs ≡ keep f (get_or ps i [])
  kept k i f only n = ap (λ (m : List (List ℕ)). keep f m) q.is ∙ parts-kept k f only i 0 n ps q.parts

  all-editions : keep tells_edition q.e ≡ q.e
  all-editions = keep-every tells_edition q.e (each_more (λ r. part r ≡ 1) (λ r. tells_edition r ≡ true) (λ r k. (sort-of r 1 k).0) q.e q.parts.1.0)

  editions-back : map edition_record (keep holds_edition (venue_told rs).editions) ≡ q.e
  unfolding venue_told
  editions-back =
      let f = each_map (λ x. holds_edition x ≡ true) edition_told q.e
      (each_more (λ r. (edition_record (edition_told r) ≡ r) × (held (edition_told r).edition ≡ true)) (λ r. held (edition_told r).edition ≡ true)
      (λ r z. z.1) q.e q.editions) in
      let b = map_back edition_told edition_record q.e
      (each_more (λ r. (edition_record (edition_told r) ≡ r) × (held (edition_told r).edition ≡ true)) (λ r. edition_record (edition_told r) ≡ r)
      (λ r z. z.0) q.e q.editions) in
      rw (kept 1 1 tells_edition editions-only refl, all-editions, places-kept holds_edition no_edition refl 32 (map edition_told q.e) f, b)

  regulars : keep holds_regular (venue_told rs).regular ≡ regulars_of q.o
  unfolding venue_told
  regulars =
      rw (kept 2 2 tells_regular regulars-only refl) (places-kept holds_regular no_regular refl 128 (regulars_of q.o)
      (each_more (λ o. (0 ≤ o.id) × (holds_regular o ≡ true)) (λ o. holds_regular o ≡ true) (λ o z. z.1) (regulars_of q.o) (regulars-so 0 q.o q.orders q.orders-rise)))

  complexes : keep holds_complex (venue_told rs).complex ≡ complexes_of q.o
  unfolding venue_told
  complexes =
      rw (kept 2 2 tells_complex complexes-only refl) (places-kept holds_complex no_complex refl 32 (complexes_of q.o)
      (each_more (λ o. (0 ≤ o.id) × (holds_complex o ≡ true)) (λ o. holds_complex o ≡ true) (λ o z. z.1) (complexes_of q.o) (complexes-so 0 q.o q.orders q.orders-rise)))

  books-back : by_id (length (keep holds_regular (venue_told rs).regular) + length (keep holds_complex (venue_told rs).complex))
      (keep holds_regular (venue_told rs).regular) (keep holds_complex (venue_told rs).complex) ≡ q.o
  books-back = rw (regulars, complexes) (books-again (length (regulars_of q.o) + length (complexes_of q.o)) 0 q.o q.orders q.orders-rise (omega arith))

  all-leggings : keep tells_legging q.l ≡ q.l
  all-leggings = keep-every tells_legging q.l (each_more (λ r. part r ≡ 3) (λ r. tells_legging r ≡ true) (λ r k. (sort-of r 3 k).2) q.l q.parts.1.1.1.0)

  leggings-back : legging_records 0 (venue_told rs).legging ≡ q.l
  unfolding venue_told
  leggings-back =
      rw (upward-same (legging_told rs) (legging_told q.l) 0 16 (λ i le. legging-kept rs i ∙ ap (λ (m : List (List ℕ)). legging_told m i) (kept 3 3 tells_legging leggings-only refl ∙ all-leggings)))
      (leggings-again 8 0 q.l refl q.leggings q.leggings-rise)

  generations-same : (s : ℕ) → generations_told rs s ≡ generations_told q.g s
  unfolding generations_told
  generations-same s = rw (kept 4 4 (of_series s) (series-only s) refl)

  generations-back : generation_records 0 (venue_told rs).generations ≡ q.g
  unfolding venue_told
  generations-back = rw (upward-same (generations_told rs) (generations_told q.g) 0 8 (λ i le. generations-same i)) (generations-again 8 0 q.g q.generations ∙ q.by-series)

  reached-back : reached_records (venue_told rs).reached ≡ q.z
  unfolding venue_told
  reached-back =
      let all = keep-every (λ r. eqb (kind_field r) 84) q.z (each_more (λ r. part r ≡ 5) (λ r. eqb (kind_field r) 84 ≡ true) (λ r k. (sort-of r 5 k).4) q.z q.parts.1.1.1.1.1.0) in
      rw (reached-kept rs, kept 5 5 (λ r. eqb (kind_field r) 84) reached-only refl, all) (reached-again q.z q.reached q.reached-order)

  first_back : first_record (number_told rs) (venue_told rs).last ≡ q.first
  unfolding venue_told number_told last_told
  first_back = ap (λ (m : List (List ℕ)). first_record (u32_at (get_or m 0 []) 4) (u32_at (get_or m 0 []) 8)) q.is ∙ q.spelled

  series-back : (venue_told rs).series ≡ q.xs
  unfolding venue_told
  series-back = rw (← q.size) (upward-is (listed_told rs) not_listed 0 q.xs one)
    where
      one : (i : ℕ) → i < length q.xs → listed_told rs (0 + i) ≡ get_or q.xs i not_listed
      one i lt =
          let n : 0 + i ≡ i = omega arith in
          rw n (ap (λ (m : List (List ℕ)). listed_told m i) q.is ∙ listed_back (flat (q.e ∷ q.o ∷ q.l ∷ q.g ∷ q.z ∷ [])) q.first q.xs i lt (q.tells i lt))

  set_back : set_of (number_told rs) (venue_told rs) ≡ rs
  set_back =
      set-parts (number_told rs) (venue_told rs)
      ∙ rw (first_back, series-back, editions-back, books-back, leggings-back, generations-back, reached-back) (sym q.is)

-- What is read --------------------------------------------------------------------------------

each-later : (P : List ℕ → Type 0) (a b : List (List ℕ)) → Each P (a ++ b) → Each P b
each-later P [] b h = h
each-later P (x ∷ a) b h = each-later P a b h.1

all-out : (f : List ℕ → Bool) (l : List (List ℕ)) → all f l ≡ true → Each (λ r. f r ≡ true) l
unfolding all
all-out f [] h = tt
all-out f (x ∷ l) h = (and_l (f x) (all f l) h, all-out f l (and_r (f x) (all f l) h))

part-few : (r : List ℕ) → part r < 1 + 5
unfolding part
part-few r = go (tells_edition r) (tells_regular r || tells_complex r) (tells_legging r) (tells_generation r) (eqb (kind_field r) 84)
  where
    go : (a b c d e : Bool) → (if a then 1 else if b then 2 else if c then 3 else if d then 4 else if e then 5 else 0) < 1 + 5
    go true b c d e = omega arith
    go false true c d e = omega arith
    go false false true d e = omega arith
    go false false false true e = omega arith
    go false false false false true = omega arith
    go false false false false false = omega arith

-- the first record is of no later part
first_part : (r : List ℕ) → kind_field r ≡ 80 → part r ≡ 0
unfolding part tells_edition tells_regular tells_complex tells_legging tells_generation
first_part r k = rw k

-- a record after the series'
record Rest (r : List ℕ) : Type 0 where
  clean : Clean r
  place : has_place r ≡ true
  some : 1 ≤ part r
  whole : eqb (kind_field r) 1 ≡ false

rests : (l : List (List ℕ)) → Each Clean l → Each (λ r. has_place r ≡ true) l → Each (λ r. of_whole r ≡ true) l → Each Rest l
unfolding of_whole
rests [] c p w = tt
rests (r ∷ l) c p w =
    let a = eqb-false (part r) 0 (not-out (eqb (part r) 0) (and_l (not (eqb (part r) 0)) (not (eqb (kind_field r) 1)) w.0)) in
    (record { clean = c.0; place = p.0; some = omega arith; whole = not-out (eqb (kind_field r) 1) (and_r (not (eqb (part r) 0)) (not (eqb (kind_field r) 1)) w.0) }, rests l c.1 p.1 w.1)

-- the records of a part
abbrev of_part : (k : ℕ) → List (List ℕ) → List (List ℕ)
of_part k l = keep (λ r. eqb (part r) k) l

part-rests : (k : ℕ) (l : List (List ℕ)) → Each Rest l → Each (λ r. Rest r × (part r ≡ k)) (of_part k l)
unfolding keep
part-rests k [] h = tt
part-rests k (r ∷ l) h = go (eqb (part r) k) refl (part-rests k l h.1)
  where
    go : (b : Bool) → eqb (part r) k ≡ b → Each (λ r. Rest r × (part r ≡ k)) (of_part k l) → Each (λ r. Rest r × (part r ≡ k)) (if b then r ∷ of_part k l else of_part k l)
    go true e ih = ((h.0, eqb-true (part r) k e), ih)
    go false e ih = ih

module _ (tail : List (List ℕ)) (h : Each Rest tail) (o : in_order tail ≡ true) where
  whole-tail : tail ≡ flat (of_part 1 tail ∷ of_part 2 tail ∷ of_part 3 tail ∷ of_part 4 tail ∷ of_part 5 tail ∷ [])
  whole-tail = sym (pieces_are part 1 5 1 tail (omega arith) (parts-climb 1 tail (each_more Rest (λ r. 1 ≤ part r) (λ r f. f.some) tail h) o) (every (λ r. part r < 1 + 5) part-few tail))

  part-of : (k : ℕ) → Of k (of_part k tail)
  part-of k = each_more (λ r. Rest r × (part r ≡ k)) (λ r. part r ≡ k) (λ r f. f.1) (of_part k tail) (part-rests k tail h)

  -- each part in order
  orders-of : (in_order (of_part 2 tail) ≡ true) × (in_order (of_part 3 tail) ≡ true) × (in_order (of_part 4 tail) ≡ true) × (in_order (of_part 5 tail) ≡ true)
  orders-of =
      let t = subst (λ (l : List (List ℕ)). in_order l ≡ true) whole-tail o in
      let a = order-split (of_part 1 tail) (flat (of_part 2 tail ∷ of_part 3 tail ∷ of_part 4 tail ∷ of_part 5 tail ∷ [])) t in
      let b = order-split (of_part 2 tail) (flat (of_part 3 tail ∷ of_part 4 tail ∷ of_part 5 tail ∷ [])) a.1 in
      let c = order-split (of_part 3 tail) (flat (of_part 4 tail ∷ of_part 5 tail ∷ [])) b.1 in
      let d = order-split (of_part 4 tail) (flat (of_part 5 tail ∷ [])) c.1 in
      let e = order-split (of_part 5 tail) [] d.1 in
      (b.0, c.0, d.0, e.0)

  each_of : (k : ℕ) (P : List ℕ → Type 0) → ((r : List ℕ) → Clean r → has_place r ≡ true → eqb (kind_field r) 1 ≡ false → part r ≡ k → P r) → Each P (of_part k tail)
  each_of k P f = each_more (λ r. Rest r × (part r ≡ k)) P (λ r z. f r z.0.clean z.0.place z.0.whole z.1) (of_part k tail) (part-rests k tail h)

  generations-of : Each GenerationOf (of_part 4 tail)
  generations-of = each_of 4 GenerationOf (λ r c p w k. generation-of r c p k)

  by-series-of : pieces sort_key 0 8 (of_part 4 tail) ≡ of_part 4 tail
  by-series-of =
      pieces_are sort_key 0 8 0 (of_part 4 tail) (omega arith) (sort-keys-climb 4 (of_part 4 tail) (part-of 4) orders-of.2)
      (each_more GenerationOf (λ r. sort_key r < 0 + 8) (λ r g. (let a = g.marked in let b = g.series in omega arith)) (of_part 4 tail) generations-of)

  read-tail : (first : List ℕ) (rs : List (List ℕ)) (xs : List Listed) → rs ≡ series_records 0 xs ++ tail → Clean first → kind_field first ≡ 80 → length xs ≡ 8 →
      ((i : ℕ) → i < length xs → Tells i (get_or xs i not_listed)) → Of 0 (series_records 0 xs) → Read (first ∷ rs)
  read-tail first rs xs is c k n t f = record {
    first = first;
    xs = xs;
    e = of_part 1 tail;
    o = of_part 2 tail;
    l = of_part 3 tail;
    g = of_part 4 tail;
    z = of_part 5 tail;
    is = ap (λ (m : List (List ℕ)). first ∷ m) (is ∙ ap (λ (m : List (List ℕ)). series_records 0 xs ++ m) whole-tail);
    parts = ((first_part first k, f), (part-of 1, (part-of 2, (part-of 3, (part-of 4, (part-of 5, tt))))));
    spelled = first-spelled first c k;
    size = n;
    tells = t;
    editions = each_of 1 (λ r. (edition_record (edition_told r) ≡ r) × (held (edition_told r).edition ≡ true)) (λ r c p w k. edition-of r c p k);
    orders = each_of 2 OrderOf (λ r c p w k. order-of r c p k w);
    orders-rise = sort-keys-rise 2 0 refl (of_part 2 tail) (part-of 2) (every (λ r. 0 ≤ sort_key r) (λ r. omega arith) (of_part 2 tail)) orders-of.0;
    leggings = each_of 3 LeggingOf (λ r c p w k. legging-of r c p k);
    leggings-rise = sort-keys-rise 3 0 refl (of_part 3 tail) (part-of 3) (every (λ r. 0 ≤ sort_key r) (λ r. omega arith) (of_part 3 tail)) orders-of.1;
    generations = generations-of;
    by-series = by-series-of;
    reached = each_of 5 ReachedOf (λ r c p w k. (let z = reached-of r c p k in (k, z.0, z.1, z.2)));
    reached-order = orders-of.3;
  }

read-series : (r : List ℕ) (rs : List (List ℕ)) → Clean r → kind_field r ≡ 80 → Each Clean rs → Each (λ r. has_place r ≡ true) rs → SeriesOf 8 0 of_whole rs → Read (r ∷ rs)
read-series r rs c k cs ps so =
    let w = so.rest in
    let later : (P : List ℕ → Type 0) → Each P rs → Each P so.tail = λ P h. each-later P (series_records 0 so.xs) so.tail (subst (λ (l : List (List ℕ)). Each P l) so.is h) in
    let t = rests so.tail (later Clean cs) (later (λ r. has_place r ≡ true) ps)
    (all-out of_whole so.tail
    (and_l (all of_whole so.tail) (in_order so.tail) (and_l (all of_whole so.tail && in_order so.tail) (few_enough so.tail) w))) in
    read-tail so.tail t
    (and_r (all of_whole so.tail) (in_order so.tail) (and_l (all of_whole so.tail && in_order so.tail) (few_enough so.tail) w)) r rs
    so.xs so.is c k so.size (λ i lt. so.tells i lt i (omega arith)) so.front

read_out : (rs : List (List ℕ)) → Each Clean rs → is_set rs ≡ true → Each (λ r. has_place r ≡ true) rs → kind_field (get_or rs 0 []) ≡ 80 → Read rs
unfolding is_set
read_out [] c h p k = absurd (false≢true h)
read_out (r ∷ rs) c h p k = read-series r rs c.0 k c.1 p.1 (series-out 8 0 of_whole rs c.1 (rw k at h))

-- what is read
record Done (rs : List (List ℕ)) : Type 0 where
  set : is_set rs ≡ true
  places : all has_place rs ≡ true
  carried : carries (number_told rs) (venue_told rs) ≡ true
  is : read_row rs ≡ record { number = 0; venue = venue_told rs; message = number_told rs }

done : (rs : List (List ℕ)) → (read_row rs).number ≡ 0 → Done rs
unfolding read_row not_read
done rs h = go (is_set rs) (all has_place rs && carries (number_told rs) (venue_told rs)) refl refl h
  where
    go : (a b : Bool) → is_set rs ≡ a → (all has_place rs && carries (number_told rs) (venue_told rs)) ≡ b →
        (if not a then not_read 16 else if not b then not_read 9 else record { number = 0; venue = venue_told rs; message = number_told rs }).number ≡ 0 → Done rs
    go true true e f k = record {
      set = e;
      places = and_l (all has_place rs) (carries (number_told rs) (venue_told rs)) f;
      carried = and_r (all has_place rs) (carries (number_told rs) (venue_told rs)) f;
      is = rw (e, f);
    }
    go true false e f k = absurd (omega arith)
    go false b e f k = absurd (omega arith)

module _ (memory : List ℕ) (rs : List (List ℕ)) (b : AllBytes memory) (h : held_in memory ≡ row rs) (k : kind_field (get_or rs 0 []) ≡ 80) (n : (read_set memory).number ≡ 0) where
  read_done : Done rs
  read_done = done rs (rw (read-row memory rs h) at n)

  read_is : read_set memory ≡ record { number = 0; venue = venue_told rs; message = number_told rs }
  read_is = read-row memory rs h ∙ read_done.is

  told_back : set_of (number_told rs) (venue_told rs) ≡ rs
  unfolding held_in
  told_back =
      let held = held_out (length memory) memory rs h in
      let c = cleans rs held.well (rw held.bytes at (bytes_take (length (joined rs)) memory b)) in
      set_back rs (read_out rs c read_done.set (all-out has_place rs read_done.places) k)

pub writes-back : WritesBack
writes-back memory rs b h k n = rw (read_is memory rs b h k n) (told_back memory rs b h k n)

pub bytes_back : BytesBack
unfolding write_set
bytes_back memory rs b h k n =
    let m = length (joined rs) in
    let z : m - m ≡ 0 = omega arith in
    rw (read_is memory rs b h k n, (read_done memory rs b h k n).carried, told_back memory rs b h k n, le-ltb m m (omega arith), z, rows_are memory rs h, append-nil (joined rs))
