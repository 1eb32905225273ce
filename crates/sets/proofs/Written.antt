-- The set of a venue that may be carried: its parts, that it is a set, and that all of it has a place.
use Rattle.std.specs.Prelude.{if◌then◌else◌}
use mathlib.Core.Path.{◌≡◌, refl, ap, ◌∙◌}
use mathlib.Core.Bool.{Bool, true, false, ◌&&◌}
use mathlib.Core.List.{List, [], ◌∷◌, ◌++◌, append_assoc, append-nil, map}
use Prim.Native.Nat.{ℕ, suc, ◌≤◌, ◌+◌, ◌*◌}
use native.Mathlib.Omega.{arith}
use lib.Dec.{eqb}
use lib.ListN.{get_or, length, length-map}
use borrow.Author.Tests.{eq-eqb, ne_eqb}
use Rattle.rules.specs.declared.Regular.{Regular}
use Rattle.rules.specs.declared.Complex.{Complex}
use Rattle.rules.specs.declared.Edition.{Edition}
use Rattle.rules.specs.declared.Legging.{Legging}
use Rattle.rules.specs.declared.Listed.{Listed}
use Rattle.rules.specs.declared.Venue.{Venue}
use Rattle.rules.specs.Base.{all, held, keep}
use Rattle.rules.specs.Words.{no_generations}
use Rattle.rules.specs.Bytes.{framed, u32}
use Rattle.rules.specs.Generation.{generations_of}
use Rattle.rules.specs.Places.{holds_complex, holds_edition, holds_regular}
use Rattle.rules.specs.Sound.{listed_in_range}
use Rattle.demands.specs.Soundness.{Shaped}
use Rattle.sets.specs.Set.{by_id, complex_record, count_of, edition_record, few_enough, first_record, generation_record, generation_records, has_place}
use Rattle.sets.specs.Set.{in_order, is_set, legging_record, legging_records, sort_key}
use Rattle.sets.specs.Set.{of_series, of_whole, part, reached_records, regular_record, series_records, series_then, set_of, tells_complex, tells_edition, tells_legging, tells_regular}
use Rattle.sets.proofs.Counts.{few-in}
use Rattle.sets.proofs.Lists.{Each, all-each, each_append, each_map, each_more, keep-few, rising-map, rising-order}
use Rattle.sets.proofs.Rows.{AllWell, Well}
use Rattle.sets.proofs.Records.{first_kind, listed-tells}
use Rattle.sets.proofs.PartsKept.{Parts, complexes-only, editions-only, flat, leggings-only, parts-kept, parts-order, regulars-only, series-only}
use Rattle.sets.proofs.Fine.{Fine, Good, away-fine, first_fine, good, reached-fine, status-fine}
use Rattle.sets.proofs.Merging.{merge-complex, merge-each, merge-regular, merge-rises}
use Rattle.sets.proofs.Slots.{leggings-good, leggings-rise}
use Rattle.sets.proofs.Numbers.{generations-good, generations-order, series-kept}
use Rattle.sets.proofs.Carried.{Carried}

-- the parts of a set after its front
abbrev pub tail_of : Venue → List (List (List ℕ))
tail_of v =
    map edition_record (keep holds_edition v.editions)
    ∷ by_id (length (keep holds_regular v.regular) + length (keep holds_complex v.complex)) (keep holds_regular v.regular) (keep holds_complex v.complex)
    ∷ legging_records 0 v.legging
    ∷ generation_records 0 v.generations
    ∷ reached_records v.reached
    ∷ []

-- the front: the first record and the series'
abbrev pub front_of : (number : ℕ) → Venue → List (List ℕ)
front_of number v = first_record number v.last ∷ series_records 0 v.series

pub set-parts : (number : ℕ) (v : Venue) → set_of number v ≡ front_of number v ++ flat (tail_of v)
unfolding set_of
set-parts number v = simp (append_assoc, append-nil)

-- Each record ---------------------------------------------------------------------------------

-- parts from part j on, each record of which is one of a whole set
abbrev pub Goods : (j : ℕ) → List (List (List ℕ)) → Type 0
Goods j [] = Unit {0}
Goods j (p ∷ ps) = Each (Good j) p × Goods (suc j) ps

pub goods-parts : (j : ℕ) (ps : List (List (List ℕ))) → Goods j ps → Parts j ps
goods-parts j [] h = tt
goods-parts j (p ∷ ps) h = (each_more (Good j) (λ r. part r ≡ j) (λ r f. f.of) p h.0, goods-parts (suc j) ps h.1)

pub goods-each : (P : List ℕ → Type 0) (j : ℕ) (ps : List (List (List ℕ))) → ((k : ℕ) (r : List ℕ) → j ≤ k → Good k r → P r) → Goods j ps → Each P (flat ps)
goods-each P j [] f h = tt
goods-each P j (p ∷ ps) f h =
    each_append P p (flat ps) (each_more (Good j) P (λ r g. f j r (omega arith) g) p h.0) (goods-each P (suc j) ps (λ k r le g. f k r (omega arith) g) h.1)

-- the records of the series
series-good : (s : ℕ) (xs : List Listed) → s + length xs ≤ 8 → Each (λ x. listed_in_range x ≡ true) xs → Each (Good 0) (series_records s xs)
unfolding series_records
series-good s [] le h = tt
series-good s (x ∷ xs) le h =
    let t = listed-tells s x (omega arith) h.0 in
    (good 0 0 _ (status-fine s x t), (good 0 0 _ (away-fine s x t), series-good (suc s) xs (omega arith) h.1))

-- the series' records, and then a tail
series-then : (of : List ℕ → Bool) (rs : List (List ℕ)) (s : ℕ) (xs : List Listed) → s + length xs ≤ 8 → Each (λ x. listed_in_range x ≡ true) xs →
    series_then (length xs) s of (series_records s xs ++ rs) ≡ (all of rs && in_order rs && few_enough rs)
unfolding series_then series_records
series-then of rs s [] le h = refl
series-then of rs s (x ∷ xs) le h =
    let t = listed-tells s x (omega arith) h.0 in
    rw (t.status-kind, t.status-series, t.away-kind, t.away-series, eq-eqb s s refl) (series-then of rs (suc s) xs (omega arith) h.1)

-- a record after the front is one of a whole set
good-whole : (k : ℕ) (r : List ℕ) → 1 ≤ k → Good k r → of_whole r ≡ true
unfolding of_whole
good-whole k r le g = rw (g.of, ne_eqb k 0 (λ e. omega arith), g.whole)

-- a place has one record at most
leggings-few : (s : ℕ) (ls : List Legging) → length (legging_records s ls) ≤ length ls
unfolding legging_records
leggings-few s [] = omega arith
leggings-few s (l ∷ []) = omega arith
leggings-few s (l ∷ k ∷ ls) = go (held l.quantity) (held k.quantity) (leggings-few (suc s) ls)
  where
    go : (a b : Bool) → length (legging_records (suc s) ls) ≤ length ls →
        length ((if a then legging_record s 0 l ∷ [] else []) ++ (if b then legging_record s 1 k ∷ [] else []) ++ legging_records (suc s) ls) ≤ suc (suc (length ls))
    go true true h = omega arith
    go true false h = omega arith
    go false true h = omega arith
    go false false h = omega arith

module _ (v : Venue) (w : Shaped v) (c : Carried v) where
  abbrev os : List Regular
  os = keep holds_regular v.regular

  abbrev cs : List Complex
  cs = keep holds_complex v.complex

  abbrev es : List Edition
  es = keep holds_edition v.editions

  orders-good : Each (Good 2) (by_id (length os + length cs) os cs)
  orders-good =
      merge-each (Good 2) (length os + length cs) os cs
      (each_more (λ o. Fine 2 o.id (regular_record o)) (λ o. Good 2 (regular_record o)) (λ o f. good 2 o.id (regular_record o) f) os c.regular.fine)
      (each_more (λ o. Fine 2 o.id (complex_record o)) (λ o. Good 2 (complex_record o)) (λ o f. good 2 o.id (complex_record o) f) cs c.complex.fine)

  editions-good : Each (Good 1) (map edition_record es)
  editions-good = each_map (Good 1) edition_record es
      (each_more (λ e. Fine 1 e.edition (edition_record e)) (λ e. Good 1 (edition_record e)) (λ e f. good 1 e.edition (edition_record e) f) es
      c.editions.fine)

  reached-good : Each (Good 5) (reached_records v.reached)
  unfolding reached_records
  reached-good = go (held v.reached) refl
    where
      go : (b : Bool) → held v.reached ≡ b → Each (Good 5) (if b then framed 84 (u32 v.reached) ∷ [] else [])
      go true e = (good 5 0 _ (reached-fine v.reached c.reached e), tt)
      go false e = tt

  pub tail-goods : Goods 1 (tail_of v)
  tail-goods =
      let n = w.legging in
      let m = w.generations in (
        editions-good,
        (
          orders-good,
          (
            leggings-good 0 v.legging (omega arith) c.legging,
            (
              each_more (λ r. Good 4 r × (0 ≤ sort_key r)) (Good 4) (λ r f. f.0) (generation_records 0 v.generations)
                  (generations-good 0 v.generations (omega arith) c.generations),
              (reached-good, tt),
            ),
          ),
        ),
      )

  pub front-good : (number : ℕ) → Each (Good 0) (front_of number v)
  front-good number = let n = w.series in (good 0 0 _ (first_fine number v.last), series-good 0 v.series (omega arith) c.series)

  pub set-goods : (number : ℕ) → Goods 0 (front_of number v ∷ tail_of v)
  set-goods number = (front-good number, tail-goods)

  -- Order -------------------------------------------------------------------------------------

  orders-order : in_order (by_id (length os + length cs) os cs) ≡ true
  orders-order =
      rising-order 2 1 (by_id (length os + length cs) os cs) (each_more (Good 2) (λ r. part r ≡ 2) (λ r f. f.of) (by_id (length os + length cs) os cs) orders-good)
      (merge-rises (length os + length cs) 1 os cs
      (each_more (λ o. Fine 2 o.id (regular_record o)) (λ o. sort_key (regular_record o) ≡ o.id) (λ o f. f.marked) os c.regular.fine)
      (each_more (λ o. Fine 2 o.id (complex_record o)) (λ o. sort_key (complex_record o) ≡ o.id) (λ o f. f.marked) cs c.complex.fine)
      c.distinct c.regular.rises c.complex.rises)

  editions-order : in_order (map edition_record es) ≡ true
  editions-order =
      rising-order 1 1 (map edition_record es) (each_more (Good 1) (λ r. part r ≡ 1) (λ r f. f.of) (map edition_record es) editions-good)
      (rising-map (λ e. e.edition) sort_key edition_record 1 es
      (each_more (λ e. Fine 1 e.edition (edition_record e)) (λ e. sort_key (edition_record e) ≡ e.edition) (λ e f. f.marked) es
      c.editions.fine) c.editions.rises)

  leggings-order : in_order (legging_records 0 v.legging) ≡ true
  leggings-order =
      let n = w.legging in
      rising-order 3 (2 * 0) (legging_records 0 v.legging)
      (each_more (Good 3) (λ r. part r ≡ 3) (λ r f. f.of) (legging_records 0 v.legging)
      (leggings-good 0 v.legging (omega arith) c.legging))
      (leggings-rise 0 v.legging (omega arith) c.legging)

  reached-order : in_order (reached_records v.reached) ≡ true
  unfolding reached_records in_order
  reached-order = go (held v.reached)
    where
      go : (b : Bool) → in_order (if b then framed 84 (u32 v.reached) ∷ [] else []) ≡ true
      go true = refl
      go false = refl

  tail-order : in_order (flat (tail_of v)) ≡ true
  tail-order =
      let m = w.generations in
      parts-order 1 (tail_of v) (goods-parts 1 (tail_of v) tail-goods)
      ((
        editions-order,
        (
          orders-order,
          (leggings-order, (generations-order 0 v.generations (omega arith) c.generations, (reached-order, tt))),
        ),
      ))

  -- Counts ------------------------------------------------------------------------------------

  tail-kept : (k i : ℕ) (f : List ℕ → Bool) → ((r : List ℕ) (j : ℕ) → part r ≡ j → eqb j k ≡ false → f r ≡ false) → 1 + i ≡ k → keep f (flat (tail_of v)) ≡ keep f (get_or (tail_of v) i [])
  tail-kept k i f only n = parts-kept k f only i 1 n (tail_of v) (goods-parts 1 (tail_of v) tail-goods)

  few-editions : count_of tells_edition (flat (tail_of v)) ≤ 32
  unfolding count_of
  few-editions =
      let k = ap (λ (l : List (List ℕ)). length l) (tail-kept 1 0 tells_edition editions-only refl) in
      let a = keep-few tells_edition (map edition_record es) in
      let b = length-map es edition_record in
      let d = keep-few holds_edition v.editions in
      let n = w.editions in
      omega arith

  few-regulars : count_of tells_regular (flat (tail_of v)) ≤ 128
  unfolding count_of
  few-regulars =
      let k = ap (λ (l : List (List ℕ)). length l) (tail-kept 2 1 tells_regular regulars-only refl ∙ merge-regular (length os + length cs) os cs (omega arith)) in
      let b = length-map os regular_record in
      let d = keep-few holds_regular v.regular in
      let n = w.regular in
      omega arith

  few-complexes : count_of tells_complex (flat (tail_of v)) ≤ 32
  unfolding count_of
  few-complexes =
      let k = ap (λ (l : List (List ℕ)). length l) (tail-kept 2 1 tells_complex complexes-only refl ∙ merge-complex (length os + length cs) os cs (omega arith)) in
      let b = length-map cs complex_record in
      let d = keep-few holds_complex v.complex in
      let n = w.complex in
      omega arith

  few-leggings : count_of tells_legging (flat (tail_of v)) ≤ 16
  unfolding count_of
  few-leggings =
      let k = ap (λ (l : List (List ℕ)). length l) (tail-kept 3 2 tells_legging leggings-only refl) in
      let a = keep-few tells_legging (legging_records 0 v.legging) in
      let b = leggings-few 0 v.legging in
      let n = w.legging in
      omega arith

  -- of each series
  few-generations : (s : ℕ) → count_of (of_series s) (flat (tail_of v)) ≤ 20
  unfolding count_of generations_of
  few-generations s =
      let m = w.generations in
      let ns = keep held (get_or v.generations s no_generations).messages in
      let k = ap (λ (l : List (List ℕ)). length l) (tail-kept 4 3 (of_series s) (series-only s) refl ∙ series-kept 0 s v.generations (omega arith) s (omega arith)) in
      let b = length-map ns (generation_record s) in
      let d = keep-few held (get_or v.generations s no_generations).messages in
      let n = w.twenty s in
      omega arith

  few : few_enough (flat (tail_of v)) ≡ true
  unfolding count_of
  few = few-in (flat (tail_of v)) (record {
    editions = few-editions;
    regulars = few-regulars;
    complexes = few-complexes;
    leggings = few-leggings;
    generations = few-generations;
  })

  -- It is a set -------------------------------------------------------------------------------

  tail-whole : all of_whole (flat (tail_of v)) ≡ true
  tail-whole = all-each of_whole (flat (tail_of v)) (goods-each (λ r. of_whole r ≡ true) 1 (tail_of v) good-whole tail-goods)

  pub is-set : (number : ℕ) → is_set (front_of number v ++ flat (tail_of v)) ≡ true
  unfolding is_set
  is-set number =
      let n = w.series in
      rw (first_kind number v.last, ← n, series-then of_whole (flat (tail_of v)) 0 v.series (omega arith) c.series, tail-whole, tail-order, few)

  pub all_placed : (number : ℕ) → all has_place (front_of number v ++ flat (tail_of v)) ≡ true
  all_placed number =
      all-each has_place (flat (front_of number v ∷ tail_of v)) (goods-each (λ r. has_place r ≡ true) 0 (front_of number v ∷ tail_of v) (λ k r le g. g.place) (set-goods number))

  pub all-well : (number : ℕ) → AllWell (front_of number v ++ flat (tail_of v))
  all-well number = goods-each Well 0 (front_of number v ∷ tail_of v) (λ k r le g. g.well) (set-goods number)
