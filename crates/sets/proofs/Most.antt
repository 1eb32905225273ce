-- The most bytes of a set, by the length of each record and how many there are.
use Rattle.std.specs.Prelude.{if◌then◌else◌}
use mathlib.Core.Path.{◌≡◌, ap}
use mathlib.Core.Bool.{Bool, true, false}
use mathlib.Core.List.{List, [], ◌∷◌, ◌++◌, append-nil, map}
use Prim.Native.Nat.{ℕ, zero, suc, ◌≤◌, ◌+◌, ◌*◌}
use native.Mathlib.Nat.{mul-suc}
use native.Mathlib.Omega.{arith}
use lib.Dec.{eqb, ltb}
use lib.ListN.{get_or, length, length-append, length-map}
use Rattle.rules.specs.declared.Regular.{Regular}
use Rattle.rules.specs.declared.Complex.{Complex}
use Rattle.rules.specs.declared.Edition.{Edition}
use Rattle.rules.specs.declared.Generations.{Generations}
use Rattle.rules.specs.declared.Legging.{Legging}
use Rattle.rules.specs.declared.Listed.{Listed}
use Rattle.rules.specs.declared.Venue.{Venue}
use Rattle.rules.specs.declared.Message.TheVariants.{Away, Status}
use Rattle.rules.specs.Base.{held, keep}
use Rattle.rules.specs.Settings.{percentage}
use Rattle.rules.specs.Words.{no_generations, one_to_one}
use Rattle.rules.specs.Bytes.{bytes, framed, u32, u8}
use Rattle.rules.specs.Messages.{encode_message, order_fields, two_leg_fields}
use Rattle.rules.specs.Generation.{generations_of}
use Rattle.rules.specs.Places.{holds_complex, holds_edition, holds_regular}
use Rattle.sets.specs.Set.{by_id, complex_record, edition_record, first_record, generation_record, generation_records, joined, legging_record}
use Rattle.sets.specs.Set.{legging_records, reached_records, regular_record, series_records}
use Rattle.sets.specs.Promises.{AtMost}
use Rattle.sets.proofs.Lists.{Each, each_map, every, keep-few}
use Rattle.sets.proofs.PartsKept.{flat}
use Rattle.sets.proofs.Written.{front_of, set-parts, tail_of}

-- the bytes of a row
abbrev size : List (List ℕ) → ℕ
size rs = length (joined rs)

size-append : (a b : List (List ℕ)) → size (a ++ b) ≡ size a + size b
unfolding joined
size-append [] b = omega arith
size-append (r ∷ a) b = let h = size-append a b in simp length-append (omega arith)

size-each : (m : ℕ) (rs : List (List ℕ)) → Each (λ r. length r ≤ m) rs → size rs ≤ m * length rs
unfolding joined
size-each m [] h = omega arith
size-each m (r ∷ rs) h = let k = size-each m rs h.1 in let z = h.0 in simp (length-append, mul-suc) (omega arith)

-- records of so many bytes at most, one for each of a list
made-size : {A : Type 0} (m : ℕ) (f : A → List ℕ) → ((x : A) → length (f x) ≤ m) → (l : List A) → size (map f l) ≤ m * length l
made-size m f h l = rw (← length-map l f) (size-each m (map f l) (each_map (λ r. length r ≤ m) f l (every (λ x. length (f x) ≤ m) h l)))

-- Each record ---------------------------------------------------------------------------------

edition-size : (e : Edition) → length (edition_record e) ≤ 14
unfolding edition_record framed bytes
edition-size e = go (eqb e.figure percentage)
  where
    go : (b : Bool) → length (if b then framed 8 (u8 e.value ++ u32 e.edition ++ u32 e.message) else framed 7 (u8 e.figure ++ u8 e.value ++ u32 e.edition ++ u32 e.message)) ≤ 14
    go true = omega arith
    go false = omega arith

regular-size : (o : Regular) → length (regular_record o) ≤ 22
unfolding regular_record order_fields framed bytes
regular-size o = omega arith

complex-size : (c : Complex) → length (complex_record c) ≤ 23
unfolding complex_record encode_message two_leg_fields framed bytes
complex-size c = go (one_to_one c)
  where
    go : (b : Bool) → length (if b then framed 2 (two_leg_fields c) else framed 10 (two_leg_fields c ++ u8 c.ratio1 ++ u8 c.ratio2)) ≤ 23
    go true = omega arith
    go false = omega arith

legging-size : (s d : ℕ) (l : Legging) → length (legging_record s d l) ≤ 18
unfolding legging_record framed bytes
legging-size s d l = omega arith

generation-size : (s n : ℕ) → length (generation_record s n) ≤ 9
unfolding generation_record framed bytes
generation-size s n = omega arith

-- Each part -----------------------------------------------------------------------------------

status-size : (s x : ℕ) → length (encode_message (Status s x)) ≤ 6
unfolding encode_message framed bytes
status-size s x = omega arith

away-size : (s bid offer : ℕ) → length (encode_message (Away s bid offer)) ≤ 13
unfolding encode_message framed bytes
away-size s bid offer = omega arith

series-size : (s : ℕ) (xs : List Listed) → size (series_records s xs) ≤ 19 * length xs
unfolding series_records joined
series-size s [] = omega arith
series-size s (x ∷ xs) =
    let a = status-size s x.status in
    let b = away-size s x.bid x.offer in
    let h = series-size (suc s) xs in
    simp length-append (omega arith)

front-size : (number : ℕ) (v : Venue) → size (front_of number v) ≤ 12 + 19 * length v.series
unfolding joined first_record framed bytes
front-size number v = let h = series-size 0 v.series in omega arith

books-size : (fuel : ℕ) (os : List Regular) (cs : List Complex) → size (by_id fuel os cs) ≤ 22 * length os + 23 * length cs
unfolding by_id joined
books-size zero os cs = omega arith
books-size (suc fuel) [] cs = let h = made-size 23 complex_record complex-size cs in omega arith
books-size (suc fuel) (o ∷ os) [] = let h = made-size 22 regular_record regular-size (o ∷ os) in omega arith
books-size (suc fuel) (o ∷ os) (c ∷ cs) = go (ltb o.id c.id) (books-size fuel os (c ∷ cs)) (books-size fuel (o ∷ os) cs)
  where
    go : (b : Bool) → size (by_id fuel os (c ∷ cs)) ≤ 22 * length os + 23 * suc (length cs) → size (by_id fuel (o ∷ os) cs) ≤ 22 * suc (length os) + 23 * length cs →
        size (if b then regular_record o ∷ by_id fuel os (c ∷ cs) else complex_record c ∷ by_id fuel (o ∷ os) cs) ≤ 22 * suc (length os) + 23 * suc (length cs)
    go true x y = let z = regular-size o in simp length-append (omega arith)
    go false x y = let z = complex-size c in simp length-append (omega arith)

leggings-size : (s : ℕ) (ls : List Legging) → size (legging_records s ls) ≤ 18 * length ls
unfolding legging_records joined
leggings-size s [] = omega arith
leggings-size s (l ∷ []) = omega arith
leggings-size s (l ∷ k ∷ ls) = go (held l.quantity) (held k.quantity) (leggings-size (suc s) ls) (legging-size s 0 l) (legging-size s 1 k)
  where
    go : (a b : Bool) → size (legging_records (suc s) ls) ≤ 18 * length ls → length (legging_record s 0 l) ≤ 18 → length (legging_record s 1 k) ≤ 18 →
        size ((if a then legging_record s 0 l ∷ [] else []) ++ (if b then legging_record s 1 k ∷ [] else []) ++ legging_records (suc s) ls) ≤ 18 * suc (suc (length ls))
    go true true h x y = simp length-append (omega arith)
    go true false h x y = simp length-append (omega arith)
    go false true h x y = simp length-append (omega arith)
    go false false h x y = omega arith

generations-size : (s : ℕ) (gs : List Generations) → ((i : ℕ) → length (get_or gs i no_generations).messages ≡ 20) → size (generation_records s gs) ≤ 180 * length gs
unfolding generation_records
generations-size s [] t = unfold joined in omega arith
generations-size s (g ∷ gs) t =
    let ns = keep held g.messages in
    let a = size-append (map (generation_record s) ns) (generation_records (suc s) gs) in
    let b = made-size 9 (generation_record s) (generation-size s) ns in
    let d = keep-few held g.messages in
    let n = t 0 in
    let h = generations-size (suc s) gs (λ i. t (suc i)) in
    omega arith

reached-size : (id : ℕ) → size (reached_records id) ≤ 8
unfolding reached_records joined framed bytes
reached-size id = go (held id)
  where
    go : (b : Bool) → size (if b then framed 84 (u32 id) ∷ [] else []) ≤ 8
    go true = omega arith
    go false = omega arith

pub at_most : AtMost
unfolding generations_of
at_most number v w =
    let os = keep holds_regular v.regular in
    let cs = keep holds_complex v.complex in
    let es = keep holds_edition v.editions in
    let bo = by_id (length os + length cs) os cs in
    let le = legging_records 0 v.legging in
    let ge = generation_records 0 v.generations in
    let re = reached_records v.reached in
    let p = ap (λ (l : List (List ℕ)). size l) (set-parts number v) in
    let q0 = size-append (front_of number v) (flat (tail_of v)) in
    let q1 = size-append (map edition_record es) (bo ++ (le ++ (ge ++ (re ++ [])))) in
    let q2 = size-append bo (le ++ (ge ++ (re ++ []))) in
    let q3 = size-append le (ge ++ (re ++ [])) in
    let q4 = size-append ge (re ++ []) in
    let q5 = ap (λ (l : List (List ℕ)). size l) (append-nil re) in
    let f = front-size number v in
    let e = made-size 14 edition_record edition-size es in
    let o = books-size (length os + length cs) os cs in
    let l = leggings-size 0 v.legging in
    let g = generations-size 0 v.generations w.twenty in
    let r = reached-size v.reached in
    let d1 = keep-few holds_edition v.editions in
    let d2 = keep-few holds_regular v.regular in
    let d3 = keep-few holds_complex v.complex in
    let n1 = w.editions in
    let n2 = w.regular in
    let n3 = w.complex in
    let n4 = w.legging in
    let n5 = w.generations in
    let n6 = w.series in
    omega arith
