-- The parts of a set, record by record: what comes next of each, and what is left.
use Rattle.std.specs.Prelude.{if◌then◌else◌}
use mathlib.Core.Path.{◌≡◌, refl, sym, ap, ap₂, ◌∙◌}
use mathlib.Core.Bool.{Bool, true, false, false≢true}
use mathlib.Core.List.{List, [], ◌∷◌, ◌++◌, map, append_assoc, append-nil}
use Prim.Native.Nat.{ℕ, zero, suc, ◌+◌, ◌-◌, ◌*◌, ◌≤◌, ◌<◌}
use native.Mathlib.Omega.{arith}
use native.Mathlib.Numerals.{add-one}
use lib.Dec.{leb, ltb}
use lib.ListN.{length, get_or, drop, replicate, drop_of_length-le}
use lib.Seq.{drop-cons}
use borrow.Author.Tests.{le-leb, lt-leb, leb-true, leb-false}
use Rattle.rules.specs.declared.Regular.{Regular}
use Rattle.rules.specs.declared.Complex.{Complex}
use Rattle.rules.specs.declared.Legging.{Legging}
use Rattle.rules.specs.declared.Listed.{Listed}
use Rattle.rules.specs.declared.Generations.{Generations}
use Rattle.rules.specs.declared.Venue.{Venue}
use Rattle.rules.specs.declared.Message.TheVariants.{Away, Status}
use Rattle.rules.specs.Base.{held, keep}
use Rattle.rules.specs.Words.{no_generations, one_to_one}
use Rattle.rules.specs.Bytes.{bytes, u8, framed}
use Rattle.rules.specs.Messages.{two_leg_fields, encode_message}
use Rattle.rules.specs.Generation.{generations_of}
use Rattle.places.specs.Layout.{upto, in_use, regular_in, complex_in, legging_in, Filled}
use Rattle.places.proofs.Tables.{upto-length}
use Rattle.sets.specs.Set.{series_records, regular_record, complex_record, by_id, legging_record, legging_records, generation_record, generation_records, joined}
use Rattle.set_parts.specs.Parts.{record_if, orders_from, regular_next, side_record}

-- Rows of records -------------------------------------------------------------------------------

pub joined-append : (a b : List (List ℕ)) → joined (a ++ b) ≡ joined a ++ joined b
unfolding joined
joined-append [] b = refl
joined-append (r ∷ a) b = ap (λ (x : List ℕ). r ++ x) (joined-append a b) ∙ sym (append_assoc r (joined a) (joined b))

-- the places from i on: one, and those from the next on
module _ {A : Type 0} (f : ℕ → A) where
  upto-one : (i n : ℕ) → i < n → upto f i (n - i) ≡ f i ∷ upto f (i + 1) (n - (i + 1))
  unfolding upto
  upto-one i n h =
      let e : n - i ≡ suc (n - (i + 1)) = omega arith in
      ap (upto f i) e ∙ ap (λ (k : ℕ). f i ∷ upto f k (n - (i + 1))) (sym (add-one i))

  pub upto-none : (i n : ℕ) → n ≤ i → upto f i (n - i) ≡ []
  unfolding upto
  upto-none i n h = let e : n - i ≡ 0 = omega arith in ap (upto f i) e

-- Series ----------------------------------------------------------------------------------------

pub series-next : (f : ℕ → Listed) (s : ℕ) → s < 8 → joined (series_records s (upto f s (8 - s))) ≡
    (encode_message (Status s (f s).status) ++ encode_message (Away s (f s).bid (f s).offer)) ++ joined (series_records (s + 1) (upto f (s + 1) (8 - (s + 1))))
unfolding series_records joined
series-next f s h =
    ap (λ (l : List Listed). joined (series_records s l)) (upto-one f s 8 h)
    ∙ sym (append_assoc (encode_message (Status s (f s).status)) (encode_message (Away s (f s).bid (f s).offer)) _)
    ∙ ap (λ (k : ℕ). (encode_message (Status s (f s).status) ++ encode_message (Away s (f s).bid (f s).offer)) ++ joined (series_records k (upto f (s + 1) (8 - (s + 1))))) (sym (add-one s))

pub series-none : (f : ℕ → Listed) (s : ℕ) → 8 ≤ s → joined (series_records s (upto f s (8 - s))) ≡ []
unfolding series_records joined
series-none f s h = ap (λ (l : List Listed). joined (series_records s l)) (upto-none f s 8 h)

-- What is kept of a list ------------------------------------------------------------------------

module _ {A : Type 0} (row : A → List ℕ) (holds : A → Bool) where
  kept_cons : (x : A) (l : List A) → joined (map row (keep holds (x ∷ l))) ≡ record_if (holds x) (row x) ++ joined (map row (keep holds l))
  unfolding keep joined record_if
  kept_cons x l = go (holds x)
    where
      go : (t : Bool) → joined (map row (if t then x ∷ keep holds l else keep holds l)) ≡ record_if t (row x) ++ joined (map row (keep holds l))
      go true = refl
      go false = refl

  kept-nil : joined (map row (keep holds [])) ≡ []
  unfolding keep joined
  kept-nil = refl

  -- of places, or of a list
  pub kept_next : (f : ℕ → A) (i n : ℕ) → i < n →
      joined (map row (keep holds (upto f i (n - i)))) ≡ record_if (holds (f i)) (row (f i)) ++ joined (map row (keep holds (upto f (i + 1) (n - (i + 1)))))
  kept_next f i n h = ap (λ (l : List A). joined (map row (keep holds l))) (upto-one f i n h) ∙ kept_cons (f i) _

  pub kept-none : (f : ℕ → A) (i n : ℕ) → n ≤ i → joined (map row (keep holds (upto f i (n - i)))) ≡ []
  kept-none f i n h = ap (λ (l : List A). joined (map row (keep holds l))) (upto-none f i n h) ∙ kept-nil

  pub dropped-next : (l : List A) (none : A) (k : ℕ) → k < length l →
      joined (map row (keep holds (drop k l))) ≡ record_if (holds (get_or l k none)) (row (get_or l k none)) ++ joined (map row (keep holds (drop (k + 1) l)))
  dropped-next l none k h =
      ap (λ (m : List A). joined (map row (keep holds m))) (drop-cons l k none h ∙ ap (λ (j : ℕ). get_or l k none ∷ drop j l) (sym (add-one k))) ∙ kept_cons (get_or l k none) _

  pub dropped-none : (l : List A) (k : ℕ) → length l ≤ k → joined (map row (keep holds (drop k l))) ≡ []
  dropped-none l k h = ap (λ (m : List A). joined (map row (keep holds m))) (drop_of_length-le l {i = k} h) ∙ kept-nil

-- places that are all held
module _ {A : Type 0} (holds : A → Bool) (none : A) (free : holds none ≡ false) where
  kept_from : (f : ℕ → A) (i k m : ℕ) → ((x : ℕ) → i ≤ x → x < i + k → holds (f x) ≡ true) → keep holds (upto f i k ++ replicate m none) ≡ upto f i k
  unfolding keep upto
  kept_from f i zero zero h = refl
  kept_from f i zero (suc m) h = rw free (kept_from f i zero m h)
  kept_from f i (suc k) m h =
      rw (h i (omega arith) (omega arith)) (ap (λ (l : List A). f i ∷ l) (kept_from f (suc i) k m (λ x p q. h x (omega arith) (omega arith))))

  pub all-kept : (f : ℕ → A) (n all : ℕ) → Filled holds f n → keep holds (in_use f none n all) ≡ upto f 0 n
  unfolding in_use
  all-kept f n all h = kept_from f 0 n (all - n) (λ x p q. h x (omega arith))

-- Orders ----------------------------------------------------------------------------------------

regulars-only : (k : ℕ) (os : List Regular) → length os ≤ k → by_id k os [] ≡ map regular_record os
unfolding by_id
regulars-only zero [] h = refl
regulars-only zero (o ∷ os) h = absurd (omega arith)
regulars-only (suc k) [] h = refl
regulars-only (suc k) (o ∷ os) h = refl

complexes-only : (k : ℕ) (cs : List Complex) → length cs ≤ k → by_id k [] cs ≡ map complex_record cs
unfolding by_id
complexes-only zero [] h = refl
complexes-only zero (c ∷ cs) h = absurd (omega arith)
complexes-only (suc k) cs h = refl

-- an order of one book comes first where the other book has none, or one of a greater id
regular-alone : (k : ℕ) (o : Regular) (os : List Regular) → length os ≤ k → by_id (suc k) (o ∷ os) [] ≡ regular_record o ∷ by_id k os []
unfolding by_id
regular-alone k o os h = ap (λ (l : List (List ℕ)). regular_record o ∷ l) (sym (regulars-only k os h))

complex-alone : (k : ℕ) (c : Complex) (cs : List Complex) → length cs ≤ k → by_id (suc k) [] (c ∷ cs) ≡ complex_record c ∷ by_id k [] cs
unfolding by_id
complex-alone k c cs h = ap (λ (l : List (List ℕ)). complex_record c ∷ l) (sym (complexes-only k cs h))

regular-first : (k : ℕ) (o : Regular) (os : List Regular) (c : Complex) (cs : List Complex) → ltb o.id c.id ≡ true →
    by_id (suc k) (o ∷ os) (c ∷ cs) ≡ regular_record o ∷ by_id k os (c ∷ cs)
unfolding by_id
regular-first k o os c cs h = rw h

complex-first : (k : ℕ) (o : Regular) (os : List Regular) (c : Complex) (cs : List Complex) → ltb o.id c.id ≡ false →
    by_id (suc k) (o ∷ os) (c ∷ cs) ≡ complex_record c ∷ by_id k (o ∷ os) cs
unfolding by_id
complex-first k o os c cs h = rw h

-- kinds 2 and 10
pub complex-even : (c : Complex) → one_to_one c ≡ true → 21 ∷ 0 ∷ 2 ∷ 0 ∷ two_leg_fields c ≡ complex_record c
unfolding complex_record encode_message framed two_leg_fields bytes
complex-even c h = rw h

pub complex-uneven : (c : Complex) → one_to_one c ≡ false → (23 ∷ 0 ∷ 10 ∷ 0 ∷ two_leg_fields c) ++ (u8 c.ratio1 ++ u8 c.ratio2) ≡ complex_record c
unfolding complex_record encode_message framed two_leg_fields bytes
complex-uneven c h = rw h

module _ (b : List ℕ) (n m i j : ℕ) where
  abbrev R : ℕ → Regular
  R = regular_in b

  abbrev C : ℕ → Complex
  C = complex_in b

  -- which one is next
  pub next-none : n ≤ i → regular_next b n m i j ≡ false
  unfolding regular_next
  next-none h = rw (le-leb n i h)

  pub next-alone : i < n → m ≤ j → regular_next b n m i j ≡ true
  unfolding regular_next
  next-alone h k = rw (lt-leb n i h, le-leb m j k)

  pub next-by-id : i < n → j < m → regular_next b n m i j ≡ ltb (regular_in b i).id (complex_in b j).id
  unfolding regular_next
  next-by-id h k = rw (lt-leb n i h, lt-leb m j k)

  -- it is there
  pub regular-there : regular_next b n m i j ≡ true → i < n
  unfolding regular_next
  regular-there h = go (leb n i) refl h
    where
      go : (t : Bool) → leb n i ≡ t → (if t then false else if leb m j then true else ltb (R i).id (C j).id) ≡ true → i < n
      go true e z = absurd (false≢true z)
      go false e z = leb-false n i e

  pub complex-there : i ≤ n → j ≤ m → i + j < n + m → regular_next b n m i j ≡ false → j < m
  unfolding regular_next
  complex-there p q s h = go (leb n i) refl (leb m j) refl h
    where
      go : (t : Bool) → leb n i ≡ t → (u : Bool) → leb m j ≡ u → (if t then false else if u then true else ltb (R i).id (C j).id) ≡ false → j < m
      go true e u f z = let k = leb-true n i e in omega arith
      go false e true f z = absurd (false≢true (sym z))
      go false e false f z = leb-false m j f

  -- what it leaves
  pub regular-after : regular_next b n m i j ≡ true → joined (orders_from b n m i j) ≡ regular_record (regular_in b i) ++ joined (orders_from b n m (i + 1) j)
  unfolding regular_next orders_from joined
  regular-after h = go (leb m j) refl
    where
      there : i < n
      there = regular-there h

      os : List Regular
      os = upto R (i + 1) (n - (i + 1))

      fuel : n - i + (m - j) ≡ suc (n - (i + 1) + (m - j))
      fuel = omega (arith, there)

      few : length os ≤ n - (i + 1) + (m - j)
      few = omega (arith, upto-length R (i + 1) (n - (i + 1)))

      less : leb m j ≡ false → ltb (R i).id (C j).id ≡ true
      less f = rw (lt-leb n i there, f) at h

      go : (t : Bool) → leb m j ≡ t →
          joined (by_id (n - i + (m - j)) (upto R i (n - i)) (upto C j (m - j))) ≡ regular_record (R i) ++ joined (by_id (n - (i + 1) + (m - j)) os (upto C j (m - j)))
      go true f =
          rw (fuel, upto-one R i n there, upto-none C j m (leb-true m j f)) (ap joined (regular-alone _ (R i) os few))
      go false f =
          rw (fuel, upto-one R i n there, upto-one C j m (leb-false m j f)) (ap joined (regular-first _ (R i) os (C j) _ (less f)))

  pub complex-after : i ≤ n → j ≤ m → i + j < n + m → regular_next b n m i j ≡ false →
      joined (orders_from b n m i j) ≡ complex_record (complex_in b j) ++ joined (orders_from b n m i (j + 1))
  unfolding regular_next orders_from joined
  complex-after p q r h = go (leb n i) refl
    where
      there : j < m
      there = complex-there p q r h

      cs : List Complex
      cs = upto C (j + 1) (m - (j + 1))

      fuel : n - i + (m - j) ≡ suc (n - i + (m - (j + 1)))
      fuel = omega (arith, there)

      few : length cs ≤ n - i + (m - (j + 1))
      few = omega (arith, upto-length C (j + 1) (m - (j + 1)))

      less : leb n i ≡ false → ltb (R i).id (C j).id ≡ false
      less f = rw (f, lt-leb m j there) at h

      go : (t : Bool) → leb n i ≡ t →
          joined (by_id (n - i + (m - j)) (upto R i (n - i)) (upto C j (m - j))) ≡ complex_record (C j) ++ joined (by_id (n - i + (m - (j + 1))) (upto R i (n - i)) cs)
      go true f =
          rw (fuel, upto-one C j m there, upto-none R i n (leb-true n i f)) (ap joined (complex-alone _ (C j) cs few))
      go false f =
          rw (fuel, upto-one C j m there, upto-one R i n (leb-false n i f)) (ap joined (complex-first _ (R i) _ (C j) cs (less f)))

  -- neither book has one left
  pub orders-none : n ≤ i → m ≤ j → joined (orders_from b n m i j) ≡ []
  unfolding orders_from joined by_id
  orders-none p q = let e : n - i + (m - j) ≡ 0 = omega arith in rw e

-- Legging orders --------------------------------------------------------------------------------

pub one-joined : (t : Bool) (r : List ℕ) → joined (if t then r ∷ [] else []) ≡ record_if t r
unfolding joined record_if
one-joined true r = append-nil r
one-joined false r = refl

pairs-one : (f : ℕ → Legging) (s : ℕ) → s < 8 → upto f (2 * s) (16 - 2 * s) ≡ f (2 * s + 0) ∷ f (2 * s + 1) ∷ upto f (2 * (s + 1)) (16 - 2 * (s + 1))
pairs-one f s h =
    let z : 2 * s ≡ 2 * s + 0 = omega arith in
    let e : 2 * s + 1 + 1 ≡ 2 * (s + 1) = omega arith in
    upto-one f (2 * s) 16 (omega arith)
    ∙ ap (λ (l : List Legging). f (2 * s) ∷ l) (upto-one f (2 * s + 1) 16 (omega arith))
    ∙ ap₂ (λ (p q : ℕ). f p ∷ f (2 * s + 1) ∷ upto f q (16 - q)) z e

pub leggings-next : (b : List ℕ) (s : ℕ) → s < 8 → joined (legging_records s (upto (legging_in b) (2 * s) (16 - 2 * s))) ≡
    (side_record b s 0 ++ side_record b s 1) ++ joined (legging_records (s + 1) (upto (legging_in b) (2 * (s + 1)) (16 - 2 * (s + 1))))
unfolding legging_records side_record
leggings-next b s h =
    let f : ℕ → Legging = legging_in b in
    let ls : List Legging = upto f (2 * (s + 1)) (16 - 2 * (s + 1)) in
    let one : List (List ℕ) = if held (f (2 * s + 0)).quantity then legging_record s 0 (f (2 * s + 0)) ∷ [] else [] in
    let two : List (List ℕ) = if held (f (2 * s + 1)).quantity then legging_record s 1 (f (2 * s + 1)) ∷ [] else [] in
    ap (λ (l : List Legging). joined (legging_records s l)) (pairs-one f s h)
    ∙ joined-append (one ++ two) (legging_records (suc s) ls)
    ∙ ap (λ (x : List ℕ). x ++ joined (legging_records (suc s) ls)) (joined-append one two)
    ∙ ap₂ (λ (x y : List ℕ). (x ++ y) ++ joined (legging_records (suc s) ls)) (one-joined _ _) (one-joined _ _)
    ∙ ap (λ (k : ℕ). (side_record b s 0 ++ side_record b s 1) ++ joined (legging_records k ls)) (sym (add-one s))

pub leggings-none : (b : List ℕ) (s : ℕ) → 8 ≤ s → joined (legging_records s (upto (legging_in b) (2 * s) (16 - 2 * s))) ≡ []
unfolding legging_records joined
leggings-none b s h = ap (λ (l : List Legging). joined (legging_records s l)) (upto-none (legging_in b) (2 * s) 16 (omega arith))

-- Generations -----------------------------------------------------------------------------------

pub generations-next : (v : Venue) (s : ℕ) → s < length v.generations → joined (generation_records s (drop s v.generations)) ≡
    joined (map (generation_record s) (keep held (generations_of v s))) ++ joined (generation_records (s + 1) (drop (s + 1) v.generations))
unfolding generation_records generations_of
generations-next v s h =
    let gs : List Generations = v.generations in
    let g : Generations = get_or gs s no_generations in
    ap (λ (l : List Generations). joined (generation_records s l)) (drop-cons gs s no_generations h)
    ∙ joined-append (map (generation_record s) (keep held g.messages)) (generation_records (suc s) (drop (suc s) gs))
    ∙ ap (λ (k : ℕ). joined (map (generation_record s) (keep held g.messages)) ++ joined (generation_records k (drop k gs))) (sym (add-one s))

pub generations-none : (gs : List Generations) (s : ℕ) → length gs ≤ s → joined (generation_records s (drop s gs)) ≡ []
unfolding generation_records joined
generations-none gs s h = ap (λ (l : List Generations). joined (generation_records s l)) (drop_of_length-le gs {i = s} h)
