-- The parts of the set of the venue that a set tells are that set's parts.
use Rattle.std.specs.Prelude.{if◌then◌else◌}
use mathlib.Core.Path.{◌≡◌, refl, sym, ap, ◌∙◌}
use mathlib.Core.Bool.{Bool, true, false}
use mathlib.Core.List.{List, [], ◌∷◌, ◌++◌, append-nil, map}
use Prim.Native.Nat.{ℕ, zero, suc, ◌≤◌, ◌<◌, ◌+◌, ◌-◌, ◌*◌}
use native.Mathlib.Omega.{arith}
use lib.Dec.{eqb}
use lib.ListN.{length, replicate}
use borrow.Author.Tests.{eq-eqb, eqb-false, eqb-true, le-ltb, lt-ltb, ne_eqb}
use Rattle.rules.specs.declared.Regular.{Regular}
use Rattle.rules.specs.declared.Complex.{Complex}
use Rattle.rules.specs.Base.{held, keep}
use Rattle.rules.specs.Words.{place_of}
use Rattle.rules.specs.Bytes.{framed, kind_field, u32, u32_at, u8_at}
use Rattle.rules.specs.Places.{holds_complex, holds_regular}
use Rattle.rules.proofs.Tests.{and-false}
use Rattle.sets.specs.Set.{by_id, complex_record, complex_told, generation_record, generation_records, generation_told, generations_told, in_order}
use Rattle.sets.specs.Set.{legging_records, legging_told, sort_key, of_series, part, places}
use Rattle.sets.specs.Set.{reached_records, reached_told, regular_record, regular_told, tells_complex, tells_generation, tells_legging, tells_regular, upward}
use Rattle.sets.proofs.Lists.{Each, Rising, each_more, keep_append, keep-every, rising-lower}
use Rattle.sets.proofs.Pieces.{one_at_most, pieces}
use Rattle.sets.proofs.Slots.{places_of, slot, told_none, two-slots}
use Rattle.sets.proofs.Parts.{sort-of, whether}
use Rattle.sets.proofs.PartsRead.{GenerationOf, LeggingOf, OrderOf, complex_one, regular_one}

free-kept : {A : Type 0} (holds : A → Bool) (none : A) → holds none ≡ false → (n : ℕ) → keep holds (replicate n none) ≡ []
unfolding keep
free-kept holds none f zero = refl
free-kept holds none f (suc n) = rw f (free-kept holds none f n)

-- the held ones of so many places are those given
pub places-kept : {A : Type 0} (holds : A → Bool) (none : A) → holds none ≡ false → (count : ℕ) (l : List A) → Each (λ x. holds x ≡ true) l → keep holds (places count none l) ≡ l
unfolding places
places-kept holds none f count l h =
    rw (keep_append holds l (replicate (count - length l) none), keep-every holds l h, free-kept holds none f (count - length l), append-nil l)

-- Both books ----------------------------------------------------------------------------------

regular-left : (fuel : ℕ) (os : List Regular) → length os ≤ fuel → by_id fuel os [] ≡ map regular_record os
unfolding by_id
regular-left zero [] le = refl
regular-left zero (o ∷ os) le = absurd (omega arith)
regular-left (suc fuel) [] le = refl
regular-left (suc fuel) (o ∷ os) le = refl

complex-left : (fuel : ℕ) (cs : List Complex) → length cs ≤ fuel → by_id fuel [] cs ≡ map complex_record cs
unfolding by_id
complex-left zero [] le = refl
complex-left zero (c ∷ cs) le = absurd (omega arith)
complex-left (suc fuel) cs le = refl

-- the order of the lowest id comes first
regular-first : (fuel : ℕ) (o : Regular) (os : List Regular) (cs : List Complex) → Each (λ c. suc o.id ≤ c.id) cs → length os + length cs ≤ fuel →
    by_id (suc fuel) (o ∷ os) cs ≡ regular_record o ∷ by_id fuel os cs
unfolding by_id
regular-first fuel o os [] h le = ap (λ (l : List (List ℕ)). regular_record o ∷ l) (sym (regular-left fuel os (omega arith)))
regular-first fuel o os (c ∷ cs) h le = rw (lt-ltb o.id c.id h.0)

complex-first : (fuel : ℕ) (os : List Regular) (c : Complex) (cs : List Complex) → Each (λ o. suc c.id ≤ o.id) os → length os + length cs ≤ fuel →
    by_id (suc fuel) os (c ∷ cs) ≡ complex_record c ∷ by_id fuel os cs
unfolding by_id
complex-first fuel [] c cs h le = ap (λ (l : List (List ℕ)). complex_record c ∷ l) (sym (complex-left fuel cs (omega arith)))
complex-first fuel (o ∷ os) c cs h le = rw (le-ltb o.id c.id (let z = h.0 in omega arith))

-- the regular orders and the complex ones that a row tells
abbrev pub regulars_of : List (List ℕ) → List Regular
regulars_of l = map regular_told (keep tells_regular l)

abbrev pub complexes_of : List (List ℕ) → List Complex
complexes_of l = map complex_told (keep tells_complex l)

-- they are at least as high as the row, and held
pub regulars-so : (low : ℕ) (l : List (List ℕ)) → Each OrderOf l → Rising sort_key low l → Each (λ o. (low ≤ o.id) × (holds_regular o ≡ true)) (regulars_of l)
unfolding keep
regulars-so low [] h u = tt
regulars-so low (r ∷ l) h u = go h.0 (regulars-so low l h.1 (rising-lower sort_key low (suc (sort_key r)) l (let z = u.0 in omega arith) u.1))
  where
    go : OrderOf r → Each (λ o. (low ≤ o.id) × (holds_regular o ≡ true)) (regulars_of l) → Each (λ o. (low ≤ o.id) × (holds_regular o ≡ true))
        (map regular_told (if tells_regular r then r ∷ keep tells_regular l else keep tells_regular l))
    go (regular_one a b c d e) ih = (let z = u.0 in rw a (((omega arith, e), ih)))
    go (complex_one a b c d e) ih = rw a ih

pub complexes-so : (low : ℕ) (l : List (List ℕ)) → Each OrderOf l → Rising sort_key low l → Each (λ o. (low ≤ o.id) × (holds_complex o ≡ true)) (complexes_of l)
unfolding keep
complexes-so low [] h u = tt
complexes-so low (r ∷ l) h u = go h.0 (complexes-so low l h.1 (rising-lower sort_key low (suc (sort_key r)) l (let z = u.0 in omega arith) u.1))
  where
    go : OrderOf r → Each (λ o. (low ≤ o.id) × (holds_complex o ≡ true)) (complexes_of l) → Each (λ o. (low ≤ o.id) × (holds_complex o ≡ true))
        (map complex_told (if tells_complex r then r ∷ keep tells_complex l else keep tells_complex l))
    go (regular_one a b c d e) ih = rw b ih
    go (complex_one a b c d e) ih = (let z = u.0 in rw b (((omega arith, e), ih)))

pub books-again : (fuel low : ℕ) (l : List (List ℕ)) → Each OrderOf l → Rising sort_key low l → length (regulars_of l) + length (complexes_of l) ≤ fuel → by_id fuel (regulars_of l) (complexes_of l) ≡ l
unfolding keep
books-again fuel low [] h u le = regular-left fuel [] (omega arith)
books-again zero low (r ∷ l) h u le = absurd (some h.0 le)
  where
    some : OrderOf r → length (regulars_of (r ∷ l)) + length (complexes_of (r ∷ l)) ≤ 0 → ⊥
    some (regular_one a b c d e) le = let z = rw a at le in omega arith
    some (complex_one a b c d e) le = let z = rw b at le in omega arith
books-again (suc fuel) low (r ∷ l) h u le = go h.0 le (λ n. books-again fuel (suc (sort_key r)) l h.1 u.1 n)
  where
    go : OrderOf r → length (regulars_of (r ∷ l)) + length (complexes_of (r ∷ l)) ≤ suc fuel → (length (regulars_of l) + length (complexes_of l) ≤ fuel → by_id fuel (regulars_of l) (complexes_of l) ≡ l) →
        by_id (suc fuel) (regulars_of (r ∷ l)) (complexes_of (r ∷ l)) ≡ r ∷ l
    go (regular_one a b c d e) le ih =
        let n = rw (a, b) at le in
        let k : length (regulars_of l) + length (complexes_of l) ≤ fuel = omega arith in
        rw (
          a,
          b,
          regular-first fuel (regular_told r) (regulars_of l) (complexes_of l)
              (rw d (each_more (λ o. (suc (sort_key r) ≤ o.id) × (holds_complex o ≡ true)) (λ o. suc (sort_key r) ≤ o.id) (λ o z. z.0) (complexes_of l)
              (complexes-so (suc (sort_key r)) l h.1 u.1))) k,
          c,
          ih k,
        )
    go (complex_one a b c d e) le ih =
        let n = rw (a, b) at le in
        let k : length (regulars_of l) + length (complexes_of l) ≤ fuel = omega arith in
        rw (
          a,
          b,
          complex-first fuel (regulars_of l) (complex_told r) (complexes_of l)
              (rw d (each_more (λ o. (suc (sort_key r) ≤ o.id) × (holds_regular o ≡ true)) (λ o. suc (sort_key r) ≤ o.id) (λ o z. z.0) (regulars_of l)
              (regulars-so (suc (sort_key r)) l h.1 u.1))) k,
          c,
          ih k,
        )

-- Legging orders ------------------------------------------------------------------------------

-- a row that rises from a place on is the record of that place, if any, and the rest
record Front (s d : ℕ) (l : List (List ℕ)) : Type 0 where
  rest : List (List ℕ)
  is : slot s d (legging_told l (place_of s d)) ++ rest ≡ l
  rises : Rising sort_key (suc (place_of s d)) rest
  each : Each LeggingOf rest
  later : (n : ℕ) → place_of s d < n → legging_told rest n ≡ legging_told l n

-- a place's series and side
placed : (s d t e : ℕ) → d ≤ 1 → e ≤ 1 → place_of s d ≡ place_of t e → (s ≡ t) × (d ≡ e)
unfolding place_of
placed s d t e a b h = (omega arith, omega arith)

front : (s d : ℕ) (l : List (List ℕ)) → d ≤ 1 → Each LeggingOf l → Rising sort_key (place_of s d) l → Front s d l
unfolding legging_told
front s d [] b h u = record { rest = []; is = refl; rises = tt; each = tt; later = λ n lt. refl }
front s d (r ∷ l) b h u = whether (sort_key r) (place_of s d) here there
  where
    g : LeggingOf r
    g = h.0

    tells : tells_legging r ≡ true
    tells = unfold tells_legging in (rw g.kind)

    here : sort_key r ≡ place_of s d → Front s d (r ∷ l)
    here e =
        let p = placed (u8_at r 8) (u8_at r 9) s d g.side b (sym g.marked ∙ e) in
        record {
          rest = l;
          is = rw (tells, eq-eqb (sort_key r) (place_of s d) e, g.quantity, ← p.0, ← p.1, g.spelled);
          rises = rw (← e) u.1;
          each = h.1;
          later = λ n lt. rw (ne_eqb (sort_key r) n (λ q. omega arith), and-false (tells_legging r));
        }

    there : eqb (sort_key r) (place_of s d) ≡ false → Front s d (r ∷ l)
    there e =
        let n = eqb-false (sort_key r) (place_of s d) e in
        let z : suc (place_of s d) ≤ sort_key r = (let y = u.0 in omega arith) in
        record {
          rest = r ∷ l;
          is = rw (told_none (place_of s d) (suc (place_of s d)) (r ∷ l) (omega arith) ((z, u.1)));
          rises = (z, u.1);
          each = h;
          later = λ n lt. refl;
        }

pub upward-same : {A : Type 0} (f g : ℕ → A) (n count : ℕ) → ((i : ℕ) → n ≤ i → f i ≡ g i) → upward f n count ≡ upward g n count
unfolding upward
upward-same f g n zero h = refl
upward-same f g n (suc count) h = rw (h n (omega arith), upward-same f g (suc n) count (λ i le. h i (omega arith)))

two-upward : {A : Type 0} (f : ℕ → A) (n count : ℕ) → upward f n (suc (suc count)) ≡ f n ∷ f (suc n) ∷ upward f (suc (suc n)) count
unfolding upward
two-upward f n count = refl

-- no place is past the last
none-past : (s : ℕ) (l : List (List ℕ)) → s ≡ 8 → Each LeggingOf l → Rising sort_key (2 * s) l → [] ≡ l
unfolding place_of
none-past s [] n h u = refl
none-past s (r ∷ l) n h u = (let a = h.0.marked in let b = h.0.series in let c = h.0.side in let d = u.0 in absurd (omega arith))

-- a series' two places, and the rest
series-first : (m s : ℕ) (l : List (List ℕ)) (x : Front s 0 l) (y : Front s 1 x.rest) → legging_records (suc s) (upward (legging_told y.rest) (2 * suc s) (2 * m)) ≡ y.rest →
    legging_records s (upward (legging_told l) (2 * s) (2 * suc m)) ≡ l
series-first m s l x y ih =
    let p = places_of s in
    let z : 2 * suc m ≡ suc (suc (2 * m)) = omega arith in
    let e0 : 2 * s ≡ place_of s 0 = omega arith in
    let e1 : suc (2 * s) ≡ place_of s 1 = omega arith in
    let e2 : suc (suc (2 * s)) ≡ 2 * suc s = omega arith in
    let same = upward-same (legging_told l) (legging_told y.rest) (2 * suc s) (2 * m) (λ i le. sym (y.later i (omega arith) ∙ x.later i (omega arith))) in
    rw (
      z,
      two-upward (legging_told l) (2 * s) (2 * m),
      two-slots s (legging_told l (2 * s)) (legging_told l (suc (2 * s)))
          (upward (legging_told l) (suc (suc (2 * s))) (2 * m)),
      e2,
      same,
      ih,
      e1,
      ← x.later (place_of s 1) (omega arith),
      y.is,
      e0,
    )
    x.is

pub leggings-again : (m s : ℕ) (l : List (List ℕ)) → s + m ≡ 8 → Each LeggingOf l → Rising sort_key (2 * s) l → legging_records s (upward (legging_told l) (2 * s) (2 * m)) ≡ l
leggings-again zero s l n h u = unfold legging_records upward in none-past s l (omega arith) h u
leggings-again (suc m) s l n h u =
    let p = places_of s in
    let e0 : 2 * s ≡ place_of s 0 = omega arith in
    let e3 : suc (place_of s 0) ≡ place_of s 1 = omega arith in
    let e4 : suc (place_of s 1) ≡ 2 * suc s = omega arith in
    let x = front s 0 l (omega arith) h (rw e0 at u) in
    let y = front s 1 x.rest (omega arith) x.each (rw e3 at x.rises) in
    series-first m s l x y (leggings-again m (suc s) y.rest (omega arith) y.each (rw e4 at y.rises))

-- Generations ---------------------------------------------------------------------------------

-- zeros before the numbers are not generations
zeros-kept : (n : ℕ) (l : List ℕ) → Each (λ x. held x ≡ true) l → keep held (replicate n 0 ++ l) ≡ l
zeros-kept n l h = rw (keep_append held (replicate n 0) l, free-kept held 0 refl n, keep-every held l h)

-- a series' numbers, and its records
numbers-held : (s : ℕ) (l : List (List ℕ)) → Each GenerationOf l → Each (λ x. held x ≡ true) (map generation_told (keep (of_series s) l))
unfolding keep
numbers-held s [] h = tt
numbers-held s (r ∷ l) h = go (of_series s r) (numbers-held s l h.1)
  where
    go : (b : Bool) → Each (λ x. held x ≡ true) (map generation_told (keep (of_series s) l)) → Each (λ x. held x ≡ true) (map generation_told (if b then r ∷ keep (of_series s) l else keep (of_series s) l))
    go true ih = (h.0.number, ih)
    go false ih = ih

series-again : (s : ℕ) (l : List (List ℕ)) → Each GenerationOf l → map (generation_record s) (map generation_told (keep (of_series s) l)) ≡ keep (λ r. eqb (sort_key r) s) l
unfolding keep of_series tells_generation
series-again s [] h = refl
series-again s (r ∷ l) h = rw (h.0.kind, h.0.marked) (go (eqb (u8_at r 4) s) refl (series-again s l h.1))
  where
    go : (b : Bool) → eqb (u8_at r 4) s ≡ b → map (generation_record s) (map generation_told (keep (of_series s) l)) ≡ keep (λ r. eqb (sort_key r) s) l →
        map (generation_record s) (map generation_told (if b then r ∷ keep (of_series s) l else keep (of_series s) l))
        ≡ (if b then r ∷ keep (λ r. eqb (sort_key r) s) l else keep (λ r. eqb (sort_key r) s) l)
    go true e ih = let q : generation_record s (generation_told r) ≡ r = rw (← eqb-true (u8_at r 4) s e) h.0.spelled in rw (q, ih)
    go false e ih = ih

pub generations-again : (m s : ℕ) (l : List (List ℕ)) → Each GenerationOf l → generation_records s (upward (generations_told l) s m) ≡ pieces sort_key s m l
unfolding generation_records upward generations_told
generations-again zero s l h = refl
generations-again (suc m) s l h =
    let ns = map generation_told (keep (of_series s) l) in
    rw (zeros-kept (20 - length ns) ns (numbers-held s l h), series-again s l h, generations-again m (suc s) l h)

-- The id reached ------------------------------------------------------------------------------

-- a record of it
abbrev pub ReachedOf : List ℕ → Type 0
ReachedOf r = (part r ≡ 5) × (held (u32_at r 4) ≡ true) × (framed 84 (u32 (u32_at r 4)) ≡ r) × (sort_key r ≡ 0)

pub reached-again : (l : List (List ℕ)) → Each ReachedOf l → in_order l ≡ true → reached_records (reached_told l) ≡ l
unfolding reached_records reached_told
reached-again [] h o = refl
reached-again (r ∷ []) h o = let k = eqb-true (kind_field r) 84 (sort-of r 5 h.0.0).4 in rw (eq-eqb (kind_field r) 84 k, h.0.1, h.0.2)
reached-again (q ∷ r ∷ l) h o = absurd (one_at_most 5 refl q r l h.0.0 h.1.0.0 (h.0.3 ∙ sym h.1.0.3) o)
