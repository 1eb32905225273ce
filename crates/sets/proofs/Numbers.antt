-- Generations by series: their records do not fall, and tell the numbers.
use Rattle.std.specs.Prelude.{if◌then◌else◌}
use mathlib.Core.Path.{◌≡◌, refl, sym, ap}
use mathlib.Core.Bool.{Bool, true, false}
use mathlib.Core.List.{List, [], ◌∷◌, ◌++◌, append-nil, map}
use Prim.Native.Nat.{ℕ, zero, suc, ◌≤◌, ◌<◌, ◌+◌, ◌-◌}
use native.Mathlib.Omega.{arith}
use lib.Dec.{eqb, leb}
use lib.ListN.{length, get_or, replicate}
use borrow.Author.Tests.{eq-eqb, le-leb, le-ltb, leb-true, lt-ltb, ne_eqb}
use Rattle.rules.specs.declared.Generations.{Generations}
use Rattle.rules.specs.Base.{all, held, keep}
use Rattle.rules.specs.Words.{no_generations}
use Rattle.rules.specs.Records.{FourBytes}
use Rattle.rules.specs.Sound.{unfallen}
use Rattle.rules.proofs.Tests.{and_in, and_l, and_r, free-none, held-pos, if-same, pos-held}
use Rattle.sets.specs.Set.{generation_record, generation_records, generation_told, generations_told, in_order, sort_key, may_follow, of_series, tells_generation}
use Rattle.sets.proofs.Lists.{Each, each_append, each_map, each_more, keep_append, keep-few, map_back, order-append}
use Rattle.sets.proofs.Fine.{Fine, Good, generation-fine, good}
use Rattle.sets.proofs.Records.{generation-kind, generation-series, generation-tells}

-- One series' numbers -------------------------------------------------------------------------

-- after one generation come generations
held_after : (low : ℕ) (l : List ℕ) → 0 < low → unfallen low l ≡ true → keep held l ≡ l
unfolding unfallen keep
held_after low [] lt h = refl
held_after low (n ∷ l) lt h =
    let le = leb-true low n (and_l (leb low n) (unfallen n l) h) in
    rw (pos-held n (omega arith)) (ap (λ (m : List ℕ). n ∷ m) (held_after n l (omega arith) (and_r (leb low n) (unfallen n l) h)))

-- so zeros stand first
pub zeros-first : (low : ℕ) (l : List ℕ) → unfallen low l ≡ true → replicate (length l - length (keep held l)) 0 ++ keep held l ≡ l
unfolding unfallen keep
zeros-first low [] h = refl
zeros-first low (n ∷ l) h = go (held n) refl (zeros-first n l (and_r (leb low n) (unfallen n l) h))
  where
    go : (b : Bool) → held n ≡ b → replicate (length l - length (keep held l)) 0 ++ keep held l ≡ l → replicate (suc (length l) - length (keep held (n ∷ l))) 0 ++ keep held (n ∷ l) ≡ n ∷ l
    go true e ih =
        let k = held_after n l (held-pos n e) (and_r (leb low n) (unfallen n l) h) in
        let z : suc (length l) - suc (length l) ≡ 0 = omega arith in
        rw (e, k, z)
    go false e ih =
        let f = keep-few held l in
        let z : suc (length l) - length (keep held l) ≡ suc (length l - length (keep held l)) = omega arith in
        rw (e, z, free-none n e) (ap (λ (m : List ℕ). 0 ∷ m) ih)

-- what is told of one series: numbers that do not fall, each of four bytes
pub record Counted (g : Generations) : Type 0 where
  pub rises : unfallen 0 g.messages ≡ true
  pub fits : all (λ n. leb n 4294967295) g.messages ≡ true
  pub twenty : length g.messages ≡ 20

-- a generation's number: four bytes and not 0
abbrev Some : ℕ → Type 0
Some n = FourBytes n × (held n ≡ true)

some-kept : (l : List ℕ) → all (λ n. leb n 4294967295) l ≡ true → Each Some (keep held l)
unfolding all keep
some-kept [] h = tt
some-kept (n ∷ l) h = go (held n) refl (some-kept l (and_r (leb n 4294967295) (all (λ n. leb n 4294967295) l) h))
  where
    go : (b : Bool) → held n ≡ b → Each Some (keep held l) → Each Some (if b then n ∷ keep held l else keep held l)
    go true e ih = ((let z = leb-true n 4294967295 (and_l (leb n 4294967295) (all (λ n. leb n 4294967295) l) h) in omega arith, e), ih)
    go false e ih = ih

unfallen-kept : (low : ℕ) (l : List ℕ) → unfallen low l ≡ true → unfallen low (keep held l) ≡ true
unfolding unfallen keep
unfallen-kept low [] h = refl
unfallen-kept low (n ∷ l) h = go (held n) refl (unfallen-kept n l (and_r (leb low n) (unfallen n l) h))
  where
    le : low ≤ n
    le = leb-true low n (and_l (leb low n) (unfallen n l) h)

    go : (b : Bool) → held n ≡ b → unfallen n (keep held l) ≡ true → unfallen low (if b then n ∷ keep held l else keep held l) ≡ true
    go true e ih = and_in (leb low n) (unfallen n (keep held l)) (le-leb low n le) ih
    go false e ih = let x = le in let z = free-none n e in let y : low ≡ n = omega arith in rw y ih

-- Their records -------------------------------------------------------------------------------

module _ (s : ℕ) (a : s ≤ 7) where
  numbers-fine : (ns : List ℕ) → Each Some ns → Each (Fine 4 s) (map (generation_record s) ns)
  numbers-fine ns h = each_map (Fine 4 s) (generation_record s) ns (each_more Some (λ n. Fine 4 s (generation_record s n)) (λ n f. generation-fine s n a f.0 f.1) ns h)

  numbers-order : (low : ℕ) (ns : List ℕ) → Each Some ns → unfallen low ns ≡ true → in_order (map (generation_record s) ns) ≡ true
  unfolding in_order unfallen
  numbers-order low [] h u = refl
  numbers-order low (m ∷ []) h u = refl
  numbers-order low (m ∷ n ∷ ns) h u =
      and_in (may_follow q r) (in_order (r ∷ map (generation_record s) ns)) follows (numbers-order m (n ∷ ns) h.1 (and_r (leb low m) (unfallen m (n ∷ ns)) u))
    where
      q : List ℕ
      q = generation_record s m

      r : List ℕ
      r = generation_record s n

      le : leb m n ≡ true
      le = and_l (leb m n) (unfallen n ns) (and_r (leb low m) (unfallen m (n ∷ ns)) u)

      follows : may_follow q r ≡ true
      follows =
          let f = generation-fine s m a h.0.0 h.0.1 in
          let g = generation-fine s n a h.1.0.0 h.1.0.1 in
          unfold may_follow generation_told in (rw (f.of, g.of, f.marked, g.marked, le-ltb s s (omega arith), eq-eqb s s refl, generation-tells s m h.0.0, generation-tells s n h.1.0.0, le))

-- a series' block of records
block-fine : (s : ℕ) (g : Generations) → s ≤ 7 → Counted g → Each (Fine 4 s) (map (generation_record s) (keep held g.messages))
block-fine s g a c = numbers-fine s a (keep held g.messages) (some-kept g.messages c.fits)

pub generations-good : (s : ℕ) (gs : List Generations) → s + length gs ≤ 8 → Each Counted gs → Each (λ r. Good 4 r × (s ≤ sort_key r)) (generation_records s gs)
unfolding generation_records
generations-good s [] le h = tt
generations-good s (g ∷ gs) le h =
    each_append (λ r. Good 4 r × (s ≤ sort_key r)) (map (generation_record s) (keep held g.messages)) (generation_records (suc s) gs)
    (each_more (Fine 4 s) (λ r. Good 4 r × (s ≤ sort_key r)) (λ r f. (good 4 s r f, (let z = f.marked in omega arith)))
    (map (generation_record s) (keep held g.messages)) (block-fine s g (omega arith) h.0))
    (each_more (λ r. Good 4 r × (suc s ≤ sort_key r)) (λ r. Good 4 r × (s ≤ sort_key r)) (λ r f. (f.0, omega arith)) (generation_records (suc s) gs) (generations-good (suc s) gs (omega arith) h.1))

-- a series' record, and one of a later series
later-follows : (s : ℕ) (q r : List ℕ) → Fine 4 s q → Good 4 r → suc s ≤ sort_key r → may_follow q r ≡ true
unfolding may_follow
later-follows s q r f g lt = rw (f.of, g.of, f.marked, lt-ltb s (sort_key r) lt)

pub generations-order : (s : ℕ) (gs : List Generations) → s + length gs ≤ 8 → Each Counted gs → in_order (generation_records s gs) ≡ true
unfolding generation_records
generations-order s [] le h = unfold in_order in refl
generations-order s (g ∷ gs) le h =
    order-append (map (generation_record s) (keep held g.messages)) (generation_records (suc s) gs)
    (each_more (Fine 4 s) (λ q. Each (λ r. may_follow q r ≡ true) (generation_records (suc s) gs))
    (λ q f. each_more (λ r. Good 4 r × (suc s ≤ sort_key r)) (λ r. may_follow q r ≡ true) (λ r d. later-follows s q r f d.0 d.1)
    (generation_records (suc s) gs) (generations-good (suc s) gs (omega arith) h.1))
    (map (generation_record s) (keep held g.messages)) (block-fine s g (omega arith) h.0))
    (numbers-order s (omega arith) 0 (keep held g.messages) (some-kept g.messages h.0.fits) (unfallen-kept 0 g.messages h.0.rises))
    (generations-order (suc s) gs (omega arith) h.1)

-- What is kept of a series --------------------------------------------------------------------

same-series : (s t : ℕ) → s ≤ 7 → (n : ℕ) → of_series t (generation_record s n) ≡ eqb s t
unfolding of_series tells_generation
same-series s t a n = rw (generation-kind s n, generation-series s n (omega arith))

block-kept : (s t : ℕ) → s ≤ 7 → (ns : List ℕ) → keep (of_series t) (map (generation_record s) ns) ≡ (if eqb s t then map (generation_record s) ns else [])
unfolding keep
block-kept s t a [] = sym (if-same (eqb s t) [])
block-kept s t a (n ∷ ns) = rw (same-series s t a n, block-kept s t a ns) (go (eqb s t))
  where
    go : (b : Bool) → (if b then generation_record s n ∷ (if b then map (generation_record s) ns else []) else
        (if b then map (generation_record s) ns else [])) ≡ (if b then generation_record s n ∷ map (generation_record s) ns else [])
    go true = refl
    go false = refl

before-kept : (s t : ℕ) (gs : List Generations) → s + length gs ≤ 8 → t < s → keep (of_series t) (generation_records s gs) ≡ []
unfolding generation_records
before-kept s t [] le lt = unfold keep in refl
before-kept s t (g ∷ gs) le lt = rw (
  keep_append (of_series t) (map (generation_record s) (keep held g.messages)) (generation_records (suc s) gs),
  block-kept s t (omega arith) (keep held g.messages),
  ne_eqb s t (λ e. omega arith),
  before-kept (suc s) t gs (omega arith) (omega arith),
)

-- the records of series t = s + i
pub series-kept : (s i : ℕ) (gs : List Generations) → s + length gs ≤ 8 → (t : ℕ) → s + i ≡ t → keep (of_series t) (generation_records s gs) ≡ map
    (generation_record t) (keep held (get_or gs i no_generations).messages)
unfolding generation_records
series-kept s i [] le t e = unfold keep in refl
series-kept s zero (g ∷ gs) le t e =
    let z : s ≡ t = omega arith in
    rw (
      z,
      keep_append (of_series t) (map (generation_record t) (keep held g.messages)) (generation_records (suc t) gs),
      block-kept t t (omega arith) (keep held g.messages),
      eq-eqb t t refl,
      before-kept (suc t) t gs (omega arith) (omega arith),
      append-nil (map (generation_record t) (keep held g.messages)),
    )
series-kept s (suc i) (g ∷ gs) le t e =
    rw (
      keep_append (of_series t) (map (generation_record s) (keep held g.messages)) (generation_records (suc s) gs),
      block-kept s t (omega arith) (keep held g.messages),
      ne_eqb s t (λ q. omega arith),
      series-kept (suc s) i gs (omega arith) t (omega arith),
    )

-- 20 numbers, zeros first
pub twenty-told : (s : ℕ) (g : Generations) → s ≤ 7 → Counted g → (rs : List (List ℕ)) → keep (of_series s) rs ≡ map (generation_record s) (keep held g.messages) → generations_told rs s ≡ g
unfolding generations_told
twenty-told s g a c rs e =
    let b : map generation_told (map (generation_record s) (keep held g.messages)) ≡ keep held g.messages = map_back (generation_record s)
    generation_told (keep held g.messages)
    (each_more Some (λ n. generation_told (generation_record s n) ≡ n) (λ n f. unfold generation_told in (generation-tells s n f.0))
    (keep held g.messages) (some-kept g.messages c.fits)) in
    rw (e, b, ← c.twenty, zeros-first 0 g.messages c.rises)
