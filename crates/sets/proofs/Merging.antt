-- The resting orders of both books in one row: what is kept of it are the books, and its ids rise.
use Rattle.std.specs.Prelude.{if◌then◌else◌}
use mathlib.Core.Path.{◌≡◌, refl}
use mathlib.Core.Bool.{Bool, true, false, ◌||◌}
use mathlib.Core.List.{List, [], ◌∷◌, map}
use Prim.Native.Nat.{ℕ, zero, suc, ◌≤◌, ◌<◌, ◌+◌}
use native.Mathlib.Omega.{arith}
use lib.Dec.{eqb, ltb}
use lib.ListN.{length}
use borrow.Author.Tests.{ltb-false, ltb-true}
use Rattle.rules.specs.declared.Regular.{Regular}
use Rattle.rules.specs.declared.Complex.{Complex}
use Rattle.rules.specs.Base.{keep}
use Rattle.rules.specs.Words.{one_to_one}
use Rattle.rules.specs.Bytes.{kind_field}
use Rattle.sets.specs.Set.{by_id, complex_record, sort_key, regular_record, tells_complex, tells_regular}
use Rattle.sets.proofs.Lists.{Each, Rising, each_map, each_more, every, keep-every, keep-none, rising-map}
use Rattle.sets.proofs.Records.{complex-kind, regular-kind}

-- which book each is of
regular-regular : (o : Regular) → tells_regular (regular_record o) ≡ true
unfolding tells_regular
regular-regular o = rw (regular-kind o)

regular-complex : (o : Regular) → tells_complex (regular_record o) ≡ false
unfolding tells_complex
regular-complex o = rw (regular-kind o)

-- a complex order's kind is 2 or 10
complex-kinds : (P : ℕ → Type 0) → P 2 → P 10 → (c : Complex) → P (kind_field (complex_record c))
complex-kinds P a b c = rw (complex-kind c) (go (one_to_one c))
  where
    go : (t : Bool) → P (if t then 2 else 10)
    go true = a
    go false = b

complex-regular : (c : Complex) → tells_regular (complex_record c) ≡ false
unfolding tells_regular
complex-regular = complex-kinds (λ n. (eqb n 1 || eqb n 9) ≡ false) refl refl

complex-complex : (c : Complex) → tells_complex (complex_record c) ≡ true
unfolding tells_complex
complex-complex = complex-kinds (λ n. (eqb n 2 || eqb n 10) ≡ true) refl refl

-- what both books' records are, the row's are
pub merge-each : (P : List ℕ → Type 0) (fuel : ℕ) (os : List Regular) (cs : List Complex) → Each (λ o. P (regular_record o)) os → Each (λ c. P (complex_record c)) cs →
    Each P (by_id fuel os cs)
unfolding by_id
merge-each P zero os cs h k = tt
merge-each P (suc fuel) [] cs h k = each_map P complex_record cs k
merge-each P (suc fuel) (o ∷ os) [] h k = each_map P regular_record (o ∷ os) h
merge-each P (suc fuel) (o ∷ os) (c ∷ cs) h k = go (ltb o.id c.id) (merge-each P fuel os (c ∷ cs) h.1 k) (merge-each P fuel (o ∷ os) cs h k.1)
  where
    go : (b : Bool) → Each P (by_id fuel os (c ∷ cs)) → Each P (by_id fuel (o ∷ os) cs) → Each P (if b then regular_record o ∷ by_id fuel os (c ∷ cs) else complex_record c ∷ by_id fuel (o ∷ os) cs)
    go true x y = (h.0, x)
    go false x y = (k.0, y)

-- the books are kept
pub merge-regular : (fuel : ℕ) (os : List Regular) (cs : List Complex) → length os + length cs ≤ fuel → keep tells_regular (by_id fuel os cs) ≡ map regular_record os
unfolding by_id keep
merge-regular zero [] cs le = refl
merge-regular zero (o ∷ os) cs le = absurd (omega arith)
merge-regular (suc fuel) [] cs le = keep-none tells_regular (map complex_record cs)
    (each_map (λ r. tells_regular r ≡ false) complex_record cs (every (λ c. tells_regular (complex_record c) ≡ false) complex-regular cs))
merge-regular (suc fuel) (o ∷ os) [] le = keep-every tells_regular (map regular_record (o ∷ os))
    (each_map (λ r. tells_regular r ≡ true) regular_record (o ∷ os) (every (λ o. tells_regular (regular_record o) ≡ true) regular-regular (o ∷ os)))
merge-regular (suc fuel) (o ∷ os) (c ∷ cs) le = go (ltb o.id c.id) (merge-regular fuel os (c ∷ cs) (omega arith)) (merge-regular fuel (o ∷ os) cs (omega arith))
  where
    go : (b : Bool) → keep tells_regular (by_id fuel os (c ∷ cs)) ≡ map regular_record os → keep tells_regular (by_id fuel (o ∷ os) cs) ≡ map regular_record (o ∷ os) →
        keep tells_regular (if b then regular_record o ∷ by_id fuel os (c ∷ cs) else complex_record c ∷ by_id fuel (o ∷ os) cs) ≡ map regular_record (o ∷ os)
    go true x y = rw (regular-regular o, x)
    go false x y = rw (complex-regular c, y)

pub merge-complex : (fuel : ℕ) (os : List Regular) (cs : List Complex) → length os + length cs ≤ fuel → keep tells_complex (by_id fuel os cs) ≡ map complex_record cs
unfolding by_id keep
merge-complex zero os [] le = refl
merge-complex zero os (c ∷ cs) le = absurd (omega arith)
merge-complex (suc fuel) [] cs le = keep-every tells_complex (map complex_record cs)
    (each_map (λ r. tells_complex r ≡ true) complex_record cs (every (λ c. tells_complex (complex_record c) ≡ true) complex-complex cs))
merge-complex (suc fuel) (o ∷ os) [] le = keep-none tells_complex (map regular_record (o ∷ os))
    (each_map (λ r. tells_complex r ≡ false) regular_record (o ∷ os) (every (λ o. tells_complex (regular_record o) ≡ false) regular-complex (o ∷ os)))
merge-complex (suc fuel) (o ∷ os) (c ∷ cs) le = go (ltb o.id c.id) (merge-complex fuel os (c ∷ cs) (omega arith)) (merge-complex fuel (o ∷ os) cs (omega arith))
  where
    go : (b : Bool) → keep tells_complex (by_id fuel os (c ∷ cs)) ≡ map complex_record (c ∷ cs) → keep tells_complex (by_id fuel (o ∷ os) cs) ≡ map complex_record cs →
        keep tells_complex (if b then regular_record o ∷ by_id fuel os (c ∷ cs) else complex_record c ∷ by_id fuel (o ∷ os) cs) ≡ map complex_record (c ∷ cs)
    go true x y = rw (regular-complex o, x)
    go false x y = rw (complex-complex c, y)

-- no id is in both books
abbrev pub Apart : List Regular → List Complex → Type 0
Apart os cs = Each (λ o. Each (λ c. o.id ≡ c.id → ⊥) cs) os

-- so the row rises
pub merge-rises : (fuel low : ℕ) (os : List Regular) (cs : List Complex) → Each (λ o. sort_key (regular_record o) ≡ o.id) os → Each (λ c. sort_key (complex_record c) ≡ c.id) cs →
    Apart os cs → Rising (λ o. o.id) low os → Rising (λ c. c.id) low cs → Rising sort_key low (by_id fuel os cs)
unfolding by_id
merge-rises zero low os cs h k a x y = tt
merge-rises (suc fuel) low [] cs h k a x y = rising-map (λ c. c.id) sort_key complex_record low cs k y
merge-rises (suc fuel) low (o ∷ os) [] h k a x y = rising-map (λ o. o.id) sort_key regular_record low (o ∷ os) h x
merge-rises (suc fuel) low (o ∷ os) (c ∷ cs) h k a x y =
    go (ltb o.id c.id) refl (λ lt. merge-rises fuel (suc o.id) os (c ∷ cs) h.1 k a.1 x.1 ((lt, y.1)))
    (λ lt. merge-rises fuel (suc c.id) (o ∷ os) cs h k.1
    ((a.0.1, each_more (λ o. Each (λ c. o.id ≡ c.id → ⊥) (c ∷ cs)) (λ o. Each (λ c. o.id ≡ c.id → ⊥) cs) (λ o d. d.1) os a.1))
    ((lt, x.1)) y.1)
  where
    go : (b : Bool) → ltb o.id c.id ≡ b → (o.id < c.id → Rising sort_key (suc o.id) (by_id fuel os (c ∷ cs))) → (c.id < o.id → Rising sort_key (suc c.id) (by_id fuel (o ∷ os) cs)) →
        Rising sort_key low (if b then regular_record o ∷ by_id fuel os (c ∷ cs) else complex_record c ∷ by_id fuel (o ∷ os) cs)
    go true e f g = rw h.0 ((x.0, f (ltb-true o.id c.id e)))
    go false e f g = rw k.0 ((y.0, g (let le = ltb-false o.id c.id e in let n = a.0.0 in omega arith)))
