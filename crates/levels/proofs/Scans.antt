-- Scans of the places in use, down and up, and that free places add nothing to them.
use Rattle.std.specs.Prelude.{if◌then◌else◌}
use mathlib.Core.Path.{◌≡◌, refl, ap, ◌∙◌}
use mathlib.Core.Bool.{true, false}
use mathlib.Core.List.{List, [], ◌∷◌, ◌++◌}
use Prim.Native.Nat.{ℕ, zero, suc, ◌+◌, ◌-◌, ◌≤◌, ◌<◌}
use native.Mathlib.Omega.{arith}
use lib.ListN.{replicate}
use Rattle.rules.specs.declared.Regular.{Regular}
use Rattle.rules.specs.declared.Complex.{Complex}
use Rattle.rules.specs.Words.{no_regular, no_complex, is_complex_of}
use Rattle.rules.specs.Prices.{better_of, shown_size, shows_at, shows_for, best_in, size_in}
use Rattle.rules.specs.Standing.{find_complex}
use Rattle.places.specs.Layout.{upto, in_use}

module _ {A : Type 0} (f : ℕ → A) where
  -- one place more in front, for a scan that counts down
  pub upto-back : (i n : ℕ) → 0 < i → i ≤ n → upto f (i - 1) (n - (i - 1)) ≡ f (i - 1) ∷ upto f i (n - i)
  unfolding upto
  upto-back i n p h =
      let z : n - (i - 1) ≡ suc (n - i) = omega arith in
      let y : suc (i - 1) ≡ i = omega arith in
      ap (λ (k : ℕ). upto f (i - 1) k) z ∙ ap (λ (k : ℕ). f (i - 1) ∷ upto f k (n - i)) y

  -- and for one that counts up
  pub upto-on : (i n : ℕ) → i < n → upto f i (n - i) ≡ f i ∷ upto f (i + 1) (n - (i + 1))
  unfolding upto
  upto-on i n h =
      let z : n - i ≡ suc (n - (i + 1)) = omega arith in
      let y : suc i ≡ i + 1 = omega arith in
      ap (λ (k : ℕ). upto f i k) z ∙ ap (λ (k : ℕ). f i ∷ upto f k (n - (i + 1))) y

  pub upto-end : (i n : ℕ) → n ≤ i → upto f i (n - i) ≡ []
  unfolding upto
  upto-end i n h =
      let z : n - i ≡ 0 = omega arith in
      ap (λ (k : ℕ). upto f i k) z

-- Free places ---------------------------------------------------------------------------------

best_none : (s d k : ℕ) → best_in s d (replicate k no_regular) ≡ 0
unfolding best_in shows_at shown_size
best_none s d zero = refl
best_none s d (suc k) = best_none s d k

best-free : (s d : ℕ) (os : List Regular) (k : ℕ) → best_in s d (os ++ replicate k no_regular) ≡ best_in s d os
unfolding best_in
best-free s d [] k = best_none s d k
best-free s d (o ∷ os) k = ap (λ (x : ℕ). if shows_at s d o then better_of d o.price x else x) (best-free s d os k)

size_none : (s d p k : ℕ) → size_in s d p (replicate k no_regular) ≡ 0
unfolding size_in shows_for shows_at shown_size
size_none s d p zero = refl
size_none s d p (suc k) = size_none s d p k

size-free : (s d p : ℕ) (os : List Regular) (k : ℕ) → size_in s d p (os ++ replicate k no_regular) ≡ size_in s d p os
unfolding size_in
size-free s d p [] k = size_none s d p k
size-free s d p (o ∷ os) k = ap (λ (x : ℕ). if shows_for s d p o then shown_size o + x else x) (size-free s d p os k)

pub best-used : (f : ℕ → Regular) (s d n all : ℕ) → best_in s d (in_use f no_regular n all) ≡ best_in s d (upto f 0 n)
unfolding in_use
best-used f s d n all = best-free s d (upto f 0 n) (all - n)

pub size-used : (f : ℕ → Regular) (s d p n all : ℕ) → size_in s d p (in_use f no_regular n all) ≡ size_in s d p (upto f 0 n)
unfolding in_use
size-used f s d p n all = size-free s d p (upto f 0 n) (all - n)

-- The complex order with an id ----------------------------------------------------------------

find_none : (id k : ℕ) → find_complex id (replicate k no_complex) ≡ no_complex
unfolding find_complex is_complex_of
find_none id zero = refl
find_none id (suc k) = find_none id k

find-free : (id : ℕ) (cs : List Complex) (k : ℕ) → find_complex id (cs ++ replicate k no_complex) ≡ find_complex id cs
unfolding find_complex
find-free id [] k = find_none id k
find-free id (c ∷ cs) k = ap (λ (x : Complex). if is_complex_of id c then c else x) (find-free id cs k)

pub find-used : (f : ℕ → Complex) (id n all : ℕ) → find_complex id (upto f 0 n) ≡ find_complex id (in_use f no_complex n all)
unfolding in_use
find-used f id n all = rw (find-free id (upto f 0 n) (all - n))

module _ (id : ℕ) (f : ℕ → Complex) (i n : ℕ) where
  find-on : i < n → find_complex id (upto f i (n - i)) ≡ (if is_complex_of id (f i) then f i else find_complex id (upto f (i + 1) (n - (i + 1))))
  unfolding find_complex
  find-on h = ap (find_complex id) (upto-on f i n h)

  pub find-here : i < n → is_complex_of id (f i) ≡ true → f i ≡ find_complex id (upto f i (n - i))
  find-here h e = rw (find-on h, e)

  pub find_past : i < n → is_complex_of id (f i) ≡ false → find_complex id (upto f (i + 1) (n - (i + 1))) ≡ find_complex id (upto f i (n - i))
  find_past h e = rw (find-on h, e)

  pub find-end : n ≤ i → no_complex ≡ find_complex id (upto f i (n - i))
  unfolding find_complex
  find-end h = rw (upto-end f i n h)
