-- The first in rank of the places in use, by a scan that counts down.
use Rattle.std.specs.Prelude.{if◌then◌else◌}
use mathlib.Core.Path.{◌≡◌, refl, sym, ap, ◌∙◌}
use mathlib.Core.Bool.{Bool, true, false}
use mathlib.Core.List.{List, [], ◌∷◌, ◌++◌}
use Prim.Native.Nat.{ℕ, zero, suc, ◌-◌, ◌≤◌, ◌<◌}
use native.Mathlib.Omega.{arith}
use lib.ListN.{replicate}
use Rattle.rules.specs.Base.{Choice, nobody, ranked, first_from, first}
use Rattle.places.specs.Layout.{upto, in_use}
use Rattle.levels.proofs.Scans.{upto-back, upto-end}

module _ {A : Type 0} (candidate : A → Bool) (before : A → A → Bool) where
  -- free places are no candidates
  first-none : (none : A) → candidate none ≡ false → (i k : ℕ) → first_from candidate before i (replicate k none) ≡ nobody
  unfolding first_from
  first-none none e i zero = refl
  first-none none e i (suc k) = rw e (first-none none e (suc i) k)

  first-free : (none : A) → candidate none ≡ false → (i : ℕ) (xs : List A) (k : ℕ) →
      first_from candidate before i (xs ++ replicate k none) ≡ first_from candidate before i xs
  unfolding first_from
  first-free none e i [] k = first-none none e i k
  first-free none e i (x ∷ xs) k =
      ap (λ (y : Choice A). if candidate x then ranked before i x y else y) (first-free none e (suc i) xs k)

  pub first-used : (f : ℕ → A) (none : A) (n all : ℕ) → candidate none ≡ false →
      first_from candidate before 0 (upto f 0 n) ≡ first candidate before (in_use f none n all)
  unfolding in_use
  first-used f none n all e = sym (first-free none e 0 (upto f 0 n) (all - n))

  module _ (f : ℕ → A) (i n : ℕ) where
    pub scan-start : n ≤ i → nobody ≡ first_from candidate before i (upto f i (n - i))
    unfolding first_from
    scan-start h = rw (upto-end f i n h)

    module _ (p : 0 < i) (h : i ≤ n) (x : Choice A) (e : x ≡ first_from candidate before i (upto f i (n - i))) where
      back : first_from candidate before (i - 1) (upto f (i - 1) (n - (i - 1))) ≡ (if candidate (f (i - 1)) then ranked before (i - 1) (f (i - 1)) x else x)
      unfolding first_from
      back =
          let z : suc (i - 1) ≡ i = omega arith in
          ap (first_from candidate before (i - 1)) (upto-back f i n p h)
          ∙ ap (λ (y : Choice A). if candidate (f (i - 1)) then ranked before (i - 1) (f (i - 1)) y else y)
          (ap (λ (k : ℕ). first_from candidate before k (upto f i (n - i))) z ∙ sym e)

      -- one place more, that is no candidate
      pub scan-past : candidate (f (i - 1)) ≡ false → x ≡ first_from candidate before (i - 1) (upto f (i - 1) (n - (i - 1)))
      scan-past q = rw (back, q)

      -- or is one
      pub scan-join : (y : Choice A) → candidate (f (i - 1)) ≡ true → y ≡ ranked before (i - 1) (f (i - 1)) x →
          y ≡ first_from candidate before (i - 1) (upto f (i - 1) (n - (i - 1)))
      scan-join y q w = rw (back, q) w
