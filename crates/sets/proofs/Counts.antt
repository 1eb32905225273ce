-- Few enough of each part in some records, taken apart and put together.
use Rattle.std.specs.Prelude.{if◌then◌else◌}
use mathlib.Core.Path.{◌≡◌, refl}
use mathlib.Core.Bool.{Bool, true, false, not, ◌||◌}
use mathlib.Core.Logic.{◌⊎◌, inl, inr, ⊎_elim}
use mathlib.Core.List.{List, [], ◌∷◌}
use Prim.Native.Nat.{ℕ, ◌≤◌}
use native.Mathlib.Omega.{arith}
use lib.Dec.{eqb, leb}
use lib.ListN.{length}
use borrow.Author.Tests.{eqb-true, le-leb, leb-true}
use Rattle.rules.specs.Base.{all, keep}
use Rattle.rules.specs.Bytes.{u8_at}
use Rattle.rules.proofs.Tests.{and_in, and_l, and_r}
use Rattle.sets.specs.Set.{count_of, few_enough, of_series, tells_complex, tells_edition, tells_generation, tells_legging, tells_regular}
use Rattle.sets.proofs.Lists.{all-each, every}

-- as many of each as a venue has places for
pub record Few (rs : List (List ℕ)) : Type 0 where
  pub editions : length (keep tells_edition rs) ≤ 32
  pub regulars : length (keep tells_regular rs) ≤ 128
  pub complexes : length (keep tells_complex rs) ≤ 32
  pub leggings : length (keep tells_legging rs) ≤ 16
  pub generations : (s : ℕ) → length (keep (of_series s) rs) ≤ 20

-- none passes a test, or one that does passes another too
none_or : (f g : List ℕ → Bool) (P : Type 0) → ((r : List ℕ) → f r ≡ true → g r ≡ true → P) → (l : List (List ℕ)) → all g l ≡ true → (length (keep f l) ≡ 0) ⊎ P
unfolding keep all
none_or f g P one [] h = inl refl
none_or f g P one (r ∷ l) h = go (f r) refl (none_or f g P one l (and_r (g r) (all g l) h))
  where
    go : (b : Bool) → f r ≡ b → (length (keep f l) ≡ 0) ⊎ P → (length (if b then r ∷ keep f l else keep f l) ≡ 0) ⊎ P
    go true e k = inr (one r e (and_l (g r) (all g l) h))
    go false e k = k

module _ (l : List (List ℕ)) (h : few_enough l ≡ true) where
  abbrev few-of : List ℕ → Bool
  few-of r = not (tells_generation r) || leb (count_of (of_series (u8_at r 4)) l) 20

  few-series : all few-of l ≡ true
  unfolding few_enough
  few-series = search (and_l, and_r, h) depth 8

  few-generations : (s : ℕ) → length (keep (of_series s) l) ≤ 20
  unfolding of_series count_of
  few-generations s =
      ⊎_elim (λ z. omega arith) (λ z. z)
      (none_or (of_series s) few-of (length (keep (of_series s) l) ≤ 20)
      (λ r e k. leb-true (length (keep (of_series s) l)) 20
      (rw (and_l (tells_generation r) (eqb (u8_at r 4) s) e, eqb-true (u8_at r 4) s (and_r (tells_generation r) (eqb (u8_at r 4) s) e)) at k)) l few-series)

  pub few-out : Few l
  unfolding few_enough count_of
  few-out = record {
    editions = leb-true (length (keep tells_edition l)) 32 (search (and_l, and_r, h) depth 6);
    regulars = leb-true (length (keep tells_regular l)) 128 (search (and_l, and_r, h) depth 6);
    complexes = leb-true (length (keep tells_complex l)) 32 (search (and_l, and_r, h) depth 6);
    leggings = leb-true (length (keep tells_legging l)) 16 (search (and_l, and_r, h) depth 6);
    generations = few-generations;
  }

or_yes : (a : Bool) → (a || true) ≡ true
or_yes true = refl
or_yes false = refl

pub few-in : (l : List (List ℕ)) → Few l → few_enough l ≡ true
unfolding few_enough count_of
few-in l few =
    and_in _ _ (and_in _ _ (and_in _ _ (and_in _ _ (le-leb _ 32 few.editions) (le-leb _ 128 few.regulars)) (le-leb _ 32 few.complexes)) (le-leb _ 16 few.leggings))
    (all-each (λ r. not (tells_generation r) || leb (count_of (of_series (u8_at r 4)) l) 20) l
    (every (λ r. (not (tells_generation r) || leb (count_of (of_series (u8_at r 4)) l) 20) ≡ true)
    (λ r. rw (le-leb (length (keep (of_series (u8_at r 4)) l)) 20 (few.generations (u8_at r 4))) (or_yes (not (tells_generation r)))) l))
