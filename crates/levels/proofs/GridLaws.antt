-- The grid: a store in place, and the loop that fills it.
use mathlib.Core.Path.{◌≡◌, refl, ap, ◌∙◌}
use mathlib.Core.List.{List, [], ◌∷◌}
use Prim.Native.Nat.{ℕ, zero, suc, ◌+◌, ◌*◌, ◌≤◌, ◌<◌}
use native.Mathlib.Omega.{arith}
use native.Mathlib.Decide.{ℕ_discrete}
use lib.ListN.{length, get_or, set, replicate, length-set}
use lib.Seq.{get_or-set_same, get_or-set_other}
use Rattle.rules.specs.Words.{place_of}
use Rattle.places.specs.declared.Level.{Level}
use Rattle.places.specs.Layout.{venue_of, level_in, Right}
use Rattle.levels.specs.Grid.{no_level, cell_of, GridOf}

-- the rows before s have the levels that are kept
pub record Filling (b : List ℕ) (g : List (List Level)) (s : ℕ) : Type 0 where
  pub few : s ≤ 8
  pub long : length g ≡ 8
  pub cells : (t d : ℕ) → t < s → d < 2 → cell_of g t d ≡ level_in b (place_of t d)

pub filling-start : (b : List ℕ) → Filling b (replicate 8 (replicate 2 no_level)) 0
filling-start b = record {
  few = omega arith;
  long = refl;
  cells = λ t d h k. absurd (omega arith);
}

module _ (b : List ℕ) (g : List (List Level)) (s : ℕ) (x : Filling b g s) (h : s < 8) (l r : Level) (el : l ≡ level_in b (2 * s)) (er : r ≡ level_in b (2 * s + 1)) where
  here : (d : ℕ) → d < 2 → get_or (l ∷ r ∷ []) d no_level ≡ level_in b (place_of s d)
  unfolding place_of
  here zero k = let z : 2 * s ≡ 2 * s + 0 = omega arith in el ∙ ap (level_in b) z
  here (suc zero) k = er
  here (suc (suc d)) k = absurd (omega arith)

  cell : (t d : ℕ) → t < s + 1 → Dec (t ≡ s) → d < 2 → cell_of (set g s (l ∷ r ∷ [])) t d ≡ level_in b (place_of t d)
  cell t d f (no e) k = ap (λ (row : List Level). get_or row d no_level) (get_or-set_other g s t (l ∷ r ∷ []) [] e) ∙ x.cells t d (omega arith) k
  cell t d f (yes e) k = rw e (ap (λ (row : List Level). get_or row d no_level) (get_or-set_same g s (l ∷ r ∷ []) [] (omega (arith, x.long))) ∙ here d k)

  pub filling-turn : Filling b (set g s (l ∷ r ∷ [])) (s + 1)
  filling-turn = record {
    few = omega arith;
    long = length-set g s (l ∷ r ∷ []) ∙ x.long;
    cells = λ t d f k. cell t d f (ℕ_discrete t s) k;
  }

pub filling-end : (b : List ℕ) (g : List (List Level)) (s : ℕ) → Filling b g s → 8 ≤ s → Right b → GridOf g (venue_of b).regular
filling-end b g s x h r = λ t d ht hd. x.cells t d (omega (arith, x.few)) hd ∙ r.levels t d ht hd
