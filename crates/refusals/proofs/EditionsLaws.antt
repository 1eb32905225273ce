-- A test of every place.
use mathlib.Core.Path.{◌≡◌, refl, ap, ◌∙◌}
use mathlib.Core.Bool.{Bool, true, false, ◌&&◌}
use mathlib.Core.List.{List, [], ◌∷◌}
use Prim.Native.Nat.{ℕ, zero, suc, ◌≤◌, ◌<◌}
use native.Mathlib.Omega.{arith}
use native.Mathlib.Decide.{dec_lt}
use lib.ListN.{length, get_or}
use Rattle.rules.specs.Base.{all}
use Rattle.rules.specs.Words.{no_edition}
use Rattle.places.specs.Layout.{in_use, edition_in, venue_of}
use Rattle.places.proofs.Tables.{used-at, used-free, used-length, whole}

module _ {A : Type 0} (f : A → Bool) (d : A) where
  passes : (l : List A) → ((i : ℕ) → i < length l → f (get_or l i d) ≡ true) → true ≡ all f l
  unfolding all
  passes [] h = refl
  passes (x ∷ l) h = rw (h 0 (omega arith)) (passes l (λ i q. h (suc i) (omega arith)))

  fails : (l : List A) (i : ℕ) → i < length l → f (get_or l i d) ≡ false → false ≡ all f l
  unfolding all
  fails [] i q e = absurd (omega arith)
  fails (x ∷ l) zero q e = rw e refl
  fails (x ∷ l) (suc i) q e = go (f x) (fails l i (omega arith) e)
    where
      go : (t : Bool) → false ≡ all f l → false ≡ (t && all f l)
      go true h = h
      go false h = refl

  module _ (g : ℕ → A) (n m : ℕ) (few : n ≤ m) where
    pub all_pass : (n < m → f d ≡ true) → ((j : ℕ) → j < n → f (g j) ≡ true) → true ≡ all f (in_use g d n m)
    all_pass free h = passes (in_use g d n m) (λ i q. go i (dec_lt i n) (rw (used-length g d n m few) at q))
      where
        go : (i : ℕ) → Dec (i < n) → i < m → f (get_or (in_use g d n m) i d) ≡ true
        go i (yes p) q = ap f (used-at g d n m i p) ∙ h i p
        go i (no p) q = ap f (used-free g d n m i (omega arith)) ∙ free (omega arith)

    pub one-fails : (i : ℕ) → i < n → f (g i) ≡ false → false ≡ all f (in_use g d n m)
    one-fails i q e = let l = used-length g d n m few in fails (in_use g d n m) i (omega arith) (ap f (used-at g d n m i q) ∙ e)

-- the editions are a table whose places are all in use
pub editions-used : (b : List ℕ) → in_use (edition_in b) no_edition 32 32 ≡ (venue_of b).editions
unfolding venue_of
editions-used b = whole (edition_in b) no_edition 32
