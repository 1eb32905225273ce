-- Going round ids in rising order passes none of them over. So of two that are there each time, each comes once before the other comes again.
use Rattle.std.specs.Prelude.{if◌then◌else◌}
use mathlib.Core.Path.{◌∙◌, ◌≡◌, ap, refl, subst, sym}
use mathlib.Core.Bool.{Bool, false, not, true, true≢false}
use mathlib.Core.Logic.{inl, inr}
use mathlib.Core.List.Memᴰ
use mathlib.Core.List.{List, Memᴰ, [], ◌++◌, ◌∷◌, append-nil}
use Prim.Native.Nat.{◌<◌, ◌≤◌, suc, zero, ℕ}
use native.Mathlib.Decide.{dec_lt, ℕ_discrete}
use native.Mathlib.Omega.{arith}
use lib.Dec.{ltb}
use lib.ListN.{take}
use borrow.Author.Tests.{ltb-false, ltb-true}
use Rattle.rules.specs.Base.{keep}
use Rattle.demands.specs.LimitedSweeps.{InTurn, Rises, last_of, none, other, round, turn}

-- By turns ------------------------------------------------------------------------------------

-- going up from p to z, w is not passed over
abbrev pub NoneBetween : (p z w : ℕ) → Type 0
NoneBetween p z w = p < w → z ≤ w

-- from p to z, x and y not passed over: upwards, or from the highest to the lowest
pub data Hop (x y p z : ℕ) : Type 0 where
  up : p < z → NoneBetween p z x → NoneBetween p z y → Hop x y p z
  over : x ≤ p → y ≤ p → z ≤ x → z ≤ y → Hop x y p z

-- one id after another, from p on
abbrev pub Path : (x y p : ℕ) → List ℕ → Type 0
Path x y p [] = Unit {0}
Path x y p (z ∷ zs) = Hop x y p z × Path x y z zs

pub path-front : (x y n p : ℕ) (zs : List ℕ) → Path x y p zs → Path x y p (take n zs)
path-front x y zero p zs h = tt
path-front x y (suc n) p [] h = tt
path-front x y (suc n) p (z ∷ zs) h = (h.0, path-front x y n z zs h.1)

-- x and y by turns from p on, where x is below y: y first if p is from x on and below y, else x
pub record Turns (x y p : ℕ) (is : List ℕ) : Type 0 where
  pub low : p < x → InTurn x y is
  pub mid : x ≤ p → p < y → InTurn y x is
  pub high : y ≤ p → InTurn x y is

pub no-turns : (x y p : ℕ) → Turns x y p []
no-turns x y p = record { low = λ _. none; mid = λ _ _. none; high = λ _. none }

module _ (x y : ℕ) (apart : x < y) where
  -- z, which is x or below it
  first : (z : ℕ) (is : List ℕ) → Turns x y z is → z ≤ x → InTurn x y (z ∷ is)
  first z is t le = go (ℕ_discrete z x)
    where
      go : Dec (z ≡ x) → InTurn x y (z ∷ is)
      go (yes e) = subst (λ (i : ℕ). InTurn x y (i ∷ is)) (sym e) (turn (t.mid (omega arith) (omega arith)))
      go (no n) = other n (λ (e : z ≡ y). omega arith) (t.low (omega arith))

  -- z, which is above x, and y or below it
  second : (z : ℕ) (is : List ℕ) → Turns x y z is → x < z → z ≤ y → InTurn y x (z ∷ is)
  second z is t lt le = go (ℕ_discrete z y)
    where
      go : Dec (z ≡ y) → InTurn y x (z ∷ is)
      go (yes e) = subst (λ (i : ℕ). InTurn y x (i ∷ is)) (sym e) (turn (t.high (omega arith)))
      go (no n) = other n (λ (e : z ≡ x). omega arith) (t.mid (omega arith) (omega arith))

  hop : (p z : ℕ) (is : List ℕ) → Hop x y p z → Turns x y z is → Turns x y p (z ∷ is)
  hop p z is (up lt a b) t = record {
    low = λ h. first z is t (a h);
    mid = λ h k. second z is t (omega arith) (b k);
    high = λ h. other (λ (e : z ≡ x). omega arith) (λ (e : z ≡ y). omega arith) (t.high (omega arith));
  }
  hop p z is (over a b c d) t = record {
    low = λ h. absurd (omega arith);
    mid = λ h k. absurd (omega arith);
    high = λ h. first z is t c;
  }

  pub along : (p : ℕ) (zs is : List ℕ) → Path x y p zs → Turns x y (last_of p zs) is → Turns x y p (zs ++ is)
  unfolding last_of
  along p [] is h t = t
  along p (z ∷ zs) is h t = hop p z (zs ++ is) h.0 (along z zs is h.1 t)

-- Going round ---------------------------------------------------------------------------------

above : (low w : ℕ) (is : List ℕ) → Rises low is → Memᴰ w is → low < w
above low w [] r m = absurd (Memᴰ.not-nil m)
above low w (i ∷ is) r m = let a = r.0 in elim (Memᴰ.cases_cons m) [ inl e ↦ omega arith | inr n ↦ let b = above i w is r.1 n in omega arith ]

-- the first of them is the lowest
lowest : (i w : ℕ) (is : List ℕ) → Rises i is → Memᴰ w (i ∷ is) → i ≤ w
lowest i w is r m = elim (Memᴰ.cases_cons m) [ inl e ↦ omega arith | inr n ↦ let b = above i w is r n in omega arith ]

-- up through those that pass a test; what does not pass it is not between
module _ (x y : ℕ) (f : ℕ → Bool) (start : ℕ) (gap : (p t w : ℕ) → start ≤ p → f t ≡ true → f w ≡ false → p < w → t ≤ w) where
  -- w is still to come, if it passes and is above p
  abbrev Comes : (p w : ℕ) → List ℕ → Type 0
  Comes p w is = p < w → f w ≡ true → Memᴰ w is

  none_between : (p t w : ℕ) (is : List ℕ) → start ≤ p → f t ≡ true → Rises t is → Comes p w (t ∷ is) → NoneBetween p t w
  none_between p t w is s e r c l = go (f w) refl
    where
      go : (b : Bool) → f w ≡ b → t ≤ w
      go true h = lowest t w is r (c l h)
      go false h = gap p t w s e h l

  taken : (p t w : ℕ) (is : List ℕ) → p < t → Comes p w (t ∷ is) → Comes t w is
  taken p t w is lt c l h = elim (Memᴰ.cases_cons (c (omega arith) h)) [ inl e ↦ absurd (omega arith) | inr m ↦ m ]

  skipped : (p t w : ℕ) (is : List ℕ) → f t ≡ false → Comes p w (t ∷ is) → Comes p w is
  skipped p t w is e c l h = elim (Memᴰ.cases_cons (c l h)) [ inl q ↦ absurd (true≢false (sym h ∙ ap f q ∙ e)) | inr m ↦ m ]

  -- and from wherever that ends through others
  climb : (low p : ℕ) (is rest : List ℕ) → Rises low is → start ≤ p → ((t : ℕ) → low < t → f t ≡ true → p < t) → Comes p x is → Comes p y is →
      ((q : ℕ) → start ≤ q → Comes q x [] → Comes q y [] → Path x y q rest) → Path x y p (keep f is ++ rest)
  unfolding keep
  climb low p [] rest r s i cx cy k = k p s cx cy
  climb low p (t ∷ is) rest r s i cx cy k = go (f t) refl (λ q. climb t q is rest r.1)
    where
      go : (b : Bool) → f t ≡ b →
          ((q : ℕ) → start ≤ q → ((u : ℕ) → t < u → f u ≡ true → q < u) → Comes q x is → Comes q y is →
          ((q : ℕ) → start ≤ q → Comes q x [] → Comes q y [] → Path x y q rest) → Path x y q (keep f is ++ rest)) →
          Path x y p ((if b then t ∷ keep f is else keep f is) ++ rest)
      go true e on =
          let lt = i t r.0 e in (
            up lt (none_between p t x is s e r.1 cx) (none_between p t y is s e r.1 cy),
            on t (omega arith) (λ u l _. l) (taken p t x is lt cx) (taken p t y is lt cy) k,
          )
      go false e on = on p s (λ u l h. i u (let a = r.0 in omega arith) h) (skipped p t x is e cx) (skipped p t y is e cy) k

module _ (x y r : ℕ) where
  abbrev upper : ℕ → Bool
  upper i = ltb r i

  abbrev lower : ℕ → Bool
  lower i = not (ltb r i)

  lower-le : (i : ℕ) → lower i ≡ true → i ≤ r
  lower-le i h = go (ltb r i) refl h
    where
      go : (b : Bool) → ltb r i ≡ b → not b ≡ true → i ≤ r
      go true e h = absurd (true≢false (sym h))
      go false e h = ltb-false r i e

  lower-gt : (i : ℕ) → lower i ≡ false → r < i
  lower-gt i h = go (ltb r i) refl h
    where
      go : (b : Bool) → ltb r i ≡ b → not b ≡ false → r < i
      go true e h = ltb-true r i e
      go false e h = absurd (true≢false h)

  -- from above both: the lowest of the others, and up
  through : (q low : ℕ) (is : List ℕ) → Rises low is → x ≤ q → y ≤ q → (lower x ≡ true → Memᴰ x is) → (lower y ≡ true → Memᴰ y is) → Path x y q (keep lower is)
  unfolding keep
  through q low [] rs a b mx my = tt
  through q low (t ∷ is) rs a b mx my = go (lower t) refl (λ mx my. through q t is rs.1 a b mx my)
    where
      least : (w : ℕ) → lower t ≡ true → (lower w ≡ true → Memᴰ w (t ∷ is)) → t ≤ w
      least w e m = case (lower w) refl
        where
          case : (b : Bool) → lower w ≡ b → t ≤ w
          case true h = lowest t w is rs.1 (m h)
          case false h = let p = lower-gt w h in let q = lower-le t e in omega arith

      -- those after the first
      after : (w : ℕ) → (lower w ≡ true → Memᴰ w (t ∷ is)) → t < w → lower w ≡ true → Memᴰ w is
      after w m l h = elim (Memᴰ.cases_cons (m h)) [ inl e ↦ absurd (omega arith) | inr n ↦ n ]

      beyond : (w : ℕ) → lower t ≡ false → (lower w ≡ true → Memᴰ w (t ∷ is)) → lower w ≡ true → Memᴰ w is
      beyond w e m h = elim (Memᴰ.cases_cons (m h)) [ inl s ↦ absurd (true≢false (sym h ∙ ap lower s ∙ e)) | inr n ↦ n ]

      go : (b : Bool) → lower t ≡ b → ((lower x ≡ true → Memᴰ x is) → (lower y ≡ true → Memᴰ y is) → Path x y q (keep lower is)) →
          Path x y q (if b then t ∷ keep lower is else keep lower is)
      go true e on = (
        over a b (least x e mx) (least y e my),
        subst (Path x y t) (append-nil (keep lower is))
            (climb x y lower t (λ p u w _ g h l. let i = lower-le u g in let j = lower-gt w h in omega arith) t t is [] rs.1 (omega arith) (λ u l _. l) (after x mx) (after y my) (λ q _ _ _. tt)),
      )
      go false e on = on (beyond x e mx) (beyond y e my)

  -- the whole round, from r
  pub round-path : (is : List ℕ) → Rises 0 is → Memᴰ x is → Memᴰ y is → Path x y r (round r is)
  unfolding round
  round-path is rs mx my =
      climb x y upper r (λ p t w s e h l. let a = ltb-false r w h in absurd (omega arith)) 0 r is (keep lower is) rs (omega arith) (λ t _ e. ltb-true r t e)
      (λ _ _. mx) (λ _ _. my) (λ q s cx cy. through q 0 is rs (top q x s cx) (top q y s cy) (λ _. mx) (λ _. my))
    where
      top : (q w : ℕ) → r ≤ q → (q < w → upper w ≡ true → Memᴰ w []) → w ≤ q
      top q w s c = elim (dec_lt q w) [
        | yes l ↦ case (upper w) refl l
        | no n ↦ omega arith
      ]
        where
          case : (b : Bool) → upper w ≡ b → q < w → w ≤ q
          case true e l = absurd (Memᴰ.not-nil (c l e))
          case false e l = let a = ltb-false r w e in omega arith
