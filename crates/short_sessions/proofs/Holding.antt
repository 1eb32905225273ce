-- Sessions in lent memory.
use mathlib.Core.Path.{◌≡◌, refl, sym, ap, ◌∙◌}
use mathlib.Core.Bool.{Bool, true, false}
use mathlib.Core.Logic.{◌≢◌}
use mathlib.Core.List.{List, [], ◌∷◌}
use mathlib.Core.Option.{Option, none, some}
use Prim.Native.Nat.{ℕ, zero, suc, ◌≤◌, ◌<◌, max}
use native.Mathlib.Omega.{arith}
use borrow.Author.Tests.{eqb-false, eqb-true, le-ltb, lt-ltb, ltb-false, ltb-true, ne_eqb}
use lib.Dec.{eqb, ltb}
use lib.ListN.{get_or, length}
use Rattle.short_sessions.specs.Sessions.{Within, following}
use Rattle.short_sessions.specs.Held.{HoldsOwn, Moved, advanced, held, held_in, is_within, moved}

-- Four bytes ----------------------------------------------------------------------------------

four : (m : List ℕ) → length m ≡ 4 → m ≡ get_or m 0 0 ∷ get_or m 1 0 ∷ get_or m 2 0 ∷ get_or m 3 0 ∷ []
four [] h = absurd (omega arith)
four (w ∷ []) h = absurd (omega arith)
four (w ∷ x ∷ []) h = absurd (omega arith)
four (w ∷ x ∷ y ∷ []) h = absurd (omega arith)
four (w ∷ x ∷ y ∷ z ∷ []) h = refl
four (w ∷ x ∷ y ∷ z ∷ v ∷ m) h = absurd (omega arith)

-- The session that they hold ------------------------------------------------------------------

-- more than three messages, or a place that is none of the list's
too_many : (k n a b c : ℕ) → 3 < n → held_in k (n ∷ a ∷ b ∷ c ∷ []) ≡ none
unfolding held_in
too_many k n a b c h = rw (le-ltb n 4 h, held_in)

no-first : (k n a b c : ℕ) → n ≢ 0 → k ≤ a → held_in k (n ∷ a ∷ b ∷ c ∷ []) ≡ none
unfolding held_in is_within
no-first k zero a b c s h = absurd (s refl)
no-first k (suc zero) a b c s h = rw (le-ltb a k h, held_in)
no-first k (suc (suc zero)) a b c s h = rw (le-ltb a k h, held_in)
no-first k (suc (suc (suc zero))) a b c s h = rw (le-ltb a k h, held_in)
no-first k (suc (suc (suc (suc n)))) a b c s h = too_many k (suc (suc (suc (suc n)))) a b c (omega arith)

no_second : (k n a b c : ℕ) → n ≢ 0 → n ≢ 1 → a < k → k ≤ b → held_in k (n ∷ a ∷ b ∷ c ∷ []) ≡ none
unfolding held_in is_within
no_second k zero a b c s t g h = absurd (s refl)
no_second k (suc zero) a b c s t g h = absurd (t refl)
no_second k (suc (suc zero)) a b c s t g h = rw (lt-ltb a k g, le-ltb b k h, held_in)
no_second k (suc (suc (suc zero))) a b c s t g h = rw (lt-ltb a k g, le-ltb b k h, held_in)
no_second k (suc (suc (suc (suc n)))) a b c s t g h = too_many k (suc (suc (suc (suc n)))) a b c (omega arith)

no_third : (k n a b c : ℕ) → 2 < n → a < k → b < k → k ≤ c → held_in k (n ∷ a ∷ b ∷ c ∷ []) ≡ none
unfolding held_in is_within
no_third k zero a b c s f g h = absurd (omega arith)
no_third k (suc zero) a b c s f g h = absurd (omega arith)
no_third k (suc (suc zero)) a b c s f g h = absurd (omega arith)
no_third k (suc (suc (suc zero))) a b c s f g h = rw (lt-ltb a k f, lt-ltb b k g, le-ltb c k h, held_in)
no_third k (suc (suc (suc (suc n)))) a b c s f g h = too_many k (suc (suc (suc (suc n)))) a b c (omega arith)

holds-one : (k a b c : ℕ) → a < k → held_in k (1 ∷ a ∷ b ∷ c ∷ []) ≡ some (a ∷ [])
unfolding held_in is_within
holds-one k a b c h = rw (lt-ltb a k h, held_in)

holds-two : (k a b c : ℕ) → a < k → b < k → held_in k (2 ∷ a ∷ b ∷ c ∷ []) ≡ some (a ∷ b ∷ [])
unfolding held_in is_within
holds-two k a b c g h = rw (lt-ltb a k g, lt-ltb b k h, held_in)

holds-three : (k a b c : ℕ) → a < k → b < k → c < k → held_in k (3 ∷ a ∷ b ∷ c ∷ []) ≡ some (a ∷ b ∷ c ∷ [])
unfolding held_in is_within
holds-three k a b c f g h = rw (lt-ltb a k f, lt-ltb b k g, lt-ltb c k h, held_in)

-- the same of a memory and its bytes
module _ (k : ℕ) (m : List ℕ) (len : length m ≡ 4) where
  by_bytes : (o : Option (List ℕ)) → held_in k (get_or m 0 0 ∷ get_or m 1 0 ∷ get_or m 2 0 ∷ get_or m 3 0 ∷ []) ≡ o → o ≡ held_in k m
  by_bytes o e = sym (ap (held_in k) (four m len) ∙ e)

  first : (n : ℕ) → get_or m 0 0 ≡ n → held_in k (get_or m 0 0 ∷ get_or m 1 0 ∷ get_or m 2 0 ∷ get_or m 3 0 ∷ []) ≡ held_in k (n ∷ get_or m 1 0 ∷ get_or m 2 0 ∷ get_or m 3 0 ∷ [])
  first n e = ap (λ (x : ℕ). held_in k (x ∷ get_or m 1 0 ∷ get_or m 2 0 ∷ get_or m 3 0 ∷ [])) e

  pub is_none : get_or m 0 0 ≡ 0 → some [] ≡ held_in k m
  unfolding held_in is_within
  is_none e = by_bytes _ (first 0 e)

  pub is_one : get_or m 0 0 ≡ 1 → get_or m 1 0 < k → some (get_or m 1 0 ∷ []) ≡ held_in k m
  is_one e g = by_bytes _ (first 1 e ∙ holds-one k _ _ _ g)

  pub is-two : get_or m 0 0 ≡ 2 → get_or m 1 0 < k → get_or m 2 0 < k → some (get_or m 1 0 ∷ get_or m 2 0 ∷ []) ≡ held_in k m
  is-two e g h = by_bytes _ (first 2 e ∙ holds-two k _ _ _ g h)

  pub is-three : get_or m 0 0 ≡ 3 → get_or m 1 0 < k → get_or m 2 0 < k → get_or m 3 0 < k → some (get_or m 1 0 ∷ get_or m 2 0 ∷ get_or m 3 0 ∷ []) ≡ held_in k m
  is-three e f g h = by_bytes _ (first 3 e ∙ holds-three k _ _ _ f g h)

  pub none_first : get_or m 0 0 ≢ 0 → k ≤ get_or m 1 0 → none ≡ held_in k m
  none_first s h = by_bytes _ (no-first k _ _ _ _ s h)

  pub none-second : get_or m 0 0 ≢ 0 → get_or m 0 0 ≢ 1 → get_or m 1 0 < k → k ≤ get_or m 2 0 → none ≡ held_in k m
  none-second s t g h = by_bytes _ (no_second k _ _ _ _ s t g h)

  pub none-third : 2 < get_or m 0 0 → get_or m 1 0 < k → get_or m 2 0 < k → k ≤ get_or m 3 0 → none ≡ held_in k m
  none-third s f g h = by_bytes _ (no_third k _ _ _ _ s f g h)

  -- of two or three places, the highest
  pub none-of_two : get_or m 0 0 ≡ 2 → k ≤ max (get_or m 1 0) (get_or m 2 0) → none ≡ held_in k m
  none-of_two e h = go (ltb (get_or m 1 0) k) refl
    where
      go : (b : Bool) → ltb (get_or m 1 0) k ≡ b → none ≡ held_in k m
      go true x = let y = ltb-true (get_or m 1 0) k x in none-second (omega arith) (omega arith) y (omega arith)
      go false x = none_first (omega arith) (ltb-false (get_or m 1 0) k x)

  pub none-of_three : get_or m 0 0 ≡ 3 → k ≤ max (max (get_or m 1 0) (get_or m 2 0)) (get_or m 3 0) → none ≡ held_in k m
  none-of_three e h = go (ltb (get_or m 1 0) k) refl (ltb (get_or m 2 0) k) refl
    where
      go : (b : Bool) → ltb (get_or m 1 0) k ≡ b → (d : Bool) → ltb (get_or m 2 0) k ≡ d → none ≡ held_in k m
      go false x d y = none_first (omega arith) (ltb-false (get_or m 1 0) k x)
      go true x false y = none-second (omega arith) (omega arith) (ltb-true (get_or m 1 0) k x) (ltb-false (get_or m 2 0) k y)
      go true x true y = let u = ltb-true (get_or m 1 0) k x in let v = ltb-true (get_or m 2 0) k y in none-third (omega arith) u v (omega arith)

  pub none_more : 3 < get_or m 0 0 → none ≡ held_in k m
  none_more h = by_bytes _ (too_many k _ _ _ _ h)

pub other_length : (k : ℕ) (m : List ℕ) → length m ≢ 4 → none ≡ held_in k m
unfolding held_in
other_length k m h = rw (ne_eqb (length m) 4 h, held_in)

-- memory that holds a session has four bytes
pub four_bytes : (k : ℕ) (m s : List ℕ) → some s ≡ held_in k m → length m ≡ 4
four_bytes k m s e = go (eqb (length m) 4) refl
  where
    go : (b : Bool) → eqb (length m) 4 ≡ b → length m ≡ 4
    go true x = eqb-true (length m) 4 x
    go false x = let z = other_length k m (eqb-false (length m) 4 x) in cc

pub holds-own : HoldsOwn
unfolding held Within
holds-own k [] few w = unfold held_in is_within in refl
holds-own k (a ∷ []) few w = holds-one k a 0 0 w.0
holds-own k (a ∷ b ∷ []) few w = holds-two k a b 0 w.0 w.1.0
holds-own k (a ∷ b ∷ c ∷ []) few w = holds-three k a b c w.0 w.1.0 w.1.1.0
holds-own k (a ∷ b ∷ c ∷ d ∷ s) few w = absurd (omega arith)

-- The move ------------------------------------------------------------------------------------

pub holds-none : (k : ℕ) (m : List ℕ) → held_in k m ≡ none → moved none m ≡ advanced k m
unfolding advanced
holds-none k m e = rw (e, advanced)

pub none_after : (k : ℕ) (m s : List ℕ) → held_in k m ≡ some s → following k s ≡ none → moved none m ≡ advanced k m
unfolding advanced
none_after k m s e f = rw (e, f, advanced)

pub moved_on : (k : ℕ) (m s t : List ℕ) → held_in k m ≡ some s → following k s ≡ some t → moved (some t) (held t) ≡ advanced k m
unfolding advanced
moved_on k m s t e f = rw (e, f, advanced)

-- from a session that was put there
pub record Came (k : ℕ) (s : List ℕ) (o : Option (List ℕ)) (memory : List ℕ) : Type 0 where
  pub to-next : o ≡ following k s
  pub there : (t : List ℕ) → o ≡ some t → memory ≡ held t

pub came : (k : ℕ) (s : List ℕ) (o : Option (List ℕ)) (m : List ℕ) → length s ≤ 3 → Within k s → moved o m ≡ advanced k (held s) → Came k s o m
unfolding moved
came k s o m few w e = go (following k s) refl
  where
    own : held_in k (held s) ≡ some s
    own = holds-own k s few w

    go : (p : Option (List ℕ)) → following k s ≡ p → Came k s o m
    go none f =
        let a : o ≡ none = ap (λ (x : Moved). x.to) (e ∙ sym (none_after k (held s) s own f)) in
        record { to-next = a ∙ sym f; there = λ t b. cc }
    go (some u) f =
        let x = e ∙ sym (moved_on k (held s) s u own f) in
        let a : o ≡ some u = ap (λ (x : Moved). x.to) x in
        let c : m ≡ held u = ap (λ (x : Moved). x.memory) x in
        record { to-next = a ∙ sym f; there = λ t b. (let q : u ≡ t = cc in c ∙ ap held q) }
