-- The order of prices of a side, and that the best price is the best.
use Rattle.std.specs.Prelude.{if◌then◌else◌}
use mathlib.Core.Path.{◌≡◌, refl, sym, ◌∙◌}
use mathlib.Core.Bool.{Bool, true, false, not, ◌&&◌, ◌||◌, true≢false, false≢true}
use mathlib.Core.List.{List, [], ◌∷◌}
use Prim.Native.Nat.{ℕ, zero, suc, ◌<◌}
use native.Mathlib.Omega.{arith}
use native.Mathlib.Decide.{dec_lt}
use lib.Dec.{ltb, eqb}
use lib.ListN.{get_or}
use borrow.Author.Tests.{ltb-true, lt-ltb}
use Rattle.rules.specs.declared.Regular.{Regular}
use Rattle.rules.proofs.Tests.{held-pos, pos-held, free-none}
use Rattle.rules.specs.Base.{held}
use Rattle.rules.specs.Words.{buy, no_regular}
use Rattle.rules.specs.Prices.{better, better_of, shown_size, shows_at, best_in}

-- as a statement about numbers; b tells whether the side is buy
Better : Bool → ℕ → ℕ → Type 0
Better true a b = b < a
Better false a b = (0 < a) × ((b ≡ 0 → ⊥) → a < b)

better-out : (d a b : ℕ) → better d a b ≡ true → Better (eqb d buy) a b
unfolding better Better
better-out d a b = go (eqb d buy)
  where
    sells : (x y z : Bool) → held a ≡ x → held b ≡ y → ltb a b ≡ z → (x && (not y || z)) ≡ true → (0 < a) × ((b ≡ 0 → ⊥) → a < b)
    sells true true true p q r h = (held-pos a p, λ _. ltb-true a b r)
    sells true true false p q r h = absurd (false≢true h)
    sells true false z p q r h = (held-pos a p, λ n. absurd (n (free-none b q)))
    sells false y z p q r h = absurd (false≢true h)

    go : (t : Bool) → (if t then ltb b a else (held a && (not (held b) || ltb a b))) ≡ true → Better t a b
    go true h = ltb-true b a h
    go false h = sells (held a) (held b) (ltb a b) refl refl refl h

better-in : (d a b : ℕ) → Better (eqb d buy) a b → better d a b ≡ true
unfolding better Better
better-in d a b = go (eqb d buy)
  where
    sells : (y : Bool) → held b ≡ y → (0 < a) × ((b ≡ 0 → ⊥) → a < b) → (held a && (not y || ltb a b)) ≡ true
    sells true q h =
        let z = held-pos b q in
        let l = h.1 (λ e. omega arith) in
        rw (pos-held a h.0, lt-ltb a b l)
    sells false q h = rw (pos-held a h.0)

    go : (t : Bool) → Better t a b → (if t then ltb b a else (held a && (not (held b) || ltb a b))) ≡ true
    go true h = lt-ltb b a h
    go false h = sells (held b) refl h

pub better-trans : (d a b c : ℕ) → better d a b ≡ true → better d b c ≡ true → better d a c ≡ true
unfolding Better
better-trans d a b c h k = better-in d a c (go (eqb d buy) (better-out d a b h) (better-out d b c k))
  where
    go : (t : Bool) → Better t a b → Better t b c → Better t a c
    go true h k = omega arith
    go false h k = (h.0, λ n. let x = k.1 n in let y = h.1 (λ e. omega arith) in omega arith)

pub better-irrefl : (d a : ℕ) → better d a a ≡ true → ⊥
unfolding Better
better-irrefl d a h = go (eqb d buy) (better-out d a a h)
  where
    go : (t : Bool) → Better t a a → ⊥
    go true h = omega arith
    go false h = let x = h.1 (λ e. omega arith) in omega arith

-- where a is better than c and not than b, b is better than c
pub better-past : (d a b c : ℕ) → better d a c ≡ true → (better d a b ≡ true → ⊥) → better d b c ≡ true
unfolding Better
better-past d a b c h n = better-in d b c (go (eqb d buy) (better-out d a c h) (λ x. n (better-in d a b x)))
  where
    go : (t : Bool) → Better t a c → (Better t a b → ⊥) → Better t b c
    go true h n = elim (dec_lt b a) [ yes q ↦ absurd (n q) | no q ↦ omega arith ]
    go false h n =
        elim (dec_lt a b) [
          | yes q ↦ absurd (n (h.0, λ _. q))
          | no q ↦ elim (dec_lt 0 b) [
            | yes r ↦ (r, λ z. let y = h.1 z in omega arith)
            | no r ↦ absurd (n (h.0, λ z. absurd (z (omega arith))))
          ]
        ]

-- of two prices one is better, or they are equal
pub better-total : (d a b : ℕ) → better d a b ≡ false → better d b a ≡ false → a ≡ b
unfolding Better
better-total d a b h k = go (eqb d buy) (λ x. true≢false (sym (better-in d a b x) ∙ h)) (λ x. true≢false (sym (better-in d b a x) ∙ k))
  where
    go : (t : Bool) → (Better t a b → ⊥) → (Better t b a → ⊥) → a ≡ b
    go true h k = elim (dec_lt b a) [ yes q ↦ absurd (h q) | no q ↦ elim (dec_lt a b) [ yes r ↦ absurd (k r) | no r ↦ omega arith ] ]
    go false h k =
        elim (dec_lt 0 a) [
          | yes p ↦ elim (dec_lt a b) [
            | yes q ↦ absurd (h (p, λ _. q))
            | no q ↦ elim (dec_lt b a) [
              | yes r ↦ elim (dec_lt 0 b) [ yes t ↦ absurd (k (t, λ _. r)) | no t ↦ absurd (h (p, λ z. absurd (z (omega arith)))) ]
              | no r ↦ omega arith
            ]
          ]
          | no p ↦ elim (dec_lt 0 b) [ yes q ↦ absurd (k (q, λ z. absurd (z (omega arith)))) | no q ↦ omega arith ]
        ]

-- any price is better than none, and of two prices neither of which is better both are the same
pub better-none : (d p : ℕ) → 0 < p → better d p 0 ≡ true
unfolding Better
better-none d p h = better-in d p 0 (go (eqb d buy))
  where
    go : (t : Bool) → Better t p 0
    go true = h
    go false = (h, λ n. absurd (n refl))

pub better-same : (d p q : ℕ) → 0 < p → 0 < q → (better d p q ≡ true → ⊥) → (better d q p ≡ true → ⊥) → p ≡ q
unfolding Better
better-same d p q hp hq a b = go (eqb d buy) (λ x. a (better-in d p q x)) (λ x. b (better-in d q p x))
  where
    go : (t : Bool) → (Better t p q → ⊥) → (Better t q p → ⊥) → p ≡ q
    go true a b = elim (dec_lt q p) [ yes h ↦ absurd (a h) | no h ↦ elim (dec_lt p q) [ yes k ↦ absurd (b k) | no k ↦ omega arith ] ]
    go false a b = elim (dec_lt p q) [ yes h ↦ absurd (a (hp, λ _. h)) | no h ↦ elim (dec_lt q p) [ yes k ↦ absurd (b (hq, λ _. k)) | no k ↦ omega arith ] ]

pub is_false : (b : Bool) → (b ≡ true → ⊥) → b ≡ false
is_false true h = absurd (h refl)
is_false false h = refl

-- of two prices none is better than the better one
pub own_of : (d p q : ℕ) → better d p (better_of d p q) ≡ true → ⊥
unfolding better_of
own_of d p q = go (better d p q) refl
  where
    go : (t : Bool) → better d p q ≡ t → better d p (if t then p else q) ≡ true → ⊥
    go true e h = better-irrefl d p h
    go false e h = true≢false (sym h ∙ e)

pub of_other : (d x p q : ℕ) → better d x (better_of d p q) ≡ true → better d x q ≡ true
unfolding better_of
of_other d x p q = go (better d p q) refl
  where
    go : (t : Bool) → better d p q ≡ t → better d x (if t then p else q) ≡ true → better d x q ≡ true
    go true e h = better-trans d x p q h e
    go false e h = h

-- no order of a side is better than its best price
pub best-best : (s d : ℕ) (os : List Regular) (i : ℕ) → shows_at s d (get_or os i no_regular) ≡ true → better d (get_or os i no_regular).price (best_in s d os) ≡ true → ⊥
unfolding best_in shows_at shown_size
best-best s d [] i r h = false≢true r
best-best s d (o ∷ os) zero r h = own_of d o.price (best_in s d os) (rw r at h)
best-best s d (o ∷ os) (suc i) r h = best-best s d os i r (go (shows_at s d o) h)
  where
    go : (t : Bool) → better d (get_or os i no_regular).price (if t then better_of d o.price (best_in s d os) else best_in s d os) ≡ true →
        better d (get_or os i no_regular).price (best_in s d os) ≡ true
    go true h = of_other d _ o.price (best_in s d os) h
    go false h = h
