-- The list handed out follows from what comes of each number.
use mathlib.Core.Path.{◌≡◌, refl, sym, ap, ◌∙◌}
use mathlib.Core.Bool.{true}
use mathlib.Core.List.{List, [], ◌∷◌}
use Prim.Native.Nat.{ℕ, zero, suc, ◌<◌}
use native.Mathlib.Omega.{arith}
use borrow.Author.Tests.{le-ltb, ne_eqb, eq-eqb}
use Rattle.feed.specs.Feed.{Part, under, later, same, Next, message, stop, next, stopped, first, handed_from}

-- of a part that is passed nothing comes any more
module _ (p : Part) (ps : List Part) (k : ℕ) (h : p.number < k) where
  pub under-past : under k (p ∷ ps) ≡ under k ps
  unfolding under
  under-past = rw (ne_eqb p.number k (λ e. omega arith))

  pub later-past : later k (p ∷ ps) ≡ later k ps
  unfolding later
  later-past = rw (le-ltb k p.number (omega arith))

-- the same bytes are the same
pub same_self : (a : List ℕ) → same a a ≡ true
unfolding same
same_self [] = refl
same_self (x ∷ a) = rw (eq-eqb x x refl) (same_self a)

-- what comes of a number, from the parts under it
pub next-as : (k : ℕ) (m m' s s' : List Part) → under k m ≡ under k m' → under k s ≡ under k s' → later k m ≡ later k m' → later k s ≡ later k s' →
    next k m s ≡ next k m' s'
unfolding next
next-as k m m' s s' a b c d = rw (a, b, c, d)

-- one number
module _ (fuel n : ℕ) (m s : List Part) where
  pub handed-on : (bs : List ℕ) → next (suc n) m s ≡ message bs → handed_from (suc fuel) n m s ≡ first bs (handed_from fuel (suc n) m s)
  unfolding handed_from
  handed-on bs e = rw (e, handed_from)

  pub handed-stop : (k : ℕ) → next (suc n) m s ≡ stop k → handed_from (suc fuel) n m s ≡ stopped k
  unfolding handed_from
  handed-stop k e = rw (e, handed_from)

-- two pairs of lines of which the same comes hand the same list out
pub handed-as : (fuel n : ℕ) (m m' s s' : List Part) → ((k : ℕ) → n < k → next k m s ≡ next k m' s') → handed_from fuel n m s ≡ handed_from fuel n m' s'
handed-as zero n m m' s s' e = unfold handed_from in refl
handed-as (suc fuel) n m m' s s' e = go (handed-as fuel (suc n) m m' s s' (λ k h. e k (omega arith))) (next (suc n) m s) refl
  where
    go : handed_from fuel (suc n) m s ≡ handed_from fuel (suc n) m' s' → (x : Next) → next (suc n) m s ≡ x → handed_from (suc fuel) n m s ≡ handed_from (suc fuel) n m' s'
    go rest (message bs) f =
        handed-on fuel n m s bs f ∙ ap (first bs) rest
        ∙ sym (handed-on fuel n m' s' bs (sym (e (suc n) (omega arith)) ∙ f))
    go rest (stop k) f = handed-stop fuel n m s k f ∙ sym (handed-stop fuel n m' s' k (sym (e (suc n) (omega arith)) ∙ f))
