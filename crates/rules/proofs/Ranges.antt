-- Whether a number is in a range, and at most and below of integers.
use mathlib.Core.Path.{◌≡◌, refl}
use mathlib.Core.Bool.{Bool, true, false, not}
use Prim.Native.Nat.{ℕ, ◌<◌, ◌≤◌}
use lib.Dec.{leb, ltb}
use lib.IntN.{ℤ, pos, negsuc}
use lib.Signed.{le_z, lt_z}
use borrow.Author.Tests.{le-leb, lt-leb, lt-ltb, le-ltb, leb-true, leb-false}
use Rattle.rules.specs.Words.{within}
use Rattle.rules.proofs.Tests.{and-false}

pub below : (low high x : ℕ) → x < low → within low high x ≡ false
unfolding within
below low high x h = rw (lt-leb low x h)

pub above : (low high x : ℕ) → high < x → within low high x ≡ false
unfolding within
above low high x h = rw (lt-leb x high h) (and-false (leb low x))

pub inside : (low high x : ℕ) → low ≤ x → x ≤ high → within low high x ≡ true
unfolding within
inside low high x a b = rw (le-leb low x a, le-leb x high b)

-- the upper bound alone decides
pub within-top : (low high x : ℕ) → low ≤ x → leb x high ≡ within low high x
unfolding within
within-top low high x a = rw (le-leb low x a)

-- at most is not above
leb-not : (a b : ℕ) → leb a b ≡ not (ltb b a)
leb-not a b = go (leb a b) refl
  where
    go : (t : Bool) → leb a b ≡ t → leb a b ≡ not (ltb b a)
    go true e = rw (e, le-ltb b a (leb-true _ _ e))
    go false e = rw (e, lt-ltb b a (leb-false _ _ e))

pub le_z-not : (a b : ℤ) → le_z a b ≡ not (lt_z b a)
le_z-not (pos a) (pos b) = leb-not a b
le_z-not (pos a) (negsuc b) = refl
le_z-not (negsuc a) (pos b) = refl
le_z-not (negsuc a) (negsuc b) = leb-not b a
