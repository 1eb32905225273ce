-- Tests: what a Bool that came out true or false says.
use Rattle.std.specs.Prelude.{if◌then◌else◌}
use mathlib.Core.Path.{◌≡◌, refl, sym}
use mathlib.Core.Bool.{Bool, true, false, not, ◌&&◌, ◌||◌, true≢false, false≢true}
use mathlib.Core.Logic.{◌⊎◌, inl, inr}
use Prim.Native.Nat.{ℕ, zero, suc, ◌<◌}
use native.Mathlib.Omega.{arith}
use lib.Dec.{eqb-suc-zero}
use borrow.Author.Tests.{eqb-true, eqb-false, ne_eqb, not-false}
use Rattle.rules.specs.Base.{held}

-- a conjunction's parts, and back
pub and_l : (a b : Bool) → (a && b) ≡ true → a ≡ true
and_l true b h = refl
and_l false b h = h

pub and_r : (a b : Bool) → (a && b) ≡ true → b ≡ true
and_r true b h = h
and_r false b h = absurd (false≢true h)

pub and_in : (a b : Bool) → a ≡ true → b ≡ true → (a && b) ≡ true
and_in a b p q = rw (p, q)

pub not_in : (a : Bool) → a ≡ false → not a ≡ true
not_in a p = rw p

pub not-out : (a : Bool) → not a ≡ true → a ≡ false
not-out true h = sym h
not-out false h = refl

-- a case of a test, with the equation
pub decide : (b : Bool) → (b ≡ true) ⊎ (b ≡ false)
decide true = inl refl
decide false = inr refl

pub if-same : {A : Type 0} (b : Bool) (x : A) → (if b then x else x) ≡ x
if-same true x = refl
if-same false x = refl

pub held_none : held 0 ≡ false
held_none = refl

pub or_r : (a b : Bool) → a ≡ false → (a || b) ≡ true → b ≡ true
or_r true b e h = absurd (true≢false e)
or_r false b e h = h

-- a disjunction that came out false
pub or-false-l : (a b : Bool) → (a || b) ≡ false → a ≡ false
or-false-l true b h = absurd (true≢false h)
or-false-l false b h = refl

pub or-false-r : (a b : Bool) → (a || b) ≡ false → b ≡ false
or-false-r true b h = absurd (true≢false h)
or-false-r false b h = h

pub and-true : (a : Bool) → (a && true) ≡ a
and-true true = refl
and-true false = refl

pub and-false : (a : Bool) → (a && false) ≡ false
and-false true = refl
and-false false = refl

-- a held place has a quantity, and a free one has none
pub held-pos : (q : ℕ) → held q ≡ true → 0 < q
held-pos q h = let f = eqb-false q 0 (not-out _ h) in omega arith

pub pos-held : (q : ℕ) → 0 < q → held q ≡ true
pos-held q h = rw (ne_eqb q 0 (λ e. omega arith))

pub free-none : (q : ℕ) → held q ≡ false → q ≡ 0
free-none q h = eqb-true q 0 (not-false _ h)

pub if-held : (q : ℕ) → (if held q then q else 0) ≡ q
if-held zero = refl
if-held (suc q) = rw eqb-suc-zero
