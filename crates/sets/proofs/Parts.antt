-- The part of a set that a record is of tells what it is, and each kind is of one part.
use mathlib.Core.Path.{◌≡◌, refl}
use mathlib.Core.Bool.{Bool, true, false, ◌||◌}
use mathlib.Core.List.{List}
use Prim.Native.Nat.{ℕ}
use lib.Dec.{eqb}
use borrow.Author.Tests.{eqb-true}
use Rattle.rules.specs.Bytes.{kind_field}
use Rattle.sets.specs.Set.{part, tells_complex, tells_edition, tells_generation, tells_legging, tells_regular}

-- a number is this one, or it is not
pub whether : {P : Type 0} (n k : ℕ) → (n ≡ k → P) → (eqb n k ≡ false → P) → P
whether {P} n k f g = go (eqb n k) refl
  where
    go : (b : Bool) → eqb n k ≡ b → P
    go true e = f (eqb-true n k e)
    go false e = g e

-- what a record of a part is: an edition, a resting order, a legging order, a generation, the id reached
abbrev pub Sort : (r : List ℕ) (k : ℕ) → Type 0
Sort r k =
    (tells_edition r ≡ eqb k 1) × ((tells_regular r || tells_complex r) ≡ eqb k 2) × (tells_legging r ≡ eqb k 3) × (tells_generation r ≡ eqb k 4)
    × (eqb (kind_field r) 84 ≡ eqb k 5)

pub sort : (r : List ℕ) → Sort r (part r)
unfolding part tells_edition tells_regular tells_complex tells_legging tells_generation
sort r =
    let n = kind_field r in
    whether n 7 (λ e. rw e (refl, refl, refl, refl, refl)) λ a.
    whether n 8 (λ e. rw e (refl, refl, refl, refl, refl)) λ b.
    whether n 1 (λ e. rw e (refl, refl, refl, refl, refl)) λ c.
    whether n 9 (λ e. rw e (refl, refl, refl, refl, refl)) λ d.
    whether n 2 (λ e. rw e (refl, refl, refl, refl, refl)) λ f.
    whether n 10 (λ e. rw e (refl, refl, refl, refl, refl)) λ g.
    whether n 82 (λ e. rw e (refl, refl, refl, refl, refl)) λ h.
    whether n 83 (λ e. rw e (refl, refl, refl, refl, refl)) λ i.
    whether n 84 (λ e. rw e (refl, refl, refl, refl, refl)) λ j.
    rw (a, b, c, d, f, g, h, i, j) (refl, refl, refl, refl, refl)

-- and of a record whose part is known
pub sort-of : (r : List ℕ) (k : ℕ) → part r ≡ k → Sort r k
sort-of r k e = rw (← e) (sort r)
