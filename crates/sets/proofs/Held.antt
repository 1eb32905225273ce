-- The held places of an arranged book: they rise, each is as asked, and with free places after them they are the book.
use Rattle.std.specs.Prelude.{if◌then◌else◌}
use mathlib.Core.Path.{◌≡◌, refl}
use mathlib.Core.Bool.{Bool, true, false, ◌&&◌}
use mathlib.Core.List.{List, [], ◌∷◌}
use Prim.Native.Nat.{ℕ, suc, ◌<◌}
use lib.Dec.{ltb}
use lib.ListN.{get_or, length}
use borrow.Author.Tests.{ltb-true}
use Rattle.rules.specs.Base.{all, keep}
use Rattle.rules.specs.Places.{arranged, packed}
use Rattle.rules.proofs.Tests.{and_l, and_r}
use Rattle.sets.specs.Set.{places}
use Rattle.sets.proofs.Lists.{Each, Rising}

module _ {A : Type 0} (holds asked blank : A → Bool) (id : A → ℕ) (free : (x : A) → blank x ≡ true → holds x ≡ false) where
  none_kept : (l : List A) → all blank l ≡ true → keep holds l ≡ []
  unfolding all keep
  none_kept [] h = refl
  none_kept (x ∷ l) h = rw (free x (and_l (blank x) (all blank l) h)) (none_kept l (and_r (blank x) (all blank l) h))

  -- what the held places are
  pub record RisingHeld (low : ℕ) (l : List A) : Type 0 where
    pub rises : Rising id (suc low) (keep holds l)
    pub asks : Each (λ x. (holds x ≡ true) × (asked x ≡ true)) (keep holds l)

  one_more : (low : ℕ) (x : A) (l : List A) → holds x ≡ true → low < id x → asked x ≡ true → RisingHeld (id x) l → RisingHeld low (x ∷ l)
  unfolding keep
  one_more low x l h lt a k = record { rises = rw h ((lt, k.rises)); asks = rw h (((h, a), k.asks)) }

  nothing-more : (low : ℕ) (x : A) (l : List A) → all blank (x ∷ l) ≡ true → RisingHeld low (x ∷ l)
  nothing-more low x l h = let e = none_kept (x ∷ l) h in record { rises = rw e tt; asks = rw e tt }

  pub arranged-kept : (low : ℕ) (l : List A) → arranged holds asked blank id low l ≡ true → RisingHeld low l
  unfolding arranged all
  arranged-kept low [] h = record { rises = unfold keep in tt; asks = unfold keep in tt }
  arranged-kept low (x ∷ l) h = go (holds x) refl h (arranged-kept (id x) l)
    where
      go : (b : Bool) → holds x ≡ b → (if b then ltb low (id x) && asked x && arranged holds asked blank id (id x) l else blank x && all blank l) ≡ true →
          (arranged holds asked blank id (id x) l ≡ true → RisingHeld (id x) l) → RisingHeld low (x ∷ l)
      go true e h ih =
          let z = h in
          one_more low x l e (ltb-true low (id x) (search (and_l, and_r, z) depth 4)) (search (and_l, and_r, z) depth 4)
          (ih (and_r (ltb low (id x) && asked x) (arranged holds asked blank id (id x) l) h))
      go false e h ih = nothing-more low x l h

module _ {A : Type 0} (holds : A → Bool) (none : A) where
  -- so many places: with free ones after them, the held ones of a book without gaps are the book
  pub places-are : (l : List A) (count : ℕ) → length l ≡ count → packed holds none l ≡ l → places count none (keep holds l) ≡ l
  unfolding places packed
  places-are l count n k = rw (← n) k

  -- what every held place is
  pub each-kept : (P : A → Type 0) (l : List A) → ((i : ℕ) → holds (get_or l i none) ≡ true → P (get_or l i none)) → Each P (keep holds l)
  unfolding keep
  each-kept P [] h = tt
  each-kept P (x ∷ l) h = go (holds x) refl (each-kept P l (λ i. h (suc i)))
    where
      go : (b : Bool) → holds x ≡ b → Each P (keep holds l) → Each P (if b then x ∷ keep holds l else keep holds l)
      go true e ih = (h 0 e, ih)
      go false e ih = ih
