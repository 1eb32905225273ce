-- Showing again, place by place: each order has what it had, and shows the lesser of its shown quantity and what is left of it.
use mathlib.Core.Path.{◌≡◌, refl, subst, sym}
use mathlib.Core.Bool.{true}
use mathlib.Core.List.{List, [], ◌∷◌, map}
use Prim.Native.Nat.{suc, zero, ℕ}
use native.Mathlib.Omega.{arith}
use lib.ListN.{get_or, length}
use Rattle.rules.specs.declared.Regular.{Regular}
use Rattle.rules.specs.declared.Venue.{Venue}
use Rattle.rules.specs.Base.{held}
use Rattle.rules.specs.Words.{no_regular, with_regular}
use Rattle.rules.specs.Prices.{shown_size}
use Rattle.rules.specs.Standing.{show_again, shows_again}
use Rattle.rules.specs.Sums.{open_in, open_regular}
use Rattle.rules.proofs.Filling.{Fewer, Lesser, reg}

map_at : {A : Type 0} (f : A → A) (none : A) → f none ≡ none → (l : List A) (i : ℕ) → get_or (map f l) i none ≡ f (get_or l i none)
map_at f none e [] i = sym e
map_at f none e (x ∷ l) zero = refl
map_at f none e (x ∷ l) (suc i) = map_at f none e l i

map-length : {A : Type 0} (f : A → A) (l : List A) → length (map f l) ≡ length l
map-length f [] = refl
map-length f (x ∷ l) = rw (map-length f l)

-- every order shows some size
abbrev pub Shown : Venue → Type 0
Shown v = (i : ℕ) → held (reg v i).quantity ≡ true → held (shown_size (reg v i)) ≡ true

again-lesser : (o : Regular) → Lesser (shows_again o) o
unfolding shows_again
again-lesser o = record { id = refl; series = refl; side = refl; price = refl; quantity = omega arith }

open-again : (y : ℕ) (os : List Regular) → open_regular y (map shows_again os) ≡ open_regular y os
unfolding open_in shows_again
open-again y [] = refl
open-again y (o ∷ os) = rw (open-again y os)

module _ (v : Venue) where
  pub again-at : (i : ℕ) → reg (show_again v) i ≡ shows_again (reg v i)
  unfolding show_again with_regular shows_again
  again-at i = map_at shows_again no_regular refl v.regular i

  pub again-fewer : Fewer (show_again v).regular v.regular
  unfolding show_again with_regular
  again-fewer = record {
    same = map-length shows_again v.regular;
    lesser = λ i. subst (λ (o : Regular). Lesser o (reg v i)) (sym (again-at i)) (again-lesser (reg v i));
  }

  pub again-open : (y : ℕ) → open_regular y (show_again v).regular ≡ open_regular y v.regular
  unfolding show_again with_regular
  again-open y = open-again y v.regular
