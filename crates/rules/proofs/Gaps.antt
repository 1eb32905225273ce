-- The venue with its gaps closed: where each order was, and where it goes.
use mathlib.Core.Path.{◌≡◌, refl}
use mathlib.Core.Bool.{true}
use Prim.Native.Nat.{ℕ}
use Rattle.rules.specs.declared.Venue.{Venue}
use Rattle.rules.specs.Base.{held}
use Rattle.rules.specs.Words.{no_complex, no_regular, with_complex, with_regular}
use Rattle.rules.specs.Places.{close_gaps, holds_complex, holds_regular}
use Rattle.rules.specs.Sums.{open_complex, open_regular}
use Rattle.rules.proofs.Adding.{open-packed}
use Rattle.rules.proofs.Closing.{from, packed-at, packed-to, to}
use Rattle.rules.proofs.Filling.{cx, reg}

module _ (v : Venue) where
  -- where the order at place i was
  abbrev pub fr : ℕ → ℕ
  fr = from holds_regular no_regular v.regular

  abbrev pub fc : ℕ → ℕ
  fc = from holds_complex no_complex v.complex

  pub was : (i : ℕ) → reg (close_gaps v) i ≡ reg v (fr i)
  unfolding close_gaps with_regular with_complex
  was i = packed-at holds_regular no_regular v.regular i

  pub was_c : (i : ℕ) → cx (close_gaps v) i ≡ cx v (fc i)
  unfolding close_gaps with_regular with_complex
  was_c i = packed-at holds_complex no_complex v.complex i

  pub goes_to : (j : ℕ) → held (cx v j).quantity ≡ true → cx (close_gaps v) (to holds_complex no_complex v.complex j) ≡ cx v j
  unfolding close_gaps with_regular with_complex
  goes_to j h = packed-to holds_complex no_complex v.complex j h

  -- what is open under an id is as it was
  pub closed-open : (y : ℕ) → open_regular y (close_gaps v).regular ≡ open_regular y v.regular
  unfolding close_gaps with_regular with_complex
  closed-open y = open-packed no_regular (λ o. o.id) (λ o. o.quantity) y refl v.regular

  pub closed-open_c : (y : ℕ) → open_complex y (close_gaps v).complex ≡ open_complex y v.complex
  unfolding close_gaps with_regular with_complex
  closed-open_c y = open-packed no_complex (λ c. c.id) (λ c. c.quantity) y refl v.complex
