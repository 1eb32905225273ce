-- A new legging order is afforded: its quantity is at most what its complex order has open, and at most the size at the other leg's clear price.
use Prim.Native.Nat.{◌≤◌, ℕ}
use native.Mathlib.Omega.{arith}
use Rattle.rules.specs.declared.Complex.{Complex}
use Rattle.rules.specs.declared.Venue.{Venue}
use Rattle.rules.specs.Standing.{other_size}
use Rattle.rules.specs.Generation.{new_legging}

module _ (v : Venue) (c : Complex) (s d : ℕ) where
  pub new-open : (new_legging v c s d).quantity ≤ c.quantity
  unfolding new_legging
  new-open = omega arith

  -- "Quantity: the lesser of open and size at the clear price."
  pub new-size : (new_legging v c s d).quantity ≤ other_size v c s
  unfolding new_legging
  new-size = omega arith
