-- In a sweep each resting order has one turn: what the orders of its places pay, each by its own rate, all orders together can pay.
use Rattle.std.specs.Prelude.{if◌then◌else◌}
use mathlib.Core.Path.{◌≡◌, ap, ◌∙◌}
use mathlib.Core.Bool.{Bool, true, false, not, ◌&&◌}
use mathlib.Core.List.{List, [], ◌∷◌}
use Prim.Native.Nat.{ℕ, suc, ◌+◌, ◌≤◌}
use native.Mathlib.Omega.{arith}
use lib.Dec.{ltb}
use lib.ListN.{get_or, length, take}
use Rattle.rules.specs.declared.Complex.{Complex}
use Rattle.rules.specs.declared.Venue.{Venue}
use Rattle.rules.specs.Base.{held}
use Rattle.rules.specs.Words.{no_complex}
use Rattle.rules.specs.Complex.{going_round, places_of, resting_places}
use Rattle.rules.proofs.Summing.{sum, sum-firsts, sum-join}

module _ (rate : Complex → ℕ) where
  -- f is the rate of the orders at places n and on: each place has one turn, before or after the round's end
  parted : (p : Complex → Bool) (f : ℕ → ℕ) (n : ℕ) (cs now : List Complex) → length now ≡ length cs → ((i : ℕ) → f (n + i) ≡ rate (get_or now i no_complex)) →
      sum f (places_of p n cs) + sum f (places_of (λ c. not (p c)) n cs) ≤ sum rate now
  unfolding places_of sum
  parted p f n [] now e h = omega arith
  parted p f n (c ∷ cs) [] e h = absurd (omega arith)
  parted p f n (c ∷ cs) (d ∷ now) e h =
      let own : f n ≡ rate d = ap f (omega arith) ∙ h 0 in
      go (held c.quantity) (p c) own (parted p f (suc n) cs now (omega arith) (λ i. ap f (omega arith) ∙ h (suc i)))
    where
      a : List ℕ
      a = places_of p (suc n) cs

      b : List ℕ
      b = places_of (λ x. not (p x)) (suc n) cs

      go : (h t : Bool) → f n ≡ rate d → sum f a + sum f b ≤ sum rate now →
          sum f (if h && t then n ∷ a else a) + sum f (if h && not t then n ∷ b else b) ≤ rate d + sum rate now
      go true true own rest = omega arith
      go true false own rest = omega arith
      go false t own rest = omega arith

  -- the orders that a sweep of v goes through, as they are now: together no more than all
  pub sweep-once : (v : Venue) (now : List Complex) → length now ≡ length v.complex → sum (λ i. rate (get_or now i no_complex)) (resting_places v) ≤ sum rate now
  unfolding resting_places
  sweep-once v now e =
      let f : ℕ → ℕ = λ i. rate (get_or now i no_complex) in
      let z = parted (λ _. true) f 0 v.complex now e (λ i. ap f (omega arith)) in
      omega arith

  -- and those that a limited one looks at
  pub round-once : (n : ℕ) (v : Venue) (now : List Complex) → length now ≡ length v.complex →
      sum (λ i. rate (get_or now i no_complex)) (take n (going_round v)) ≤ sum rate now
  unfolding going_round
  round-once n v now e =
      let f : ℕ → ℕ = λ i. rate (get_or now i no_complex) in
      let later : Complex → Bool = λ c. ltb v.reached c.id in
      let x = sum-firsts f n (going_round v) in
      let y = sum-join f (places_of later 0 v.complex) (places_of (λ c. not (later c)) 0 v.complex) in
      let z = parted later f 0 v.complex now e (λ i. ap f (omega arith)) in
      omega arith
