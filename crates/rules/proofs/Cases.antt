-- Each definition that looks at what is there, by its cases: what holds in every case holds of the definition.
use Rattle.std.specs.Prelude.{if◌then◌else◌}
use mathlib.Core.Path.{◌≡◌, refl}
use mathlib.Core.Bool.{Bool, true, false, not}
use Prim.Native.Nat.{ℕ, suc, ◌-◌, min}
use Rattle.rules.specs.declared.Regular.{Regular}
use Rattle.rules.specs.declared.Complex.{Complex}
use Rattle.rules.specs.declared.Legging.{Legging}
use Rattle.rules.specs.declared.Venue.{Venue}
use Rattle.rules.specs.Base.{held, Choice, nobody, picked, first}
use Rattle.rules.specs.Words.{opposite, no_regular, no_complex, regular_at, complex_at, legging_at, earlier}
use Rattle.rules.specs.Effects.{Effect, nothing, ◌⟫◌, Turn, ended, turned, repeat}
use Rattle.rules.specs.Prices.{shown_size, shows_for}
use Rattle.rules.specs.Trading.{trade_with, trade_at_price}
use Rattle.rules.specs.Order.{is_met, price_then_id, at_once, first_met, legging_first, meet, hit, meet_turn}
use Rattle.rules.specs.Complex.{crosses, limit_then_id, cross, cross_turn}
use Rattle.rules.proofs.Picking.{At, Chosen, first-chosen}

-- a choice
pub if-by {ℓ} : {A : Type 0} (Q : A → Type ℓ) (b : Bool) {x y : A} → (b ≡ true → Q x) → (b ≡ false → Q y) → Q (if b then x else y)
if-by Q true t f = t refl
if-by Q false t f = f refl

-- one turn of taking: nothing more is wanted, or nobody is there, or one is traded with and taking goes on
module _ {ℓ} (Q : Effect → Type ℓ) (fuel x s d p k : ℕ) (v : Venue) where
  abbrev there : Regular → Bool
  there = shows_for s (opposite d) p

  abbrev goes_on : (i : ℕ) → Regular → Effect
  goes_on i o = trade_with x d i (min k (shown_size o)) v ⟫ trade_at_price fuel x s d p (k - min k (shown_size o))

  pub at-price-by : (held k ≡ false → Q (nothing v)) →
      (held k ≡ true → Chosen no_regular there v.regular nobody → Q (nothing v)) →
      (held k ≡ true → (i : ℕ) (o : Regular) → At no_regular there v.regular i o → Q (goes_on i o)) →
      Q (trade_at_price (suc fuel) x s d p k v)
  unfolding trade_at_price
  at-price-by none empty more = go (held k) refl
    where
      pick : (y : Choice Regular) → Chosen no_regular there v.regular y → held k ≡ true → Q (elim y [ nobody ↦ nothing v | picked i o ↦ goes_on i o ])
      pick nobody c e = empty e c
      pick (picked i o) c e = more e i o c

      go : (b : Bool) → held k ≡ b →
          Q (elim b [
            | false ↦ nothing v
            | true ↦ elim (first there earlier v.regular) [ nobody ↦ nothing v | picked i o ↦ goes_on i o ]
          ])
      go false e = none e
      go true e = pick (first there earlier v.regular) (first-chosen no_regular there earlier v.regular) e

-- one turn of a loop
module _ {ℓ} (Q : Effect → Type ℓ) (fuel : ℕ) (turn : Venue → Turn) (v : Venue) where
  pub repeat-by : (turn v ≡ ended → Q (nothing v)) → ((e : Effect) → turn v ≡ turned e → Q (e ⟫ repeat fuel turn)) → Q (repeat (suc fuel) turn v)
  unfolding repeat
  repeat-by stop on = go (turn v) refl
    where
      go : (t : Turn) → turn v ≡ t → Q (elim t [ ended ↦ nothing v | turned e ↦ e ⟫ repeat fuel turn ])
      go ended e = stop e
      go (turned g) e = on g e

-- a turn of matching, of the order at place i: it is filled, or meets nobody, or hits the legging order, or meets a regular order
module _ {ℓ} (Q : Turn → Type ℓ) (i : ℕ) (v : Venue) where
  abbrev o : Regular
  o = regular_at v i

  abbrev l : Legging
  l = legging_at v o.series (opposite o.side)

  abbrev met : Regular → Bool
  met = is_met o.series o.side o.price

  abbrev hitting : Turn
  hitting = turned (hit i l (min o.quantity l.quantity) v)

  abbrev meeting : (j : ℕ) → Regular → Turn
  meeting j m = turned (meet i j (min o.quantity (at_once m)) v)

  pub meet_turn-by : (held o.quantity ≡ false → Q ended) →
      (held o.quantity ≡ true → Chosen no_regular met v.regular nobody → legging_first o l 0 ≡ false → Q ended) →
      (held o.quantity ≡ true → (p : ℕ) → legging_first o l p ≡ true → Q hitting) →
      (held o.quantity ≡ true → (j : ℕ) (m : Regular) → At no_regular met v.regular j m → legging_first o l m.price ≡ false → Q (meeting j m)) →
      Q (meet_turn i v)
  unfolding meet_turn first_met
  meet_turn-by done alone hits meets = go (held o.quantity) refl (first met price_then_id v.regular) (first-chosen no_regular met price_then_id v.regular)
    where
      go : (b : Bool) → held o.quantity ≡ b → (x : Choice Regular) → Chosen no_regular met v.regular x →
          Q (if not b then ended else elim x as (λ _. Turn) [
            | nobody ↦ if legging_first o l 0 then hitting else ended
            | picked j m ↦ if legging_first o l m.price then hitting else meeting j m
          ])
      go false e x c = done e
      go true e nobody c = if-by Q (legging_first o l 0) (hits e 0) (alone e c)
      go true e (picked j m) c = if-by Q (legging_first o l m.price) (hits e m.price) (meets e j m c)

-- a turn of crossing, of the order at place i
module _ {ℓ} (Q : Turn → Type ℓ) (i : ℕ) (v : Venue) where
  abbrev c : Complex
  c = complex_at v i

  pub cross_turn-by : (held c.quantity ≡ false → Q ended) →
      (held c.quantity ≡ true → Chosen no_complex (crosses v c) v.complex nobody → Q ended) →
      (held c.quantity ≡ true → (j : ℕ) (m : Complex) → At no_complex (crosses v c) v.complex j m →
      Q (turned (cross i j (min c.quantity m.quantity) v))) →
      Q (cross_turn i v)
  unfolding cross_turn
  cross_turn-by done alone meets =
      go (held c.quantity) refl (first (crosses v c) limit_then_id v.complex) (first-chosen no_complex (crosses v c) limit_then_id v.complex)
    where
      go : (b : Bool) → held c.quantity ≡ b → (x : Choice Complex) → Chosen no_complex (crosses v c) v.complex x →
          Q (if not b then ended else elim x as (λ _. Turn) [
            | nobody ↦ ended
            | picked j m ↦ turned (cross i j (min c.quantity m.quantity) v)
          ])
      go false e x a = done e
      go true e nobody a = alone e a
      go true e (picked j m) a = meets e j m a
