-- A complex order whose fields are in the range of its kind may rest.
use mathlib.Core.Path.{◌≡◌, refl, sym, ◌∙◌}
use mathlib.Core.Bool.{Bool, true, false, ◌&&◌}
use Prim.Native.Nat.{ℕ}
use lib.Dec.{eqb}
use borrow.Author.Tests.{eqb-true, ne_eqb}
use Rattle.rules.specs.declared.Complex.{Complex}
use Rattle.rules.specs.Words.{one_to_one}
use Rattle.rules.specs.Refusals.{two_leg_in_range, complex_in_range}
use Rattle.rules.proofs.Tests.{and_in}

pub pair-ranged : (c : Complex) → one_to_one c ≡ true → two_leg_in_range 200000 c ≡ true → complex_in_range c ≡ true
unfolding complex_in_range
pair-ranged c p h = rw p (and_in _ true h refl)

-- ratios that differ are not one to one
uneven : (r s : ℕ) → (r ≡ s → ⊥) → (eqb r 1 && eqb s 1) ≡ false
uneven r s n = go (eqb r 1) refl (eqb s 1) refl
  where
    go : (a : Bool) → eqb r 1 ≡ a → (b : Bool) → eqb s 1 ≡ b → (a && b) ≡ false
    go false x b y = refl
    go true x false y = refl
    go true x true y = absurd (n (eqb-true r 1 x ∙ sym (eqb-true s 1 y)))

pub ratio-ranged : (c : Complex) → (c.ratio1 ≡ c.ratio2 → ⊥) → two_leg_in_range 600000 c ≡ true → complex_in_range c ≡ true
unfolding complex_in_range one_to_one
ratio-ranged c n h = rw (uneven c.ratio1 c.ratio2 n, ne_eqb c.ratio1 c.ratio2 n) (and_in _ true h refl)
