-- Limits of 32 bits in 64: negated, compared.
use mathlib.Core.Path.{◌≡◌, sym, ap, ap₂, ◌∙◌}
use mathlib.Core.Bool.{Bool}
use Prim.Native.Nat.{◌≤◌}
use native.Mathlib.Omega.{arith}
use lib.IntN.{ℤ, pos, nat_abs, neg_ℤ, ◌-ℤ◌, +ℤ_idl}
use lib.Signed.{lt_z}
use mir.Syntax.{w32, w64}
use mir.Val.{SFits, to_z, of_z}
use mir.ValLaws.{to_z-of_z}
use Rattle.rules.proofs.Integers.{abs_neg}
use Rattle.rules.proofs.Machine.{fits-of, back}

module _ {z : ℤ} (f : SFits w64 z) (h : nat_abs z ≤ 2147483648) where
  pub minus-fits : SFits w64 (pos 0 -ℤ to_z w64 (of_z w64 z))
  minus-fits = rw (back f, +ℤ_idl (neg_ℤ z)) (fits-of (neg_ℤ z) (omega (arith, abs_neg z)))

  pub minus_is : to_z w64 (of_z w64 (pos 0 -ℤ to_z w64 (of_z w64 z))) ≡ neg_ℤ z
  minus_is = back minus-fits ∙ ap (λ (y : ℤ). pos 0 -ℤ y) (back f) ∙ +ℤ_idl (neg_ℤ z)

-- the machine's test of two numbers is the integers' own
pub test-is : (x y : ℤ) → SFits w32 x → SFits w32 y → (t : Bool) → lt_z (to_z w32 (of_z w32 x)) (to_z w32 (of_z w32 y)) ≡ t → lt_z x y ≡ t
test-is x y f g t e = sym (ap₂ lt_z (to_z-of_z w32 x f) (to_z-of_z w32 y g)) ∙ e
