-- A limit is kept 2^31 above its value: 2^31 above an i32 is a u32.
use mathlib.Core.Path.{◌≡◌, refl, sym, ap, ◌∙◌}
use mathlib.Core.Bool.{Bool, true, false, cond}
use Prim.Native.Nat.{ℕ, suc, ◌+◌, ◌-◌, ◌<◌}
use native.Mathlib.Omega.{arith}
use borrow.Author.Tests.{ltb-true}
use lib.Dec.{T, ltb}
use lib.IntN.{ℤ, pos, negsuc, nat_abs, ◌+ℤ◌, ◌-ℤ◌, +ℤ-neg_ℤ_cancel}
use mir.Syntax.{w32, w64}
use lib.Signed.{non_neg}
use mir.Val.{Fits, SFits, to_z, of_z}
use mir.ValLaws.{to_z-of_z}
use Rattle.places.specs.Layout.{limit_number}

pub record Above (z : ℤ) : Type 0 where
  pub number : ℕ
  pub is : z +ℤ pos 2147483648 ≡ pos number
  pub small : number < 4294967296

sub-if : (n : ℕ) (t : Bool) → ltb 2147483648 (suc n) ≡ t → n < 2147483648 →
    cond t (negsuc (suc n - suc 2147483648)) (pos (2147483648 - suc n)) ≡ pos (2147483648 - suc n)
sub-if n true e h = let z = ltb-true 2147483648 (suc n) e in absurd (omega arith)
sub-if n false e h = refl

pub above : (z : ℤ) → SFits w32 z → Above z
above (pos n) f = let h : n < 2147483648 = f.sfits in record { number = n + 2147483648; is = refl; small = omega arith }
above (negsuc n) f =
    let h : n < 2147483648 = f.sfits in
    record { number = 2147483648 - suc n; is = sub-if n (ltb 2147483648 (suc n)) refl h; small = omega arith }

module _ {z : ℤ} (f : SFits w32 z) where
  pub back32 : to_z w32 (of_z w32 z) ≡ z
  back32 = to_z-of_z w32 z f

  wide-if : (y : ℤ) → SFits w32 y → SFits w64 y
  wide-if (pos n) g = let h : n < 2147483648 = g.sfits in record { sfits = omega arith }
  wide-if (negsuc n) g = let h : n < 2147483648 = g.sfits in record { sfits = omega arith }

  pub number-cast : SFits w64 (to_z w32 (of_z w32 z))
  number-cast = rw back32 (wide-if z f)

  widened : to_z w64 (of_z w64 (to_z w32 (of_z w32 z))) ≡ z
  widened = to_z-of_z w64 (to_z w32 (of_z w32 z)) number-cast ∙ back32

  sum-small : (y : ℤ) → Above y → SFits w64 (y +ℤ pos 2147483648)
  sum-small y a = let h = a.small in rw a.is (record { sfits = omega arith })

  pub number-add : SFits w64 (to_z w64 (of_z w64 (to_z w32 (of_z w32 z))) +ℤ pos 2147483648)
  number-add = rw widened (sum-small z (above z f))

  number-sum : to_z w64 (of_z w64 (to_z w64 (of_z w64 (to_z w32 (of_z w32 z))) +ℤ pos 2147483648)) ≡ pos (above z f).number
  number-sum = to_z-of_z w64 (to_z w64 (of_z w64 (to_z w32 (of_z w32 z))) +ℤ pos 2147483648) number-add ∙ ap (λ (y : ℤ). y +ℤ pos 2147483648) widened ∙ (above z f).is

  pub number_fits : T (non_neg (to_z w64 (of_z w64 (to_z w64 (of_z w64 (to_z w32 (of_z w32 z))) +ℤ pos 2147483648))))
      × Fits w32 (nat_abs (to_z w64 (of_z w64 (to_z w64 (of_z w64 (to_z w32 (of_z w32 z))) +ℤ pos 2147483648))))
  number_fits = let h = (above z f).small in rw number-sum (tt, record { fits = omega arith })

  -- the number that is kept
  number_of : limit_number z ≡ (above z f).number
  unfolding limit_number
  number_of = ap nat_abs (above z f).is

  pub number_is : nat_abs (to_z w64 (of_z w64 (to_z w64 (of_z w64 (to_z w32 (of_z w32 z))) +ℤ pos 2147483648))) ≡ limit_number z
  number_is = ap nat_abs number-sum ∙ sym number_of

  -- it reads back as the limit
  pub limit-back : pos (limit_number z) -ℤ pos 2147483648 ≡ z
  limit-back = ap (λ (n : ℕ). pos n -ℤ pos 2147483648) number_of ∙ ap (λ (y : ℤ). y -ℤ pos 2147483648) (sym (above z f).is) ∙ +ℤ-neg_ℤ_cancel z (pos 2147483648)
