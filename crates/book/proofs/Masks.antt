-- The ones of the mask of the legging places.
use Rattle.std.specs.Prelude.{if◌then◌else◌}
use mathlib.Core.Path.{◌≡◌, refl, ap, ap₂, ◌∙◌}
use mathlib.Core.Bool.{Bool, true, false}
use mathlib.Core.List.{List, [], ◌∷◌}
use Prim.Native.Nat.{ℕ, ◌+◌, ◌*◌, ◌^◌}
use native.Mathlib.Omega.{arith}
use lib.Count.{ones, ones_in, ones_cat}
use Rattle.rules.specs.declared.Legging.{Legging}
use Rattle.rules.specs.Base.{held}
use Rattle.rules.specs.Step.{mask, filled}
use Rattle.places.specs.Layout.{bit_of}
use Rattle.places.proofs.Masks.{bit_le}

ones_bit : (b : Bool) → ones (if b then 1 else 0) ≡ (if b then 1 else 0)
unfolding ones ones_in
ones_bit true = refl
ones_bit false = refl

-- "the count is its ones": the mask's ones are the places filled
pub ones-mask : (ls : List Legging) → ones (mask ls) ≡ filled ls
unfolding mask filled bit_of ones
ones-mask [] = refl
ones-mask (l ∷ ls) =
    let e : bit_of l + 2 * mask ls ≡ mask ls * 2 ^ 1 + bit_of l = omega arith in
    ap ones e ∙ ones_cat 1 (mask ls) (bit_of l) (omega (arith, bit_le l))
    ∙ ap₂ (λ (x y : ℕ). x + y) (ones-mask ls) (ones_bit (held l.quantity)) ∙ omega arith
