-- `generation::as_price` meets its contract.
use Rattle.std.specs.Prelude.{Result, Ok, Err}
use Rattle.std.specs.Result.{OkIff, result_unwrap_or}
use Rattle.std.specs.Int.{FitsUnsignedBits}
use Rattle.rules.specs.Generation.{as_price}
use mir.Val.{SFits}
use mir.ValLaws.{to_z-of_z}
use mir.Syntax.{w64}
use lib.IntN.{ℤ, pos, negsuc, nat_abs}
use Prim.Native.Nat.{ℕ, ◌<◌}
use native.Mathlib.Omega.{arith}
use mathlib.Core.Path.{◌≡◌, refl, ◌∙◌}
use Rattle.generation.proofs.as_price.Goals as goal

-- a number converts where it is not negative
price : {E : Type 0} (z : ℤ) (r : Result ℕ E) → SFits w64 z → OkIff r (FitsUnsignedBits 64 z) (nat_abs z) → result_unwrap_or r 0 ≡ as_price z
unfolding as_price
price (pos n) (Ok x) f h = h.1
price (pos n) (Err e) f h = let k : n < 9223372036854775808 = f.sfits in absurd (h (omega arith))
price (negsuc n) (Ok x) f h = absurd h.0
price (negsuc n) (Err e) f h = refl

pub returns : goal.returns
returns c =
    c.unwrap_or.ensures
    ∙ price c.args.z c.try_from.result c.ranges.z (rw (to_z-of_z w64 c.args.z c.ranges.z) at c.try_from.ensures)
