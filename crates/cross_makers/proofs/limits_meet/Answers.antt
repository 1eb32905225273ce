-- `cross_makers::limits_meet` meets its contract.
use mathlib.Core.Path.{ap, ap₂, ◌∙◌}
use native.Mathlib.Omega.{arith}
use lib.IntN.{ℤ, pos, ◌+ℤ◌}
use lib.Signed.{le_z}
use Rattle.rules.proofs.Machine.{sum_fits, sum-ok}
use Rattle.cross_makers.proofs.limits_meet.Goals as goal

pub overflow_add-result : goal.overflow_add-result
overflow_add-result c = sum_fits {a = c.limit_of-x.result} {b = c.limit_of-y.result} (record { sfits = c.limit_of-x.type_inv })
    (record { sfits = c.limit_of-y.type_inv }) (omega (arith, c.limit_of-x.ensures.1, c.limit_of-y.ensures.1))

pub returns : goal.returns
returns c = ap (le_z (pos 0)) (sum-ok {a = c.limit_of-x.result} {b = c.limit_of-y.result} (record { sfits = c.limit_of-x.type_inv })
    (record { sfits = c.limit_of-y.type_inv }) (sum_fits {a = c.limit_of-x.result} {b = c.limit_of-y.result} (record { sfits = c.limit_of-x.type_inv })
    (record { sfits = c.limit_of-y.type_inv }) (omega (arith, c.limit_of-x.ensures.1, c.limit_of-y.ensures.1))) ∙ ap₂ (λ (x y : ℤ). x +ℤ y) c.limit_of-x.ensures.0 c.limit_of-y.ensures.0)
