-- `cross_makers::net_against` meets its contract.
use mathlib.Core.Path.{ap, ◌∙◌}
use native.Mathlib.Omega.{arith}
use lib.IntN.{nat_abs, neg_ℤ}
use Rattle.rules.proofs.Integers.{abs_neg}
use Rattle.cross_makers.proofs.Limits.{minus-fits, minus_is}
use Rattle.cross_makers.proofs.net_against.Goals as goal

pub overflow_sub-result : goal.overflow_sub-result
overflow_sub-result c = minus-fits {z = c.limit_of-n.result} (record { sfits = c.limit_of-n.type_inv }) c.limit_of-n.ensures.1

pub returns : goal.returns
returns c = let e = minus_is {z = c.limit_of-n.result} (record { sfits = c.limit_of-n.type_inv }) c.limit_of-n.ensures.1 in
    (e ∙ ap neg_ℤ c.limit_of-n.ensures.0, omega (arith, ap nat_abs e, abs_neg c.limit_of-n.result, c.limit_of-n.ensures.1))
