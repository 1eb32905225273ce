-- `arithmetic::net_of` meets its contract.
use mathlib.Core.Path.{refl, ap, ◌∙◌}
use native.Mathlib.Omega.{arith}
use lib.IntN.{nat_abs}
use Rattle.rules.proofs.Integers.{abs-add}
use Rattle.rules.proofs.Machine.{sum_fits, sum-ok}
use Rattle.arithmetic.proofs.net_of.Goals as goal

pub overflow_add-result : goal.overflow_add-result
overflow_add-result c = sum_fits {a = c.weighed_price-x.result} {b = c.weighed_price-y.result} (record { sfits = c.weighed_price-x.type_inv }) (record { sfits = c.weighed_price-y.type_inv })
    (omega (arith, c.weighed_price-x.ensures.1, c.weighed_price-y.ensures.1))

pub returns : goal.returns
returns c = let e = sum-ok {a = c.weighed_price-x.result} {b = c.weighed_price-y.result} (record { sfits = c.weighed_price-x.type_inv })
    (record { sfits = c.weighed_price-y.type_inv }) (overflow_add-result c) in (
      e ∙ rw (c.weighed_price-x.ensures.0, c.weighed_price-y.ensures.0) refl,
      omega (
        arith,
        ap nat_abs e,
        abs-add c.weighed_price-x.result c.weighed_price-y.result,
        c.weighed_price-x.ensures.1,
        c.weighed_price-y.ensures.1,
      ),
    )
