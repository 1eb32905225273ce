-- `generation::leg_price` meets its contract.
use Rattle.generation.proofs.PartsLaws.{diff_is, priced-none, priced-is}
use Rattle.rules.proofs.Machine.{back}
use native.Mathlib.Omega.{arith}
use mathlib.Core.Path.{◌∙◌}
use Rattle.generation.proofs.leg_price.Goals as goal

pub returns-then-clear-eq0 : goal.returns-then-clear-eq0
returns-then-clear-eq0 c = priced-none _ c.args.c _ _ _ c.other_clear-clear.ensures c.if-clear-eq0.true

pub returns : goal.returns
returns c = let a = c.args in
    priced-is _ a.c _ _ _ c.other_clear-clear.ensures
    c.if-clear-eq0.false c.other_leg-other.result
    c.other_leg-other.ensures _ _ _ _ _ _ c.limit_of-limit.ensures.0 c.sign_times_price-price.ensures.0
    (diff_is {a = c.limit_of-limit.result} {b = c.sign_times_price-price.result} (record { sfits = c.limit_of-limit.type_inv }) (record { sfits = c.sign_times_price-price.type_inv }) (omega (arith, c.limit_of-limit.ensures.1, c.sign_times_price-price.ensures.1)))
    (back {z = c.sign_times.result} (record { sfits = c.sign_times.type_inv }) ∙ c.sign_times.ensures) c.as_price.ensures c.ranged.ensures
