-- `settling::verdicts` meets its contract.
use Rattle.settling.proofs.CausesFound.{number_small, causes-room, causes-free, causes-on}
use native.Mathlib.Omega.{arith}
use mathlib.Core.Path.{◌∙◌}
use Rattle.settling.proofs.verdicts.Goals as goal

pub overflow_mul-causes : goal.overflow_mul-causes
overflow_mul-causes c = omega (arith, causes-room _ _ _ c.loop-n.invariant c.loop-n-test.true)

pub loop-n-preserved-then-l-eq0 : goal.loop-n-preserved-then-l-eq0
loop-n-preserved-then-l-eq0 c =
    causes-free _ _ _ c.loop-n.invariant c.loop-n-test.true c.legging_at-l.result c.legging_at-l.ensures c.if-l-eq0.true

pub overflow_add-causes : goal.overflow_add-causes
overflow_add-causes c =
    omega (arith, causes-room _ _ _ c.loop-n.invariant c.loop-n-test.true, c.verdict_number.ensures, number_small c.judge.result)

pub loop-n-preserved : goal.loop-n-preserved
loop-n-preserved c =
    causes-on _ _ _ c.loop-n.invariant c.loop-n-test.true _ c.judge.result (c.from-causes.ensures ∙ c.verdict_number.ensures) c.judge.ensures
