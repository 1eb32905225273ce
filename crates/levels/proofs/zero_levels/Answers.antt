-- `levels::zero_levels` meets its contract.
use native.Mathlib.Omega.{arith}
use Rattle.levels.proofs.LevelsKept.{zeroing-start, zeroing-turn, zeroing-end}
use Rattle.levels.proofs.zero_levels.Goals as goal

pub loop-n-init : goal.loop-n-init
loop-n-init c = zeroing-start _ c.told-numbers

pub put_level-requires : goal.put_level-requires
put_level-requires c = c.loop-n-test.true

pub loop-n-preserved : goal.loop-n-preserved
loop-n-preserved c = zeroing-turn _ _ _ _ c.loop-n.invariant c.loop-n-test.true
    (omega arith) c.put_level.ensures

pub returns : goal.returns
returns c = zeroing-end _ _ _ c.loop-n.invariant (omega (arith, c.loop-n-test.false))
