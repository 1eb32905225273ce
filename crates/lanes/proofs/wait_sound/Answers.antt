-- `lanes::wait_sound` meets its contract.
use mathlib.Core.Path.{◌∙◌}
use native.Mathlib.Omega.{arith}
use Rattle.lanes.proofs.Figures.{short_none, short-next, wait-many, wait-long, wait-fine}
use Rattle.lanes.proofs.wait_sound.Goals as goal

pub returns-then-count-gt8 : goal.returns-then-count-gt8
returns-then-count-gt8 c = wait-many _ _ (c.from-count.ensures ∙ c.u8_at.ensures) c.if-count-gt8.true

pub loop-i-init : goal.loop-i-init
loop-i-init c = short_none _

pub returns-then-length-gt32 : goal.returns-then-length-gt32
returns-then-length-gt32 c = wait-long _ _ (c.from-count.ensures ∙ c.u8_at.ensures) c.loop-i.i _
    c.loop-i-test.true c.u8_at-length.ensures c.if-length-gt32.true

pub loop-i-preserved : goal.loop-i-preserved
loop-i-preserved c = short-next _ c.loop-i.i _ c.loop-i.invariant c.u8_at-length.ensures (omega arith)

pub returns : goal.returns
returns c = wait-fine _ _ (c.from-count.ensures ∙ c.u8_at.ensures) c.loop-i.i (omega arith) c.loop-i.invariant (omega arith)
