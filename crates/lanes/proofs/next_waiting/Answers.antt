-- `lanes::next_waiting` meets its contract.
use native.Mathlib.Omega.{arith}
use Rattle.lanes.proofs.Figures.{search-start, search-found, search-next, search-none, waits_for, waits_none}
use Rattle.lanes.proofs.next_waiting.Goals as goal

pub loop-i-init : goal.loop-i-init
loop-i-init c = search-start _ _ _ c.u8_at.ensures (omega arith)

pub returns-then-u8_at-ne0 : goal.returns-then-u8_at-ne0
returns-then-u8_at-ne0 c = waits_for _ _ (omega arith) (search-found _ _ c.loop-i.i _ c.loop-i.invariant c.loop-i-test.true c.u8_at-in-loop-i.ensures c.if-u8_at-ne0.true)

pub loop-i-preserved : goal.loop-i-preserved
loop-i-preserved c = search-next _ _ c.loop-i.i _ c.loop-i.invariant c.loop-i-test.true c.u8_at-in-loop-i.ensures _ c.if-u8_at-ne0.false (omega arith)

pub returns : goal.returns
returns c = waits_none _ (search-none _ _ c.loop-i.i c.loop-i.invariant (omega arith))
