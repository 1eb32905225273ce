-- `trades::trade_at_price` meets its contract.
use mathlib.Core.Path.{sym, ◌∙◌}
use native.Mathlib.Omega.{arith}
use Rattle.trades.proofs.Trades.{taking-start, taking-end, taking-none, taking-used, taking-less, taking-turn, taking-room}
use Rattle.trades.proofs.trade_at_price.Goals as goal

pub loop-left-init : goal.loop-left-init
loop-left-init c = taking-start _ _ _ _ _ _ _ _ c.told-numbers

pub first_for-found-requires : goal.first_for-found-requires
first_for-found-requires c =
    c.loop-left.invariant.counts.right c.requires

pub shape_of-out-in_default : goal.shape_of-out-in_default
shape_of-out-in_default c = taking-room c.loop-left.invariant

pub returns-in_default-clause-result_after : goal.returns-in_default-clause-result_after
returns-in_default-clause-result_after c =
    (taking-none c.loop-left.invariant _ c.loop-left-test.true c.opposite_of-other.ensures (sym c.in_default.is ∙ c.first_for-found.ensures)).0

pub trade_with-pos-requires : goal.trade_with-pos-requires
trade_with-pos-requires c =
    taking-used c.loop-left.invariant _ _ _ _ c.loop-left-test.true c.opposite_of-other.ensures (sym c.in-Some.is ∙ c.first_for-found.ensures)
    _ c.shown_size.ensures c.at_most-k.ensures

pub overflow_sub-left : goal.overflow_sub-left
overflow_sub-left c = omega (arith, c.at_most-k.ensures)

pub loop-left-smaller : goal.loop-left-smaller
loop-left-smaller c =
    rw c.from-left.ensures
    (taking-less c.loop-left.invariant _ _ _ _ c.loop-left-test.true c.opposite_of-other.ensures (sym c.in-Some.is ∙ c.first_for-found.ensures)
    _ c.shown_size.ensures c.at_most-k.ensures)

pub loop-left-preserved : goal.loop-left-preserved
loop-left-preserved c =
    rw c.from-left.ensures
    (taking-turn c.loop-left.invariant _ _ _ _ c.loop-left-test.true c.opposite_of-other.ensures (sym c.in-Some.is ∙ c.first_for-found.ensures)
    _ c.shown_size.ensures c.at_most-k.ensures _ _ _ (omega arith) (c.trade_with-pos.ensures.result_after, c.trade_with-pos.ensures.counts))

pub shape_of-out : goal.shape_of-out
shape_of-out c = taking-room c.loop-left.invariant

pub returns-clause-result_after : goal.returns-clause-result_after
returns-clause-result_after c = (taking-end c.loop-left.invariant c.loop-left-test.false).0
