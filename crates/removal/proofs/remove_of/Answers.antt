-- `removal::remove_of` meets its contract.
use native.Mathlib.Omega.{arith}
use Rattle.rules.specs.Removal.{remove_of}
use Rattle.removal.proofs.RemovalLaws.{removing-start, removing-turn, removing-past, removing-end, by-parent, not-parent}
use Rattle.removal.proofs.remove_of.Goals as goal

pub loop-n-init : goal.loop-n-init
loop-n-init c = removing-start _ _ _ _ c.told-numbers

pub loop-n-preserved-then-l-parent : goal.loop-n-preserved-then-l-parent
loop-n-preserved-then-l-parent c =
    removing-past _ c.loop-n.invariant c.loop-n-test.true (not-parent _ _ c.legging_at-l.ensures c.if-l-parent.true)

pub loop-n-preserved : goal.loop-n-preserved
loop-n-preserved c =
    removing-turn _ c.loop-n.invariant _ _ _ _ c.loop-n-test.true (by-parent _ _ c.legging_at-l.ensures c.if-l-parent.false) (omega arith)
    (c.remove_one-pos.ensures.place_after, c.remove_one-pos.ensures.counts)

pub returns-clause-result_after : goal.returns-clause-result_after
unfolding remove_of
returns-clause-result_after c = (removing-end _ c.loop-n.invariant c.loop-n-test.false).0
