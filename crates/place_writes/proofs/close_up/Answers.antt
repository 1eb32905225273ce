-- `place_writes::close_up` meets its contract.
use mathlib.Core.Path.{refl, sym, ap, ◌∙◌}
use Rattle.place_writes.proofs.Gaps.{moving-start, moving-skip, moving-keep}
use Rattle.place_writes.proofs.close_up.Goals as goal

pub loop-i-init : goal.loop-i-init
loop-i-init g c = moving-start _ _ _ _ _ c.requires.rows c.requires.again _ _ _ c.told-numbers c.requires.some.0 c.requires.held

pub loop-i-preserved-then-not-is_held_at : goal.loop-i-preserved-then-not-is_held_at
loop-i-preserved-then-not-is_held_at g c =
    moving-skip _ _ _ _ _ c.requires.rows c.requires.again _ _ _ _ _ c.loop-i.invariant c.requires.some.1 c.loop-i-test.true _ refl
    (sym c.is_held_at.ensures ∙ c.if-not-is_held_at.true)

pub loop-i-preserved : goal.loop-i-preserved
loop-i-preserved g c =
    moving-keep _ _ _ _ _ c.requires.rows c.requires.again _ _ _ _ _ c.loop-i.invariant c.requires.some.1 c.loop-i-test.true _ c.read-o.ensures _
    (ap g.T.Order.holds c.read-o.ensures ∙ sym c.is_held_at.ensures ∙ c.if-not-is_held_at.false) c.write.ensures
