-- `place_writes::show_again` meets its contract.
use native.Mathlib.Omega.{arith}
use Rattle.place_writes.proofs.Again.{again-next, again-end}
use Rattle.place_writes.proofs.show_again.Goals as goal

-- each clause by its name
each : {A B : Type 0} → A × B → record { numbers_after : A; beside : B }
each h = record { numbers_after = h.0; beside = h.1 }

pub loop-i-preserved : goal.loop-i-preserved
loop-i-preserved c = let m = again-next _ _ _ c.regular_at-o.result _ c.loop-i.invariant.1 (omega arith)
    c.regular_at-o.ensures c.less.ensures in (m.long, m)

pub returns : goal.returns
returns c = each (again-end _ _ _ _ c.loop-i.invariant.1 c.regulars_used-n.ensures.0 (omega arith))
