-- `work::units_in` meets its contract.
use Rattle.work.proofs.LegInLaws.{units-are}
use Rattle.work.proofs.units_in.Goals as goal

pub returns : goal.returns
returns c v h =
    let a = c.args in
    units-are v a.c a.taken h _ _ _ _ c.units.ensures c.at_most-open.ensures c.units-2.ensures c.at_most.ensures
