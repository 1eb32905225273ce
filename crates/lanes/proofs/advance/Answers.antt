-- `lanes::advance` meets its contract.
use mathlib.Core.Path.{◌∙◌}
use native.Mathlib.Omega.{arith}
use Rattle.lanes.proofs.MemoryLaws.{done-same, count_same, advanced-put}
use Rattle.lanes.proofs.advance.Goals as goal

pub count_done-requires : goal.count_done-requires
count_done-requires c = let h = c.requires.room in record {
  whole = c.put_after.auto.lane ∙ c.requires.whole;
  room = omega (arith, done-same c.args.lane.now c.args.number c.args.venue c.put_after.new.lane c.requires.whole c.put_after.ensures c.put_after.auto.lane);
}

pub drop_head-requires : goal.drop_head-requires
drop_head-requires c = let p = c.requires in
    let n = count_same c.args.lane.now c.args.number c.args.venue c.put_after.new.lane c.requires.whole c.put_after.ensures c.put_after.auto.lane c.count_done.new.lane
    c.count_done.ensures in record { whole = c.count_done.auto.lane ∙ c.put_after.auto.lane ∙ c.requires.whole; waits = omega arith; most = omega arith }

pub returns : goal.returns
returns c = advanced-put c.args.lane.now c.args.number c.args.venue
    c.put_after.new.lane c.requires.whole c.put_after.ensures c.put_after.auto.lane c.count_done.new.lane c.count_done.ensures _ c.drop_head.ensures
