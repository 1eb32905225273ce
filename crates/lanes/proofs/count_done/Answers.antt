-- `lanes::count_done` meets its contract.
use Rattle.lanes.proofs.MemoryLaws.{done-put}
use Rattle.lanes.proofs.count_done.Goals as goal

pub returns : goal.returns
returns c = done-put c.args.lane.now c.put.new.out c.bytes4-done.result c.put.result
    c.u32_at-before.result c.requires.whole
    c.u32_at-before.ensures c.bytes4-done.ensures c.put.ensures
