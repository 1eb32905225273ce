-- `lanes::drop_head` meets its contract.
use mathlib.Core.Path.{◌∙◌}
use Prim.Native.Nat.{◌-◌}
use lib.ListN.{length-set}
use native.Mathlib.Omega.{arith}
use Rattle.lanes.specs.Memory.{count_at}
use Rattle.lanes.proofs.MemoryLaws.{moved_all}
use Rattle.lanes.proofs.drop_head.Goals as goal

pub overflow_sub-lane : goal.overflow_sub-lane
overflow_sub-lane c = omega (arith, c.u8_at-count.ensures, c.requires.waits)

pub bounds-lane-4660 : goal.bounds-lane-4660
bounds-lane-4660 c = omega (arith, c.requires.whole, c.zero_from.auto.out, c.copy_within.ensures.len)

pub shape_of-lane : goal.shape_of-lane
shape_of-lane c = length-set c.zero_from.new.out count_at (c.u8_at-count.result - 1)
    ∙ c.zero_from.auto.out ∙ c.copy_within.ensures.len

pub returns : goal.returns
returns c = moved_all c.args.lane.now c.requires.whole
    _ c.copy_within.ensures.after c.copy_within.ensures.len c.zero_from.new.out
    c.u8_at-count.result
    c.u8_at-count.ensures c.requires.most c.zero_from.ensures
