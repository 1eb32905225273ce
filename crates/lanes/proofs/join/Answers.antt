-- `lanes::join` meets its contract.
use Prim.Native.Nat.{◌+◌, ◌-◌, ◌*◌}
use native.Mathlib.Omega.{arith}
use Rattle.lanes.specs.Memory.{places_at, place_size}
use Rattle.lanes.proofs.MemoryLaws.{joins-put}
use Rattle.lanes.proofs.join.Goals as goal

pub returns : goal.returns
returns c = let i = c.from.result in
    joins-put c.args.lane.now c.args.message.now c.put_place.new.place i c.u8_at-count.result
    (place_size * i + places_at + place_size - (place_size * i + places_at)) c.requires.short c.from.ensures c.u8_at-count.ensures (omega arith)
    c.put_place.ensures
