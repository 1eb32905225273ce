-- `dispatch::call_head` meets its contract.
use mathlib.Core.Path.{sym, ◌∙◌}
use Prim.Native.Nat.{◌+◌, ◌-◌}
use lib.ListN.{take, drop}
use lib.Seq.{length-take-le}
use native.Mathlib.Omega.{arith}
use Rattle.venue_bytes.specs.Held.{venue_size}
use Rattle.lanes.specs.Memory.{places_at}
use Rattle.lanes.proofs.Places.{head-lent}
use Rattle.lanes.proofs.MemoryLaws.{called-head}
use Rattle.dispatch.proofs.call_head.Goals as goal

pub slice_bounds-venue_from-end : goal.slice_bounds-venue_from-end
slice_bounds-venue_from-end c = let p = c.requires.whole in sym (length-take-le venue_size c.args.lane.now (omega arith))

pub venue_from-venue-requires : goal.venue_from-venue-requires
venue_from-venue-requires c = let p = c.requires.whole in length-take-le venue_size c.args.lane.now (omega arith)

pub returns : goal.returns
returns c = let bs = c.args.lane.now in
    let p = c.requires in let n = c.from.result in
    called-head bs (take (places_at + 1 + n - (places_at + 1)) (drop (places_at + 1) bs)) c.one_message.new.report _
    c.u32_at-before.result
    c.venue_from-venue.result c.one_message.result
    c.venue_from-venue.ensures
    c.u32_at-before.ensures
    (head-lent bs n (places_at + 1 + n - (places_at + 1)) (c.from.ensures ∙ c.u8_at.ensures) (omega arith) (omega arith)) c.one_message.ensures
