-- `lanes::fresh_lane` meets its contract.
use mathlib.Core.Path.{sym, ◌∙◌}
use lib.Seq.{length-take-le}
use native.Mathlib.Omega.{arith}
use Rattle.venue_bytes.specs.Held.{venue_size}
use Rattle.lanes.proofs.MemoryLaws.{fresh-put}
use Rattle.lanes.proofs.fresh_lane.Goals as goal

pub slice_bounds-put_venue-end-2 : goal.slice_bounds-put_venue-end-2
slice_bounds-put_venue-end-2 c = let p = c.requires in sym (length-take-le venue_size c.args.lane.now (omega arith))

pub put_venue-requires : goal.put_venue-requires
put_venue-requires c = let p = c.requires in length-take-le venue_size c.args.lane.now (omega arith)

pub returns : goal.returns
returns c = let p = c.requires in
    let bs = c.args.lane.now in c.zero_from.ensures
    ∙ fresh-put bs c.put_venue.new.out c.fresh-fresh.result p
    (c.put_venue.auto.out ∙ length-take-le venue_size bs (omega arith)) c.fresh-fresh.ensures
    c.put_venue.ensures
