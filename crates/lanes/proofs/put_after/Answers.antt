-- `lanes::put_after` meets its contract.
use mathlib.Core.Path.{sym}
use lib.Seq.{length-take-le}
use native.Mathlib.Omega.{arith}
use Rattle.venue_bytes.specs.Held.{venue_size}
use Rattle.lanes.proofs.MemoryLaws.{after-refused, after-accepted}
use Rattle.lanes.proofs.put_after.Goals as goal

pub returns-then-number-ne0 : goal.returns-then-number-ne0
returns-then-number-ne0 c = let h = c.if-number-ne0.true in after-refused _ c.args.number c.args.venue (λ z. omega arith)

pub slice_bounds-put_venue-end-2 : goal.slice_bounds-put_venue-end-2
slice_bounds-put_venue-end-2 c = let p = c.requires in sym (length-take-le venue_size c.args.lane.now (omega arith))

pub put_venue-requires : goal.put_venue-requires
put_venue-requires c = let p = c.requires in length-take-le venue_size c.args.lane.now (omega arith)

pub returns : goal.returns
returns c = let h = c.if-number-ne0.false in after-accepted c.args.lane.now c.args.number c.args.venue c.put_venue.new.out (omega arith)
    c.put_venue.ensures
