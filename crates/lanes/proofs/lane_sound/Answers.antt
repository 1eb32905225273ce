-- `lanes::lane_sound` meets its contract.
use mathlib.Core.Path.{sym}
use lib.Seq.{length-take-le}
use native.Mathlib.Omega.{arith}
use Rattle.venue_bytes.specs.Held.{venue_size}
use Rattle.lanes.proofs.Figures.{lane-waits, lane-passed, lane-checked}
use Rattle.lanes.proofs.lane_sound.Goals as goal

pub returns-then-not-wait_sound : goal.returns-then-not-wait_sound
returns-then-not-wait_sound c = lane-waits _ _ _ _ c.wait_sound.ensures c.if-not-wait_sound.true

pub returns-then-v-but : goal.returns-then-v-but
returns-then-v-but c = lane-passed _ _ _ _ c.wait_sound.ensures c.if-not-wait_sound.false c.if-v-but.true

pub slice_bounds-venue_from-end : goal.slice_bounds-venue_from-end
slice_bounds-venue_from-end c = let p = c.requires in sym (length-take-le venue_size c.args.lane.now (omega arith))

pub venue_from-venue-requires : goal.venue_from-venue-requires
venue_from-venue-requires c = let p = c.requires in length-take-le venue_size c.args.lane.now (omega arith)

pub returns : goal.returns
returns c = lane-checked _ _ _ _ c.wait_sound.ensures _ _ _
    c.if-not-wait_sound.false
    c.if-v-but.false c.venue_from-venue.ensures
    c.u32_at-before.ensures c.load_ready.ensures.answer
