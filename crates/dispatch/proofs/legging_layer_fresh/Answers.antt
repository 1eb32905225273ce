-- `dispatch::legging_layer_fresh` meets its contract.
use mathlib.Core.Path.{◌∙◌}
use Prim.Native.Nat.{◌+◌, ◌-◌, ◌*◌}
use lib.ListN.{length-set}
use native.Mathlib.Omega.{arith}
use Rattle.venue_bytes.proofs.Rows.{written_none}
use Rattle.lanes.specs.Memory.{lane_size, last_at}
use Rattle.lanes.proofs.Bytes.{part_length}
use Rattle.dispatch.proofs.FreshLayer.{fresh_row, four, fresh-room, fresh-next, fresh-all, fresh-none}
use Rattle.dispatch.proofs.legging_layer_fresh.Goals as goal

pub returns-then-layer-ne-LAYER : goal.returns-then-layer-ne-LAYER
returns-then-layer-ne-LAYER c = fresh-none _ c.if-layer-ne-LAYER.true

pub loop-i-init : goal.loop-i-init
loop-i-init c = written_none fresh_row 0 four _

pub slice_bounds-fresh_lane-start : goal.slice_bounds-fresh_lane-start
slice_bounds-fresh_lane-start c = omega (arith, c.if-layer-ne-LAYER.false, fresh-room _ c.if-layer-ne-LAYER.false _ c.loop-i.i c.loop-i.invariant)

pub slice_bounds-fresh_lane-end : goal.slice_bounds-fresh_lane-end
slice_bounds-fresh_lane-end c = omega (arith, c.if-layer-ne-LAYER.false, fresh-room _ c.if-layer-ne-LAYER.false _ c.loop-i.i c.loop-i.invariant)

pub fresh_lane-requires : goal.fresh_lane-requires
fresh_lane-requires c = let i = c.loop-i.i in let r = fresh-room _ c.if-layer-ne-LAYER.false _ i
    c.loop-i.invariant in let e = c.if-layer-ne-LAYER.false in part_length c.loop-i.layer (lane_size * i)
    (lane_size * i + lane_size - lane_size * i) (omega arith) ∙ omega arith

pub loop-i-preserved : goal.loop-i-preserved
loop-i-preserved c = let i = c.loop-i.i in
    fresh-next _ c.if-layer-ne-LAYER.false c.loop-i.layer i
    c.loop-i.invariant c.fresh_lane.new.lane (lane_size * i + lane_size - lane_size * i)
    c.loop-i-test.true (omega arith) c.fresh_lane.ensures

pub bounds-layer-19700 : goal.bounds-layer-19700
bounds-layer-19700 c = omega (arith, c.if-layer-ne-LAYER.false, fresh-room _ c.if-layer-ne-LAYER.false _ c.loop-i.i c.loop-i.invariant)

pub shape_of-layer : goal.shape_of-layer
shape_of-layer c = length-set c.loop-i.layer last_at 3 ∙ fresh-room _ c.if-layer-ne-LAYER.false _ c.loop-i.i c.loop-i.invariant

pub returns : goal.returns
returns c = fresh-all _ c.if-layer-ne-LAYER.false c.loop-i.layer c.loop-i.i c.loop-i.invariant (omega arith)
