-- `lanes::layer_sound` meets its contract.
use mathlib.Core.Path.{refl, sym, ◌∙◌}
use Prim.Native.Nat.{◌+◌, ◌-◌, ◌*◌}
use native.Mathlib.Omega.{arith}
use Rattle.lanes.specs.Memory.{lane_size}
use Rattle.lanes.proofs.Bytes.{part_length}
use Rattle.lanes.proofs.Figures.{lent, passed_none, passed-next, lane-fails, last-fails, all_pass}
use Rattle.lanes.proofs.layer_sound.Goals as goal

pub returns-then-layer-gt3 : goal.returns-then-layer-gt3
returns-then-layer-gt3 c = last-fails _ _ c.if-layer-gt3.true

pub loop-i-init : goal.loop-i-init
loop-i-init c = passed_none _ _

pub lane_sound-requires : goal.lane_sound-requires
lane_sound-requires c = let p = c.requires in
    part_length c.args.layer.now (lane_size * c.loop-i.i)
    (lane_size * c.loop-i.i + lane_size - lane_size * c.loop-i.i) (omega arith) ∙ omega arith

pub returns-then-not-lane_sound : goal.returns-then-not-lane_sound
returns-then-not-lane_sound c = lane-fails _ _ c.loop-i.i c.loop-i-test.true
    (sym (lent _ _ c.loop-i.i (lane_size * c.loop-i.i)
    (lane_size * c.loop-i.i + lane_size - lane_size * c.loop-i.i) _ refl (omega arith)
    c.loop-i-test.true c.lane_sound.ensures) ∙ c.if-not-lane_sound.true)

pub loop-i-preserved : goal.loop-i-preserved
loop-i-preserved c = passed-next _ _ c.loop-i.i c.loop-i.invariant
    (sym (lent _ _ c.loop-i.i (lane_size * c.loop-i.i)
    (lane_size * c.loop-i.i + lane_size - lane_size * c.loop-i.i) _ refl (omega arith)
    c.loop-i-test.true c.lane_sound.ensures) ∙ c.if-not-lane_sound.false)

pub returns : goal.returns
returns c = all_pass _ _ c.loop-i.i (omega arith) c.loop-i.invariant (omega arith)
