-- `dispatch::arrive` meets its contract.
use mathlib.Core.Path.{refl, ◌∙◌}
use Prim.Native.Nat.{◌+◌, ◌-◌, ◌*◌}
use native.Mathlib.Omega.{arith}
use Rattle.lanes.specs.Memory.{lane_size}
use Rattle.lanes.proofs.Bytes.{part_length}
use Rattle.dispatch.proofs.CallWays.{part_count, checked-all, arrive_none, arrive-unsound, arrive-beyond, arrive-full, arrive-long, arrive-taken}
use Rattle.dispatch.proofs.arrive.Goals as goal

pub returns-then-layer-ne-LAYER : goal.returns-then-layer-ne-LAYER
returns-then-layer-ne-LAYER c = arrive_none c.args.layer.now c.args.venue c.args.message.now c.if-layer-ne-LAYER.true

pub returns-then-not-layer_sound : goal.returns-then-not-layer_sound
returns-then-not-layer_sound c = arrive-unsound c.args.layer.now c.args.venue
    c.args.message.now c.if-layer-ne-LAYER.false
    (checked-all c.args.layer.now 4 _ c.layer_sound.ensures refl ∙ c.if-not-layer_sound.true)

pub returns-then-venue-gt3 : goal.returns-then-venue-gt3
returns-then-venue-gt3 c = arrive-beyond c.args.layer.now c.args.venue
    c.args.message.now c.if-layer-ne-LAYER.false
    (checked-all c.args.layer.now 4 _ c.layer_sound.ensures refl ∙ c.if-not-layer_sound.false) c.if-venue-gt3.true

pub returns-then-u8_at-ge8 : goal.returns-then-u8_at-ge8
returns-then-u8_at-ge8 c = let h = c.if-u8_at-ge8.true in
    arrive-full c.args.layer.now
    c.args.venue
    c.args.message.now
    c.if-layer-ne-LAYER.false
    (checked-all c.args.layer.now 4 _
    c.layer_sound.ensures refl ∙ c.if-not-layer_sound.false)
    c.if-venue-gt3.false (omega arith)

pub returns-then-message-gt32 : goal.returns-then-message-gt32
returns-then-message-gt32 c = arrive-long c.args.layer.now c.args.venue c.args.message.now
    c.if-layer-ne-LAYER.false
    (checked-all c.args.layer.now 4 _ c.layer_sound.ensures refl ∙ c.if-not-layer_sound.false) c.if-venue-gt3.false c.if-message-gt32.true

pub join-requires : goal.join-requires
join-requires c = let m = c.args.layer.now in
    let v = c.args.venue in
    let size = c.if-layer-ne-LAYER.false in
    let small = c.if-venue-gt3.false in let k = lane_size * v + lane_size - lane_size * v in
    let h = c.if-u8_at-ge8.false in let n = part_count m v k (omega arith) in
    record { whole = part_length m (lane_size * v) k (omega arith) ∙ omega arith; room = omega arith; short = c.if-message-gt32.false }

pub returns : goal.returns
returns c = let v = c.args.venue in let h = c.if-u8_at-ge8.false in
    arrive-taken c.args.layer.now c.args.venue c.args.message.now c.if-layer-ne-LAYER.false
    (checked-all c.args.layer.now 4 _ c.layer_sound.ensures refl ∙ c.if-not-layer_sound.false)
    c.if-venue-gt3.false (omega arith) c.if-message-gt32.false
    (lane_size * v + lane_size - lane_size * v) c.join.new.lane (omega arith) c.join.ensures
