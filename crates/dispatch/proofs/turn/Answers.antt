-- `dispatch::turn` meets its contract.
use mathlib.Core.Path.{sym, ap, ◌∙◌}
use Rattle.std.specs.Prelude.{Option, unwrap_or}
use Prim.Native.Nat.{ℕ, ◌+◌, ◌-◌, ◌*◌}
use lib.ListN.{length}
use native.Mathlib.Omega.{arith}
use Rattle.lanes.specs.Memory.{lane_size, layer_from}
use Rattle.dispatch.specs.Hosts.{turn_reply_of}
use Rattle.lanes.proofs.ChecksLaws.{fails-unsound}
use Rattle.dispatch.proofs.CallWays.{checked-all, Serves, small, lent-size, lent-some, lent-few, lent-short, lent-counted, turn-none, turn-unsound, turn-idle, serving, idles, turn-ended, turn-serves}
use Rattle.dispatch.proofs.turn.Goals as goal

pub returns-then-layer-ne-LAYER : goal.returns-then-layer-ne-LAYER
returns-then-layer-ne-LAYER c = ap (λ r. turn_reply_of r c.args.layer.now c.idle.new.report) c.idle.ensures.0 ∙ turn-none c.args.layer.now
    (length c.args.report.now) _ c.if-layer-ne-LAYER.true c.idle.ensures.1

pub returns-then-not-layer_sound : goal.returns-then-not-layer_sound
returns-then-not-layer_sound c = ap (λ r. turn_reply_of r c.args.layer.now c.idle-then-not-layer_sound.new.report) c.idle-then-not-layer_sound.ensures.0 ∙ turn-unsound
    c.args.layer.now c.if-layer-ne-LAYER.false
    (length c.args.report.now) _
    (fails-unsound c.unwrap_or.result (layer_from c.args.layer.now)
    (sym c.layer_sound.ensures ∙ c.if-not-layer_sound.true))
    c.idle-then-not-layer_sound.ensures.1

pub returns-in_default : goal.returns-in_default
returns-in_default c = ap (λ r. turn_reply_of r c.args.layer.now c.idle-in_default.new.report) c.idle-in_default.ensures.0 ∙ turn-idle
    c.args.layer.now c.if-layer-ne-LAYER.false
    (length c.args.report.now) _
    (checked-all c.args.layer.now c.unwrap_or.result _
    c.layer_sound.ensures (c.unwrap_or.ensures ∙ ap (λ (o : Option ℕ). unwrap_or o 4) c.in_default.is) ∙ c.if-not-layer_sound.false)
    (idles _ (sym c.in_default.is ∙ c.next_waiting-next.ensures))
    c.idle-in_default.ensures.1

pub overflow_mul-at : goal.overflow_mul-at
overflow_mul-at c =
    let serves : Serves c.args.layer.now c.in-Some.v = serving _ _ _ _ _
    c.if-layer-ne-LAYER.false c.in-Some.is c.next_waiting-next.ensures c.unwrap_or.ensures c.layer_sound.ensures c.if-not-layer_sound.false in
    omega (arith, small c.args.layer.now c.in-Some.v serves)

pub overflow_add-end : goal.overflow_add-end
overflow_add-end c =
    let serves : Serves c.args.layer.now c.in-Some.v = serving _ _ _ _ _
    c.if-layer-ne-LAYER.false c.in-Some.is c.next_waiting-next.ensures c.unwrap_or.ensures c.layer_sound.ensures c.if-not-layer_sound.false in
    omega (arith, small c.args.layer.now c.in-Some.v serves)

pub slice_bounds-call_head-end : goal.slice_bounds-call_head-end
slice_bounds-call_head-end c =
    let serves : Serves c.args.layer.now c.in-Some.v = serving _ _ _ _ _
    c.if-layer-ne-LAYER.false c.in-Some.is c.next_waiting-next.ensures c.unwrap_or.ensures c.layer_sound.ensures c.if-not-layer_sound.false in
    omega (
      arith,
      small c.args.layer.now
          c.in-Some.v serves,
      serves.size,
    )

pub call_head-r-requires : goal.call_head-r-requires
call_head-r-requires c =
    let serves : Serves c.args.layer.now c.in-Some.v = serving _ _ _ _ _
    c.if-layer-ne-LAYER.false c.in-Some.is c.next_waiting-next.ensures c.unwrap_or.ensures c.layer_sound.ensures c.if-not-layer_sound.false in
    record {
      whole = lent-size c.args.layer.now
          c.in-Some.v serves
          (lane_size * c.in-Some.v + lane_size - lane_size *
          c.in-Some.v) (omega arith);
      places = lent-short c.args.layer.now
          c.in-Some.v serves
          (lane_size * c.in-Some.v + lane_size - lane_size *
          c.in-Some.v) (omega arith);
    }

pub returns-then-r-eq0 : goal.returns-then-r-eq0
returns-then-r-eq0 c =
    let serves : Serves c.args.layer.now c.in-Some.v = serving _ _ _ _ _
    c.if-layer-ne-LAYER.false c.in-Some.is c.next_waiting-next.ensures c.unwrap_or.ensures c.layer_sound.ensures c.if-not-layer_sound.false in
    ap (λ r. turn_reply_of r c.args.layer.now c.call_head-r.new.report) c.unserved.ensures ∙ turn-ended c.args.layer.now
    c.in-Some.v
    serves
    (lane_size * c.in-Some.v + lane_size -
    lane_size * c.in-Some.v)
    (omega arith) (length
    c.args.report.now) c.call_head-r.result _ c.call_head-r.ensures c.if-r-eq0.true

pub slice_bounds-advance-end : goal.slice_bounds-advance-end
slice_bounds-advance-end c =
    let serves : Serves c.args.layer.now c.in-Some.v = serving _ _ _ _ _
    c.if-layer-ne-LAYER.false c.in-Some.is c.next_waiting-next.ensures c.unwrap_or.ensures c.layer_sound.ensures c.if-not-layer_sound.false in
    omega (
      arith,
      small c.args.layer.now
          c.in-Some.v
          serves,
      serves.size,
    )

pub advance-requires : goal.advance-requires
advance-requires c =
    let serves : Serves c.args.layer.now c.in-Some.v = serving _ _ _ _ _
    c.if-layer-ne-LAYER.false c.in-Some.is c.next_waiting-next.ensures c.unwrap_or.ensures c.layer_sound.ensures c.if-not-layer_sound.false in
    let e = (lane_size * c.in-Some.v + lane_size - lane_size *
    c.in-Some.v) in record {
      whole = lent-size c.args.layer.now
          c.in-Some.v
          serves e (omega arith);
      room = lent-counted c.args.layer.now
          c.in-Some.v
          serves e (omega arith)
          (length c.args.report.now) c.call_head-r.result _ c.call_head-r.ensures c.if-r-eq0.false;
      waits = lent-some c.args.layer.now
          c.in-Some.v
          serves e (omega arith);
      most = lent-few c.args.layer.now
          c.in-Some.v
          serves e (omega arith);
    }

pub overflow_cast-layer : goal.overflow_cast-layer
overflow_cast-layer c =
    let serves : Serves c.args.layer.now c.in-Some.v = serving _ _ _ _ _
    c.if-layer-ne-LAYER.false c.in-Some.is c.next_waiting-next.ensures c.unwrap_or.ensures c.layer_sound.ensures c.if-not-layer_sound.false in
    omega (
      arith,
      small c.args.layer.now
          c.in-Some.v serves,
    )

pub overflow_cast-result : goal.overflow_cast-result
overflow_cast-result c =
    let serves : Serves c.args.layer.now c.in-Some.v = serving _ _ _ _ _
    c.if-layer-ne-LAYER.false c.in-Some.is c.next_waiting-next.ensures c.unwrap_or.ensures c.layer_sound.ensures c.if-not-layer_sound.false in
    omega (
      arith,
      small c.args.layer.now
          c.in-Some.v serves,
    )

pub returns : goal.returns
returns c =
    let serves : Serves c.args.layer.now c.in-Some.v = serving _ _ _ _ _
    c.if-layer-ne-LAYER.false c.in-Some.is c.next_waiting-next.ensures c.unwrap_or.ensures c.layer_sound.ensures c.if-not-layer_sound.false in
    turn-serves c.args.layer.now
    c.in-Some.v serves
    (lane_size * c.in-Some.v + lane_size - lane_size *
    c.in-Some.v) (omega arith)
    (length c.args.report.now) c.call_head-r.result _ c.call_head-r.ensures c.if-r-eq0.false
    c.advance.new.lane c.advance.ensures
