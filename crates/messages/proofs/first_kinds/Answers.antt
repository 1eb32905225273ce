-- `messages::first_kinds` meets its contract.
use mathlib.Core.Path.{◌≡◌, refl, sym, ap, ◌∙◌}
use Prim.Native.Nat.{ℕ}
use native.Mathlib.Omega.{arith}
use Rattle.rules.specs.declared.Message.TheVariants.{Order, TwoLeg, Cancel}
use Rattle.rules.specs.Bytes.{u16_at}
use Rattle.rules.specs.Messages.{length_of, order_at}
use Rattle.rules.specs.Refusals.{two_leg_in_range, far_of, in_range}
use Rattle.rules.proofs.Showing.{message-fully}
use Rattle.wire.proofs.Decoding.{message-order, message-two-leg, message-cancel}
use Rattle.messages.proofs.Dispatching.{kind-steps, framed-room, not_equal, pair_one}
use Rattle.messages.proofs.first_kinds.Goals as goal

pub word_at-requires : goal.word_at-requires
unfolding length_of
word_at-requires c =
    let bs = c.args.message.now in
    let f = c.requires.framed in
    let e : u16_at bs 2 ≡ 1 = omega arith in
    let n = framed-room bs 1 f e in
    omega arith

pub order_at-o-requires : goal.order_at-o-requires
unfolding length_of
order_at-o-requires c =
    let bs = c.args.message.now in
    let f = c.requires.framed in
    let e : u16_at bs 2 ≡ 1 = omega arith in
    let n = framed-room bs 1 f e in
    omega arith

pub order_step-requires : goal.order_step-requires
order_step-requires c =
    let bs = c.args.message.now in
    let f = c.requires.framed in
    let e : u16_at bs 2 ≡ 1 = omega arith in record {
      dense = c.requires.dense;
      sound = c.requires.sound;
      fully = message-fully bs _ (message-order bs e ∙ ap Order (sym (c.order_at-o.ensures ∙ ap (λ
          (x : ℕ). order_at x bs) c.word_at.ensures)));
    }

pub returns-then-kind-le1 : goal.returns-then-kind-le1
unfolding in_range
returns-then-kind-le1 c =
    let bs = c.args.message.now in
    let f = c.requires.framed in
    let e : u16_at bs 2 ≡ 1 = omega arith in
    kind-steps _ _ _ _ _ _ _ f _ _ _ (message-order bs e ∙ ap Order (sym (c.order_at-o.ensures ∙ ap
    (λ (x : ℕ). order_at x bs) c.word_at.ensures))) refl (not_equal bs 1 e refl)
    c.order_step.ensures

pub two_leg_at-c-requires : goal.two_leg_at-c-requires
unfolding length_of
two_leg_at-c-requires c =
    let bs = c.args.message.now in
    let f = c.requires.framed in
    let e : u16_at bs 2 ≡ 2 = omega arith in
    let n = framed-room bs 2 f e in
    omega arith

pub pair_step-requires : goal.pair_step-requires
pair_step-requires c =
    record { dense = c.requires.dense; sound = c.requires.sound; pair = pair_one _ _ c.two_leg_at-c.ensures }

pub returns-then-kind-le2 : goal.returns-then-kind-le2
unfolding in_range far_of
returns-then-kind-le2 c =
    let bs = c.args.message.now in
    let f = c.requires.framed in
    let e : u16_at bs 2 ≡ 2 = omega arith in
    kind-steps _ _ _ _ _ _ _ f _ _ _ (message-two-leg bs e ∙ ap TwoLeg (sym
    c.two_leg_at-c.ensures)) (ap (λ (k : ℕ). two_leg_in_range (far_of k)
    c.two_leg_at-c.result) e) (not_equal bs 2 e refl)
    c.pair_step.ensures

pub word_at-id-requires : goal.word_at-id-requires
unfolding length_of
word_at-id-requires c =
    let bs = c.args.message.now in
    let f = c.requires.framed in
    let e : u16_at bs 2 ≡ 3 = omega arith in
    let n = framed-room bs 3 f e in
    omega arith

pub returns : goal.returns
unfolding in_range
returns c =
    let bs = c.args.message.now in
    let f = c.requires.framed in
    let e : u16_at bs 2 ≡ 3 = omega arith in
    kind-steps _ _ _ _ _ _ _ f _ _ _ (message-cancel bs e ∙ ap Cancel (sym
    c.word_at-id.ensures)) refl (not_equal bs 3 e refl)
    c.cancel_step.ensures
