-- `messages::later_kinds` meets its contract.
use mathlib.Core.Path.{◌≡◌, refl, sym, ap, ap₂, ◌∙◌}
use Prim.Native.Nat.{ℕ}
use native.Mathlib.Omega.{arith}
use Rattle.rules.specs.declared.Message.TheVariants.{Order, TwoLeg, Increment, Percent, LimitedSweep}
use Rattle.rules.specs.Bytes.{u16_at}
use Rattle.rules.specs.Messages.{length_of, order_at, two_leg_at, message_of}
use Rattle.rules.specs.Refusals.{two_leg_in_range, far_of, in_range}
use Rattle.rules.proofs.Showing.{message-fully}
use Rattle.wire.proofs.Decoding.{message-increment, message-percent, message-reserve, message-ratios, message-limited}
use Rattle.messages.proofs.Dispatching.{kind-steps, framed-room, not_equal, ratios-equal}
use Rattle.messages.proofs.later_kinds.Goals as goal

pub byte_at-s-requires : goal.byte_at-s-requires
unfolding length_of
byte_at-s-requires c =
    let bs = c.args.message.now in
    let f = c.requires.framed in
    let e : u16_at bs 2 ≡ 7 = omega arith in
    let n = framed-room bs 7 f e in
    omega arith

pub byte_at-x-requires : goal.byte_at-x-requires
unfolding length_of
byte_at-x-requires c =
    let bs = c.args.message.now in
    let f = c.requires.framed in
    let e : u16_at bs 2 ≡ 7 = omega arith in
    let n = framed-room bs 7 f e in
    omega arith

pub word_at-edition-requires : goal.word_at-edition-requires
unfolding length_of
word_at-edition-requires c =
    let bs = c.args.message.now in
    let f = c.requires.framed in
    let e : u16_at bs 2 ≡ 7 = omega arith in
    let n = framed-room bs 7 f e in
    omega arith

pub returns-then-kind-le7 : goal.returns-then-kind-le7
unfolding in_range
returns-then-kind-le7 c =
    let bs = c.args.message.now in
    let f = c.requires.framed in
    let e : u16_at bs 2 ≡ 7 = omega arith in
    let p : message_of bs ≡ Increment c.byte_at-s.result
    c.byte_at-x.result
    c.word_at-edition.result = rw (
      c.byte_at-s.ensures,
      c.byte_at-x.ensures,
      c.word_at-edition.ensures,
    ) (message-increment bs e) in
    kind-steps _ _ _ _ _ _ _ f _ _ _ p refl (not_equal bs 7 e refl) c.increment_step.ensures

pub byte_at-x-requires-then-kind-le8 : goal.byte_at-x-requires-then-kind-le8
unfolding length_of
byte_at-x-requires-then-kind-le8 c =
    let bs = c.args.message.now in
    let f = c.requires.framed in
    let e : u16_at bs 2 ≡ 8 = omega arith in
    let n = framed-room bs 8 f e in
    omega arith

pub word_at-edition-requires-then-kind-le8 : goal.word_at-edition-requires-then-kind-le8
unfolding length_of
word_at-edition-requires-then-kind-le8 c =
    let bs = c.args.message.now in
    let f = c.requires.framed in
    let e : u16_at bs 2 ≡ 8 = omega arith in
    let n = framed-room bs 8 f e in
    omega arith

pub returns-then-kind-le8 : goal.returns-then-kind-le8
unfolding in_range
returns-then-kind-le8 c =
    let bs = c.args.message.now in
    let f = c.requires.framed in
    let e : u16_at bs 2 ≡ 8 = omega arith in
    let p : message_of bs ≡ Percent c.byte_at-x-then-kind-le8.result
    c.word_at-edition-then-kind-le8.result = rw (
      c.byte_at-x-then-kind-le8.ensures,
      c.word_at-edition-then-kind-le8.ensures,
    ) (message-percent bs e) in
    kind-steps _ _ _ _ _ _ _ f _ _ _ p refl (not_equal bs 8 e refl) c.percent_step.ensures

pub word_at-requires : goal.word_at-requires
unfolding length_of
word_at-requires c =
    let bs = c.args.message.now in
    let f = c.requires.framed in
    let e : u16_at bs 2 ≡ 9 = omega arith in
    let n = framed-room bs 9 f e in
    omega arith

pub order_at-o-requires : goal.order_at-o-requires
unfolding length_of
order_at-o-requires c =
    let bs = c.args.message.now in
    let f = c.requires.framed in
    let e : u16_at bs 2 ≡ 9 = omega arith in
    let n = framed-room bs 9 f e in
    omega arith

pub order_step-requires : goal.order_step-requires
order_step-requires c =
    let bs = c.args.message.now in
    let f = c.requires.framed in
    let e : u16_at bs 2 ≡ 9 = omega arith in record {
      dense = c.requires.dense;
      sound = c.requires.sound;
      fully = message-fully bs _ (message-reserve bs e ∙ ap Order (sym (c.order_at-o.ensures ∙ ap (λ
          (x : ℕ). order_at x bs) c.word_at.ensures)));
    }

pub returns-then-kind-le9 : goal.returns-then-kind-le9
unfolding in_range
returns-then-kind-le9 c =
    let bs = c.args.message.now in
    let f = c.requires.framed in
    let e : u16_at bs 2 ≡ 9 = omega arith in
    kind-steps _ _ _ _ _ _ _ f _ _ _ (message-reserve bs e ∙ ap Order (sym (c.order_at-o.ensures
    ∙ ap (λ (x : ℕ). order_at x bs) c.word_at.ensures))) refl (not_equal bs 9 e refl)
    c.order_step.ensures

pub byte_at-requires : goal.byte_at-requires
unfolding length_of
byte_at-requires c =
    let bs = c.args.message.now in
    let f = c.requires.framed in
    let e : u16_at bs 2 ≡ 10 = omega arith in
    let n = framed-room bs 10 f e in
    omega arith

pub byte_at-requires-then-kind-le10 : goal.byte_at-requires-then-kind-le10
unfolding length_of
byte_at-requires-then-kind-le10 c =
    let bs = c.args.message.now in
    let f = c.requires.framed in
    let e : u16_at bs 2 ≡ 10 = omega arith in
    let n = framed-room bs 10 f e in
    omega arith

pub two_leg_at-c-requires : goal.two_leg_at-c-requires
unfolding length_of
two_leg_at-c-requires c =
    let bs = c.args.message.now in
    let f = c.requires.framed in
    let e : u16_at bs 2 ≡ 10 = omega arith in
    let n = framed-room bs 10 f e in
    omega arith

pub returns-then-kind-le10 : goal.returns-then-kind-le10
unfolding in_range far_of
returns-then-kind-le10 c =
    let bs = c.args.message.now in
    let f = c.requires.framed in
    let e : u16_at bs 2 ≡ 10 = omega arith in
    let w = c.two_leg_at-c.ensures ∙ ap₂ (two_leg_at bs)
    c.byte_at.ensures
    c.byte_at-then-kind-le10.ensures in
    kind-steps _ _ _ _ _ _ _ f _ _ _ (message-ratios bs e ∙ ap TwoLeg (sym w)) (ap (λ (k : ℕ). two_leg_in_range (far_of k)
    c.two_leg_at-c.result) e) (ratios-equal bs _ e w)
    c.ratio_step.ensures

pub byte_at-n-requires : goal.byte_at-n-requires
unfolding length_of
byte_at-n-requires c =
    let bs = c.args.message.now in
    let f = c.requires.framed in
    let e : u16_at bs 2 ≡ 11 = omega arith in
    let n = framed-room bs 11 f e in
    omega arith

pub returns : goal.returns
unfolding in_range
returns c =
    let bs = c.args.message.now in
    let f = c.requires.framed in
    let e : u16_at bs 2 ≡ 11 = omega arith in
    let p : message_of bs ≡ LimitedSweep c.byte_at-n.result = rw
    c.byte_at-n.ensures (message-limited bs e) in
    kind-steps _ _ _ _ _ _ _ f _ _ _ p refl (not_equal bs 11 e refl) c.limited_step.ensures
