-- `messages::market_kinds` meets its contract.
use mathlib.Core.Path.{◌≡◌, refl}
use native.Mathlib.Omega.{arith}
use Rattle.rules.specs.declared.Message.TheVariants.{Away, Status}
use Rattle.rules.specs.Bytes.{u16_at}
use Rattle.rules.specs.Messages.{length_of, message_of}
use Rattle.rules.specs.Refusals.{in_range}
use Rattle.wire.proofs.Decoding.{message-away, message-status, message-sweep}
use Rattle.answers.proofs.Answering.{in-steps}
use Rattle.messages.proofs.Dispatching.{kind-steps, framed-room, not_equal}
use Rattle.messages.proofs.market_kinds.Goals as goal

pub byte_at-s-requires : goal.byte_at-s-requires
unfolding length_of
byte_at-s-requires c =
    let bs = c.args.message.now in
    let f = c.requires.framed in
    let e : u16_at bs 2 ≡ 4 = omega arith in
    let n = framed-room bs 4 f e in
    omega arith

pub word_at-bid-requires : goal.word_at-bid-requires
unfolding length_of
word_at-bid-requires c =
    let bs = c.args.message.now in
    let f = c.requires.framed in
    let e : u16_at bs 2 ≡ 4 = omega arith in
    let n = framed-room bs 4 f e in
    omega arith

pub word_at-offer-requires : goal.word_at-offer-requires
unfolding length_of
word_at-offer-requires c =
    let bs = c.args.message.now in
    let f = c.requires.framed in
    let e : u16_at bs 2 ≡ 4 = omega arith in
    let n = framed-room bs 4 f e in
    omega arith

pub returns-then-kind-le4 : goal.returns-then-kind-le4
unfolding in_range
returns-then-kind-le4 c =
    let bs = c.args.message.now in
    let f = c.requires.framed in
    let e : u16_at bs 2 ≡ 4 = omega arith in
    let p : message_of bs ≡ Away c.byte_at-s.result
    c.word_at-bid.result
    c.word_at-offer.result = rw (
      c.byte_at-s.ensures,
      c.word_at-bid.ensures,
      c.word_at-offer.ensures,
    ) (message-away bs e) in
    kind-steps _ _ _ _ _ _ _ f _ _ _ p refl (not_equal bs 4 e refl) c.away_step.ensures

pub byte_at-s-requires-then-kind-le5 : goal.byte_at-s-requires-then-kind-le5
unfolding length_of
byte_at-s-requires-then-kind-le5 c =
    let bs = c.args.message.now in
    let f = c.requires.framed in
    let e : u16_at bs 2 ≡ 5 = omega arith in
    let n = framed-room bs 5 f e in
    omega arith

pub byte_at-status-requires : goal.byte_at-status-requires
unfolding length_of
byte_at-status-requires c =
    let bs = c.args.message.now in
    let f = c.requires.framed in
    let e : u16_at bs 2 ≡ 5 = omega arith in
    let n = framed-room bs 5 f e in
    omega arith

pub returns-then-kind-le5 : goal.returns-then-kind-le5
unfolding in_range
returns-then-kind-le5 c =
    let bs = c.args.message.now in
    let f = c.requires.framed in
    let e : u16_at bs 2 ≡ 5 = omega arith in
    let p : message_of bs ≡ Status c.byte_at-s-then-kind-le5.result
    c.byte_at-status.result = rw (
      c.byte_at-s-then-kind-le5.ensures,
      c.byte_at-status.ensures,
    ) (message-status bs e) in
    kind-steps _ _ _ _ _ _ _ f _ _ _ p refl (not_equal bs 5 e refl) c.status_step.ensures

pub returns : goal.returns
unfolding in_range
returns c =
    let bs = c.args.message.now in
    let f = c.requires.framed in
    let e : u16_at bs 2 ≡ 6 = omega arith in
    kind-steps _ _ _ _ _ _ _ f _ _ _ (message-sweep bs e) refl (not_equal bs 6 e refl) (in-steps _ _ _ _ _ _ _ _ _ refl refl
    c.sweep_step.ensures)
