-- `messages::frame_refusal` meets its contract.
use mathlib.Core.Path.{ap, ◌∙◌}
use native.Mathlib.Omega.{arith}
use Rattle.rules.specs.Bytes.{u16_at}
use Rattle.rules.specs.Messages.{length_of}
use Rattle.rules.specs.Refusals.{is_kind}
use Rattle.wire.proofs.Decoding.{torn-short, torn-low, torn-high, whole, no_kind, no_length}
use Rattle.rules.proofs.Ranges.{below, above, inside}
use Rattle.messages.proofs.frame_refusal.Goals as goal

pub returns-then-message-lt4 : goal.returns-then-message-lt4
returns-then-message-lt4 c = torn-short _ c.if-message-lt4.true

pub returns-then-size-lt4 : goal.returns-then-size-lt4
returns-then-size-lt4 c =
    let bs = c.args.message.now in
    torn-low bs (omega arith)

pub returns-then-message-from : goal.returns-then-message-from
returns-then-message-from c =
    let bs = c.args.message.now in
    torn-high bs (omega arith)

pub returns-then-kind-eq0 : goal.returns-then-kind-eq0
unfolding is_kind
returns-then-kind-eq0 c =
    let bs = c.args.message.now in
    no_kind bs (whole bs (omega arith) (omega arith) (omega arith)) (below 1 11 (u16_at bs 2)
    (omega arith))

pub returns-then-kind-gt11 : goal.returns-then-kind-gt11
unfolding is_kind
returns-then-kind-gt11 c =
    let bs = c.args.message.now in
    no_kind bs (whole bs (omega arith) (omega arith) (omega arith)) (above 1 11 (u16_at bs 2)
    (omega arith))

pub returns-then-size-length_of : goal.returns-then-size-length_of
unfolding is_kind
returns-then-size-length_of c =
    let bs = c.args.message.now in
    let n = c.length_of.ensures ∙ ap length_of c.half_at-kind.ensures in
    no_length bs (whole bs (omega arith) (omega arith) (omega arith)) (inside 1 11 (u16_at bs 2)
    (omega arith) (omega arith)) (λ e. omega arith)

pub returns : goal.returns
returns c =
    let bs = c.args.message.now in
    let n = c.length_of.ensures ∙ ap length_of c.half_at-kind.ensures in
    record {
      whole = whole bs (omega arith) (omega arith) (omega arith);
      four = omega arith;
      low = omega arith;
      high = omega arith;
      size = omega arith;
      room = omega arith;
    }
