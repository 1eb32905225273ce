-- `order_messages::order_step` meets its contract.
use mathlib.Core.Path.{refl, sym, ◌∙◌}
use Rattle.rules.specs.Step.{perform}
use Rattle.places.specs.Layout.{venue_of}
use Rattle.refusals.proofs.Passing.{order_below, order-room}
use Rattle.answers.proofs.Answering.{found-steps, done-steps, out-steps, in-steps}
use Rattle.order_messages.proofs.order_step.Goals as goal

pub returns-then-not-regular_in_range : goal.returns-then-not-regular_in_range
returns-then-not-regular_in_range c = out-steps _ _ _ _ _ _ _ _ _ (sym c.regular_in_range.ensures ∙ c.if-not-regular_in_range.true) c.refuse.ensures

pub order_refusal-requires : goal.order_refusal-requires
order_refusal-requires c =
    record { dense = c.requires.dense; in_range = sym c.regular_in_range.ensures ∙ c.if-not-regular_in_range.false }

pub returns-in-Err : goal.returns-in-Err
returns-in-Err c = in-steps _ _ _ _ _ _ _ _ _ (sym c.regular_in_range.ensures
    ∙ c.if-not-regular_in_range.false) refl (found-steps _ _ _ _ _ _ _ _ _
    c.refusal_number.ensures c.in-Err.ensures c.refuse-in-Err.ensures)

pub enter_order-end-requires : goal.enter_order-end-requires
enter_order-end-requires c =
    let r = sym c.in_default.ensures in record {
      dense = c.requires.dense;
      room = order-room _ c.requires.dense _ r;
      in_range = sym c.regular_in_range.ensures ∙ c.if-not-regular_in_range.false;
      fully = c.requires.fully;
      newest = order_below
          (venue_of c.args.numbers.now) _ r c.requires.sound.is;
    }

pub returns : goal.returns
unfolding perform
returns c = in-steps _ _ _ _ _ _ _ _ _ (sym c.regular_in_range.ensures ∙ c.if-not-regular_in_range.false) refl (done-steps _ _ _ _ _ _ _ _ _ _ _ _ (sym c.in_default.ensures) c.emit_answer-at.ensures c.enter_order-end.ensures.result_after c.finish.ensures)
