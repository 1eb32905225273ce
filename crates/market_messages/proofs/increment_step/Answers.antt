-- `market_messages::increment_step` meets its contract.
use mathlib.Core.Path.{refl, sym, ◌∙◌}
use mathlib.Core.Logic.{inl}
use native.Mathlib.Omega.{arith}
use Rattle.rules.specs.Step.{perform}
use Rattle.wire.proofs.Decoding.{any-edition}
use Rattle.places.specs.Layout.{venue_of}
use Rattle.refusals.proofs.Passing.{increment-place}
use Rattle.refusals.proofs.RefusalFound.{increment-refusal}
use Rattle.answers.proofs.Answering.{found-steps, done-steps, out-steps, in-steps}
use Rattle.market_messages.proofs.Setting.{increment-set}
use Rattle.market_messages.proofs.increment_step.Goals as goal

pub returns-then-not-increment_in_range : goal.returns-then-not-increment_in_range
returns-then-not-increment_in_range c = out-steps _ _ _ _ _ _ _ _ _ (any-edition _ _ (omega arith) ∙ sym
    c.increment_in_range.ensures ∙ c.if-not-increment_in_range.true)
    c.refuse.ensures

pub is_idle-used-requires : goal.is_idle-used-requires
is_idle-used-requires c =
    (increment-set _ _ (sym c.increment_in_range.ensures ∙ c.if-not-increment_in_range.false)).0

pub returns-in-Err : goal.returns-in-Err
returns-in-Err c =
    in-steps _ _ _ _ _ _ _ _ _ (any-edition _ _ (omega arith) ∙ sym c.increment_in_range.ensures ∙ c.if-not-increment_in_range.false) refl
    (found-steps _ _ _ _ _ _ _ _ _ c.refusal_number.ensures (c.in-Err.ensures ∙ increment-refusal (venue_of
    c.args.numbers.now) c.args.s c.args.x c.args.edition _
    c.is_idle-used.ensures) c.refuse-in-Err.ensures)

pub set_figure-end-requires : goal.set_figure-end-requires
set_figure-end-requires c =
    record {
      free = increment-place _ _ _ _ (sym (c.in_default.ensures ∙ increment-refusal
          (venue_of c.args.numbers.now) c.args.s c.args.x c.args.edition _
          c.is_idle-used.ensures));
      value = inl (increment-set _ _ (sym
          c.increment_in_range.ensures ∙ c.if-not-increment_in_range.false)).1;
      right = c.requires.dense.right;
    }

pub finish-requires : goal.finish-requires
finish-requires c =
    c.set_figure-end.ensures.counts.right c.requires.dense.right

pub returns : goal.returns
unfolding perform
returns c =
    in-steps _ _ _ _ _ _ _ _ _ (any-edition _ _ (omega arith) ∙ sym c.increment_in_range.ensures
    ∙ c.if-not-increment_in_range.false) refl (done-steps _ _ _ _ _ _ _ _ _ _ _ _ (sym
    (c.in_default.ensures ∙ increment-refusal (venue_of c.args.numbers.now) c.args.s c.args.x c.args.edition _
    c.is_idle-used.ensures)) c.emit_answer-at.ensures c.set_figure-end.ensures.result_after c.finish.ensures)
