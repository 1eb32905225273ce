-- `market_messages::percent_step` meets its contract.
use mathlib.Core.Path.{refl, sym, ◌∙◌}
use mathlib.Core.Logic.{inr}
use native.Mathlib.Omega.{arith}
use Rattle.rules.specs.Settings.{is_percent}
use Rattle.rules.specs.Step.{perform}
use Rattle.wire.proofs.Decoding.{any-edition}
use Rattle.places.specs.Layout.{venue_of}
use Rattle.rules.proofs.Ranges.{above, inside}
use Rattle.refusals.proofs.Passing.{percent-place}
use Rattle.refusals.proofs.RefusalFound.{percent-refusal}
use Rattle.answers.proofs.Answering.{found-steps, done-steps, out-steps, in-steps}
use Rattle.market_messages.proofs.percent_step.Goals as goal

pub returns-then-x-gt50 : goal.returns-then-x-gt50
unfolding is_percent
returns-then-x-gt50 c = out-steps _ _ _ _ _ _ _ _ _ (any-edition _ _ (omega arith) ∙ above 0 50 _ c.if-x-gt50.true)
    c.refuse.ensures

pub returns-in-Err : goal.returns-in-Err
unfolding is_percent
returns-in-Err c =
    in-steps _ _ _ _ _ _ _ _ _ (any-edition _ _ (omega arith) ∙ inside 0 50 _ (omega arith)
    c.if-x-gt50.false) refl (found-steps _ _ _ _ _ _ _ _ _ c.refusal_number.ensures
    (c.in-Err.ensures ∙ percent-refusal (venue_of c.args.numbers.now) c.args.x
    c.args.edition) c.refuse-in-Err.ensures)

pub set_figure-end-requires : goal.set_figure-end-requires
set_figure-end-requires c =
    record {
      free = percent-place _ _ _ (sym (c.in_default.ensures ∙ percent-refusal (venue_of
          c.args.numbers.now) c.args.x c.args.edition));
      value = inr
          (omega arith);
      right = c.requires.dense.right;
    }

pub finish-requires : goal.finish-requires
finish-requires c =
    c.set_figure-end.ensures.counts.right c.requires.dense.right

pub returns : goal.returns
unfolding is_percent perform
returns c =
    in-steps _ _ _ _ _ _ _ _ _ (any-edition _ _ (omega arith) ∙ inside 0 50 _ (omega arith)
    c.if-x-gt50.false) refl (done-steps _ _ _ _ _ _ _ _ _ _ _ _ (sym
    (c.in_default.ensures ∙ percent-refusal (venue_of c.args.numbers.now) c.args.x c.args.edition)) c.emit_answer-at.ensures c.set_figure-end.ensures.result_after
    c.finish.ensures)
