-- `market_messages::status_step` meets its contract.
use mathlib.Core.Path.{refl, sym, ◌∙◌}
use Rattle.rules.specs.Step.{perform}
use Rattle.refusals.proofs.RefusalFound.{status-taken}
use Rattle.answers.proofs.Answering.{done-steps, out-steps, in-steps}
use Rattle.market_messages.proofs.Setting.{status-series}
use Rattle.market_messages.proofs.status_step.Goals as goal

pub returns-then-not-status_in_range : goal.returns-then-not-status_in_range
returns-then-not-status_in_range c = out-steps _ _ _ _ _ _ _ _ _ (sym c.status_in_range.ensures ∙ c.if-not-status_in_range.true) c.refuse.ensures

pub set_status-end-requires : goal.set_status-end-requires
set_status-end-requires c =
    record {
      right = c.requires.dense.right;
      series = status-series _ _ (sym c.status_in_range.ensures ∙ c.if-not-status_in_range.false);
    }

pub finish-requires : goal.finish-requires
finish-requires c =
    c.set_status-end.ensures.counts.right c.requires.dense.right

pub returns : goal.returns
unfolding perform
returns c = in-steps _ _ _ _ _ _ _ _ _ (sym c.status_in_range.ensures ∙ c.if-not-status_in_range.false) refl (done-steps _ _ _ _ _ _ _ _ _ _ _ _ (status-taken _ _ _)
    c.emit_answer-at.ensures
    c.set_status-end.ensures.result_after
    c.finish.ensures)
