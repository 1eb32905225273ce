-- `market_messages::away_step` meets its contract.
use mathlib.Core.Path.{refl, sym, ◌∙◌}
use Rattle.rules.specs.Step.{perform}
use Rattle.refusals.proofs.RefusalFound.{away-taken}
use Rattle.answers.proofs.Answering.{done-steps, out-steps, in-steps}
use Rattle.market_messages.proofs.Setting.{away-series}
use Rattle.market_messages.proofs.away_step.Goals as goal

pub returns-then-not-away_in_range : goal.returns-then-not-away_in_range
returns-then-not-away_in_range c = out-steps _ _ _ _ _ _ _ _ _ (sym c.away_in_range.ensures ∙ c.if-not-away_in_range.true) c.refuse.ensures

pub set_away-end-requires : goal.set_away-end-requires
set_away-end-requires c =
    record {
      right = c.requires.dense.right;
      series = away-series _ _ _ (sym c.away_in_range.ensures ∙ c.if-not-away_in_range.false);
    }

pub finish-requires : goal.finish-requires
finish-requires c =
    c.set_away-end.ensures.counts.right c.requires.dense.right

pub returns : goal.returns
unfolding perform
returns c = in-steps _ _ _ _ _ _ _ _ _ (sym c.away_in_range.ensures ∙ c.if-not-away_in_range.false) refl (done-steps _ _ _ _ _ _ _ _ _ _ _ _ (away-taken _ _ _ _)
    c.emit_answer-at.ensures
    c.set_away-end.ensures.result_after
    c.finish.ensures)
