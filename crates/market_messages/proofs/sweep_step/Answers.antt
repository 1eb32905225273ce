-- `market_messages::sweep_step` meets its contract.
use Rattle.rules.specs.Step.{perform}
use Rattle.refusals.proofs.RefusalFound.{sweep-taken}
use Rattle.answers.proofs.Answering.{done-steps}
use Rattle.market_messages.proofs.sweep_step.Goals as goal

pub sweep-end-requires : goal.sweep-end-requires
sweep-end-requires c =
    c.requires.dense

pub finish-requires : goal.finish-requires
finish-requires c =
    c.sweep-end.ensures.counts.right c.requires.dense.right

pub returns : goal.returns
unfolding perform
returns c = done-steps _ _ _ _ _ _ _ _ _ _ _ _ (sweep-taken _) c.emit_answer-at.ensures c.sweep-end.ensures.result_after c.finish.ensures
