-- `order_messages::complex_step` meets its contract.
use mathlib.Core.Path.{sym}
use Rattle.rules.specs.Step.{perform}
use Rattle.refusals.proofs.Passing.{complex-room}
use Rattle.refusals.proofs.RefusalFound.{legs-in}
use Rattle.answers.proofs.Answering.{found-steps, done-steps}
use Rattle.order_messages.proofs.complex_step.Goals as goal

pub returns-in-Err : goal.returns-in-Err
returns-in-Err c = found-steps _ _ _ _ _ _ _ _ _ c.refusal_number.ensures c.in-Err.ensures c.refuse.ensures

pub enter_complex-end-requires : goal.enter_complex-end-requires
enter_complex-end-requires c =
    record {
      dense = c.requires.dense;
      room = complex-room _ c.requires.dense _ (sym c.in_default.ensures);
      legs = legs-in _ c.requires.in_range;
    }

pub returns : goal.returns
unfolding perform
returns c = done-steps _ _ _ _ _ _ _ _ _ _ _ _ (sym c.in_default.ensures) c.emit_answer-at.ensures c.enter_complex-end.ensures.result_after
    c.finish.ensures
