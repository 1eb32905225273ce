-- `order_messages::cancel_step` meets its contract.
use mathlib.Core.Path.{refl, sym, ap, ◌∙◌}
use mathlib.Core.Bool.{not}
use native.Mathlib.Omega.{arith}
use borrow.Author.Tests.{eq-eqb, ne_eqb}
use Rattle.rules.specs.Step.{perform}
use Rattle.wire.proofs.Decoding.{id-is}
use Rattle.refusals.proofs.RefusalFound.{cancel-unknown, cancel-taken}
use Rattle.answers.proofs.Answering.{refused-steps, done-steps, out-steps, in-steps}
use Rattle.order_messages.proofs.cancel_step.Goals as goal

pub returns-then-id-eq0 : goal.returns-then-id-eq0
returns-then-id-eq0 c = out-steps _ _ _ _ _ _ _ _ _ (sym (id-is _ (omega arith)) ∙ ap not (eq-eqb _ 0 c.if-id-eq0.true))
    c.refuse.ensures

pub returns-then-not-rests : goal.returns-then-not-rests
returns-then-not-rests c = in-steps _ _ _ _ _ _ _ _ _ (sym (id-is _ (omega arith)) ∙ ap not (ne_eqb _ 0
    c.if-id-eq0.false)) refl (refused-steps _ _ _ _ _ _ _ _ (cancel-unknown _ _ (sym
    c.rests.ensures ∙ c.if-not-rests.true))
    (λ z. omega arith) c.refuse-then-not-rests.ensures)

pub cancel-end-requires : goal.cancel-end-requires
cancel-end-requires c =
    record {
      dense = c.requires.dense;
      rests = sym c.rests.ensures ∙ c.if-not-rests.false;
    }

pub finish-requires : goal.finish-requires
finish-requires c =
    c.cancel-end.ensures.counts.right c.requires.dense.right

pub returns : goal.returns
unfolding perform
returns c = in-steps _ _ _ _ _ _ _ _ _ (sym (id-is _ (omega arith)) ∙ ap not (ne_eqb _ 0
    c.if-id-eq0.false)) refl (done-steps _ _ _ _ _ _ _ _ _ _ _ _ (cancel-taken _ _ (sym
    c.rests.ensures ∙ c.if-not-rests.false)) c.emit_answer-at.ensures c.cancel-end.ensures.result_after c.finish.ensures)
