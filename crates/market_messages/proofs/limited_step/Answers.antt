-- `market_messages::limited_step` meets its contract.
use mathlib.Core.Path.{refl, sym, ◌∙◌}
use Rattle.rules.specs.Step.{perform}
use Rattle.sweeps.proofs.RisingLaws.{sound-rising}
use Rattle.refusals.proofs.RefusalFound.{limited-taken}
use Rattle.answers.proofs.Answering.{done-steps, out-steps, in-steps}
use Rattle.market_messages.proofs.limited_step.Goals as goal

pub returns-then-not-sweep_in_range : goal.returns-then-not-sweep_in_range
returns-then-not-sweep_in_range c = out-steps _ _ _ _ _ _ _ _ _ (sym c.sweep_in_range.ensures ∙ c.if-not-sweep_in_range.true) c.refuse.ensures

pub limited_sweep-swept-requires : goal.limited_sweep-swept-requires
limited_sweep-swept-requires c =
    record { dense = c.requires.dense; rising = sound-rising _ c.requires.sound.is }

pub finish-requires : goal.finish-requires
finish-requires c =
    c.limited_sweep-swept.ensures.counts.right c.requires.dense.right

pub returns : goal.returns
unfolding perform
returns c = in-steps _ _ _ _ _ _ _ _ _ (sym c.sweep_in_range.ensures ∙ c.if-not-sweep_in_range.false) refl (done-steps _ _ _ _ _ _ _ _ _ _ _ _ (limited-taken _ _)
    c.emit_answer-at.ensures
    c.limited_sweep-swept.ensures.at_after
    c.finish.ensures)
