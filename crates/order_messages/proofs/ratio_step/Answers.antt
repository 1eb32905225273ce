-- `order_messages::ratio_step` meets its contract.
use mathlib.Core.Path.{sym, ◌∙◌}
use borrow.Author.Tests.{eq-eqb, ne_eqb}
use Rattle.answers.proofs.Answering.{out-steps, equal-steps, in-steps}
use Rattle.order_messages.proofs.Ranged.{ratio-ranged}
use Rattle.order_messages.proofs.ratio_step.Goals as goal

pub returns-then-not-two_leg_in_range : goal.returns-then-not-two_leg_in_range
returns-then-not-two_leg_in_range c = out-steps _ _ _ _ _ _ _ _ _ (sym c.two_leg_in_range.ensures ∙ c.if-not-two_leg_in_range.true) c.refuse.ensures

pub returns-then-c : goal.returns-then-c
returns-then-c c = equal-steps _ _ _ _ _ _ _ _ _ (sym c.two_leg_in_range.ensures
    ∙ c.if-not-two_leg_in_range.false) (eq-eqb _ _
    c.if-c.true) c.refuse-then-c.ensures

pub complex_step-requires : goal.complex_step-requires
complex_step-requires c =
    record {
      dense = c.requires.dense;
      sound = c.requires.sound;
      in_range = ratio-ranged _ c.if-c.false (sym
          c.two_leg_in_range.ensures ∙ c.if-not-two_leg_in_range.false);
    }

pub returns : goal.returns
returns c = in-steps _ _ _ _ _ _ _ _ _ (sym c.two_leg_in_range.ensures
    ∙ c.if-not-two_leg_in_range.false) (ne_eqb _ _
    c.if-c.false) c.complex_step.ensures
