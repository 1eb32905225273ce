-- `order_messages::pair_step` meets its contract.
use mathlib.Core.Path.{refl, sym, ◌∙◌}
use Rattle.answers.proofs.Answering.{out-steps, in-steps}
use Rattle.order_messages.proofs.Ranged.{pair-ranged}
use Rattle.order_messages.proofs.pair_step.Goals as goal

pub returns-then-not-two_leg_in_range : goal.returns-then-not-two_leg_in_range
returns-then-not-two_leg_in_range c = out-steps _ _ _ _ _ _ _ _ _ (sym c.two_leg_in_range.ensures ∙ c.if-not-two_leg_in_range.true) c.refuse.ensures

pub complex_step-requires : goal.complex_step-requires
complex_step-requires c =
    record {
      dense = c.requires.dense;
      sound = c.requires.sound;
      in_range = pair-ranged _ c.requires.pair (sym c.two_leg_in_range.ensures ∙ c.if-not-two_leg_in_range.false);
    }

pub returns : goal.returns
returns c = in-steps _ _ _ _ _ _ _ _ _ (sym c.two_leg_in_range.ensures ∙ c.if-not-two_leg_in_range.false) refl c.complex_step.ensures
