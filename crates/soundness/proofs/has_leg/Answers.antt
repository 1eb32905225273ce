-- `soundness::has_leg` meets its contract.
use mathlib.Core.Path.{sym, ◌∙◌}
use Rattle.rules.specs.Standing.{has_leg}
use Rattle.soundness.proofs.has_leg.Goals as goal

pub returns-then-is_leg : goal.returns-then-is_leg
unfolding has_leg
returns-then-is_leg c = rw (sym c.is_leg.ensures ∙ c.if-is_leg.true)

pub returns : goal.returns
unfolding has_leg
returns c = rw (sym c.is_leg.ensures ∙ c.if-is_leg.false) c.is_leg-2.ensures
