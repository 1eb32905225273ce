-- `arithmetic::is_ratio` meets its contract.
use mathlib.Core.Path.{ap, ◌∙◌}
use Rattle.rules.specs.Words.{is_ratio}
use Rattle.arithmetic.proofs.is_ratio.Goals as goal

pub returns : goal.returns
unfolding is_ratio
returns c = c.is_up_to.ensures ∙ ap is_ratio c.from.ensures
