-- `arithmetic::better_of` meets its contract.
use Rattle.rules.specs.Prices.{better_of}
use mathlib.Core.Path.{sym, ◌∙◌}
use Rattle.arithmetic.proofs.better_of.Goals as goal

pub returns-then-is_better : goal.returns-then-is_better
unfolding better_of
returns-then-is_better c = simp (sym c.is_better.ensures ∙ c.if-is_better.true)

pub returns : goal.returns
unfolding better_of
returns c = simp (sym c.is_better.ensures ∙ c.if-is_better.false)
