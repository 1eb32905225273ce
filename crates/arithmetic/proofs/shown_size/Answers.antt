-- `arithmetic::shown_size` meets its contract.
use Rattle.rules.specs.Prices.{shown_size}
use Rattle.arithmetic.proofs.shown_size.Goals as goal

pub returns : goal.returns
unfolding shown_size
returns c = c.saturating_sub.ensures
