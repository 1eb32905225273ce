-- `arithmetic::is_quantity` meets its contract.
use Rattle.rules.specs.Words.{is_quantity}
use Rattle.arithmetic.proofs.is_quantity.Goals as goal

pub returns : goal.returns
unfolding is_quantity
returns c = c.is_up_to.ensures
