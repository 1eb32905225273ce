-- `arithmetic::is_price` meets its contract.
use Rattle.rules.specs.Words.{is_price}
use Rattle.arithmetic.proofs.is_price.Goals as goal

pub returns : goal.returns
unfolding is_price
returns c = c.is_up_to.ensures
