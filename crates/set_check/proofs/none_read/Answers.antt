-- `set_check::none_read` meets its contract.
use mathlib.Core.Path.{refl}
use Rattle.set_check.specs.Order.{none_read}
use Rattle.set_check.proofs.none_read.Goals as goal

pub returns : goal.returns
unfolding none_read
returns c = refl
