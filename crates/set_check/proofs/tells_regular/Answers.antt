-- `set_check::tells_regular` meets its contract.
use native.Mathlib.Omega.{arith}
use Rattle.sets.specs.Set.{tells_regular}
use Rattle.set_check.proofs.Fronts.{one_of_two, neither}
use Rattle.set_check.proofs.tells_regular.Goals as goal

pub returns-in-1 : goal.returns-in-1
unfolding tells_regular
returns-in-1 c = one_of_two _ _ _ _ c.kind_of.ensures (λ n. omega arith)

pub returns-in_default : goal.returns-in_default
unfolding tells_regular
returns-in_default c = neither _ _ _ _ c.kind_of.ensures (λ e. grind arith) (λ e. grind arith)
