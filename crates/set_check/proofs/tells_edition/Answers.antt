-- `set_check::tells_edition` meets its contract.
use native.Mathlib.Omega.{arith}
use Rattle.sets.specs.Set.{tells_edition}
use Rattle.set_check.proofs.Fronts.{one_of_two, neither}
use Rattle.set_check.proofs.tells_edition.Goals as goal

pub returns-in-7 : goal.returns-in-7
unfolding tells_edition
returns-in-7 c = one_of_two _ _ _ _ c.kind_of.ensures (λ n. omega arith)

pub returns-in_default : goal.returns-in_default
unfolding tells_edition
returns-in_default c = neither _ _ _ _ c.kind_of.ensures (λ e. omega arith) (λ e. omega arith)

pub returns-in_default-2 : goal.returns-in_default-2
unfolding tells_edition
returns-in_default-2 c = neither _ _ _ _ c.kind_of.ensures (λ e. omega arith) (λ e. omega arith)
