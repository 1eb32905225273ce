-- `set_check::tells_complex` meets its contract.
use native.Mathlib.Omega.{arith}
use Rattle.sets.specs.Set.{tells_complex}
use Rattle.set_check.proofs.Fronts.{one_of_two, neither}
use Rattle.set_check.proofs.tells_complex.Goals as goal

pub returns-in-2 : goal.returns-in-2
unfolding tells_complex
returns-in-2 c = one_of_two _ _ _ _ c.kind_of.ensures (λ n. omega arith)

pub returns-in_default : goal.returns-in_default
unfolding tells_complex
returns-in_default c = neither _ _ _ _ c.kind_of.ensures (λ e. grind arith) (λ e. grind arith)
