-- `set_check::tells_generation` meets its contract.
use mathlib.Core.Path.{ap}
use Prim.Native.Nat.{ℕ}
use lib.Dec.{eqb}
use Rattle.sets.specs.Set.{tells_generation}
use Rattle.set_check.proofs.tells_generation.Goals as goal

pub returns : goal.returns
unfolding tells_generation
returns c = ap (λ (k : ℕ). eqb k 83) c.kind_of.ensures
