-- `set_check::tells_legging` meets its contract.
use mathlib.Core.Path.{ap}
use Prim.Native.Nat.{ℕ}
use lib.Dec.{eqb}
use Rattle.sets.specs.Set.{tells_legging}
use Rattle.set_check.proofs.tells_legging.Goals as goal

pub returns : goal.returns
unfolding tells_legging
returns c = ap (λ (k : ℕ). eqb k 82) c.kind_of.ensures
