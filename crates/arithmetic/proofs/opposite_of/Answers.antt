-- `arithmetic::opposite_of` meets its contract.
use native.Mathlib.Omega.{arith}
use Rattle.rules.specs.Words.{opposite}
use Rattle.arithmetic.proofs.opposite_of.Goals as goal

pub returns-then-side-eq0 : goal.returns-then-side-eq0
unfolding opposite
returns-then-side-eq0 c = omega arith

pub returns : goal.returns
unfolding opposite
returns c = omega arith
