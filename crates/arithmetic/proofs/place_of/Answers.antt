-- `arithmetic::place_of` meets its contract.
use native.Mathlib.Omega.{arith}
use Rattle.rules.specs.Words.{place_of}
use Rattle.arithmetic.proofs.place_of.Goals as goal

pub returns : goal.returns
unfolding place_of
returns c = omega arith
