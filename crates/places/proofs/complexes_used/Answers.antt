-- `places::complexes_used` meets its contract.
use native.Mathlib.Omega.{arith}
use Rattle.places.specs.Layout.{complexes_used}
use Rattle.places.proofs.complexes_used.Goals as goal

pub returns : goal.returns
unfolding complexes_used
returns c = (c.at_most.ensures, omega (arith, c.at_most.ensures))
