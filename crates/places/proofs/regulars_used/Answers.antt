-- `places::regulars_used` meets its contract.
use native.Mathlib.Omega.{arith}
use Rattle.places.specs.Layout.{regulars_used}
use Rattle.places.proofs.regulars_used.Goals as goal

pub returns : goal.returns
unfolding regulars_used
returns c = (c.at_most.ensures, omega (arith, c.at_most.ensures))
