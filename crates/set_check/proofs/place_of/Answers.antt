-- `set_check::place_of` meets its contract.
use native.Mathlib.Omega.{arith}
use Rattle.rules.specs.Words.{place_of}
use Rattle.set_check.proofs.place_of.Goals as goal

pub returns : goal.returns
unfolding place_of
returns c = (omega arith)
