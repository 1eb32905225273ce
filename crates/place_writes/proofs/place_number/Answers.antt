-- `place_writes::place_number` meets its contract.
use Rattle.rules.specs.Words.{place_of}
use native.Mathlib.Omega.{arith}
use Rattle.place_writes.proofs.place_number.Goals as goal

pub returns : goal.returns
unfolding place_of
returns c = omega arith
