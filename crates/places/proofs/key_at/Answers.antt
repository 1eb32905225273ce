-- `places::key_at` meets its contract.
use native.Mathlib.Omega.{arith}
use Rattle.rules.specs.Words.{place_of}
use Rattle.places.specs.Layout.{regular_in, regular_key}
use Rattle.places.proofs.key_at.Goals as goal

pub returns : goal.returns
unfolding regular_key regular_in place_of
returns c = omega arith
