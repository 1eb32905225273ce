-- `places::facing_key` meets its contract.
use native.Mathlib.Omega.{arith}
use Rattle.rules.specs.Words.{place_of}
use Rattle.places.specs.Layout.{facing_key}
use borrow.Author.Rules.{rules}
use Rattle.places.proofs.facing_key.Goals as goal

pub overflow_mul-result-2 : goal.overflow_mul-result-2
unfolding place_of
overflow_mul-result-2 c = search rules

pub overflow_add-result : goal.overflow_add-result
unfolding place_of
overflow_add-result c = search rules

pub overflow_add-result-2 : goal.overflow_add-result-2
unfolding place_of
overflow_add-result-2 c = search rules

pub returns : goal.returns
unfolding facing_key place_of
returns c = omega arith
