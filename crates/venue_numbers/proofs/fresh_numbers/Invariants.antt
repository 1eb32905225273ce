use mathlib.Core.Path.{◌≡◌}
use Rattle.venue_numbers.proofs.FreshNumbers.{open_to}
use Rattle.venue_numbers.proofs.fresh_numbers.Given as goal

abbrev pub invariant-loop-s : goal.invariant-loop-s
invariant-loop-s l = (l.numbers ≡ open_to l.s)
