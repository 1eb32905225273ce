use mathlib.Core.Path.{◌≡◌}
use Rattle.places.proofs.Masks.{above}
use Rattle.venue_numbers.proofs.count_mask.Given as goal

abbrev pub invariant-loop-i : goal.invariant-loop-i
invariant-loop-i l = (l.m ≡ above l.numbers l.i)
