use mathlib.Core.Path.{◌≡◌}
use lib.ListN.{length}
use Rattle.places.specs.Layout.{size}
use Rattle.place_writes.proofs.Figures.{Counting}
use Rattle.place_writes.proofs.count_figures.Given as goal

abbrev pub invariant-loop-i : goal.invariant-loop-i
invariant-loop-i l = (length l.numbers ≡ size) × Counting l.initial.numbers l.numbers l.i
