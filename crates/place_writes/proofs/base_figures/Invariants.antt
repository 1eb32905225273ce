use mathlib.Core.Path.{◌≡◌}
use lib.ListN.{length}
use Rattle.places.specs.Layout.{size}
use Rattle.place_writes.proofs.Figures.{Based}
use Rattle.place_writes.proofs.base_figures.Given as goal

abbrev pub invariant-loop-f : goal.invariant-loop-f
invariant-loop-f l = (length l.numbers ≡ size) × Based l.initial.numbers l.numbers l.f
