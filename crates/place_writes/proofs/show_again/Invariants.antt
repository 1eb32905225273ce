use mathlib.Core.Path.{◌≡◌}
use lib.ListN.{length}
use Rattle.places.specs.Layout.{size}
use Rattle.place_writes.proofs.Again.{ShowingAgain}
use Rattle.place_writes.proofs.show_again.Given as goal

abbrev pub invariant-loop-i : goal.invariant-loop-i
invariant-loop-i l = (length l.numbers ≡ size) × ShowingAgain l.initial.numbers l.numbers l.i
