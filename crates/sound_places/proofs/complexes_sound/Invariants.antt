use mathlib.Core.Path.{◌≡◌}
use lib.ListN.{drop}
use Rattle.sound_places.specs.Checked.{complexes_from}
use Rattle.sound_places.proofs.complexes_sound.Given as goal

abbrev pub invariant-loop-i : goal.invariant-loop-i
invariant-loop-i l = complexes_from l.last l.low (drop l.i l.l) ≡ complexes_from l.last 0 l.l
