use mathlib.Core.Path.{◌≡◌}
use lib.ListN.{drop}
use Rattle.sound_places.specs.Checked.{regulars_from}
use Rattle.sound_places.proofs.regulars_sound.Given as goal

abbrev pub invariant-loop-i : goal.invariant-loop-i
invariant-loop-i l = regulars_from l.last l.low (drop l.i l.l) ≡ regulars_from l.last 0 l.l
