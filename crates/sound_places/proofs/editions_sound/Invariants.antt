use mathlib.Core.Path.{◌≡◌}
use lib.ListN.{drop}
use Rattle.sound_places.specs.Checked.{editions_from}
use Rattle.sound_places.proofs.editions_sound.Given as goal

abbrev pub invariant-loop-i : goal.invariant-loop-i
invariant-loop-i l = editions_from l.low l.past (drop l.i l.l) ≡ editions_from 0 0 l.l
