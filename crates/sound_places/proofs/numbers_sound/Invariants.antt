use mathlib.Core.Path.{◌≡◌}
use lib.ListN.{drop}
use Rattle.sound_places.specs.Checked.{numbers_from}
use Rattle.sound_places.proofs.numbers_sound.Given as goal

abbrev pub invariant-loop-n : goal.invariant-loop-n
invariant-loop-n l = numbers_from l.low (drop l.n-index l.l) ≡ numbers_from 0 l.l
