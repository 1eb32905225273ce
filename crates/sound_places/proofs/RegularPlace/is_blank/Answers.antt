-- `sound_places::RegularPlace::is_blank` meets its contract.
use mathlib.Core.Path.{◌∙◌}
use Rattle.sound_places.proofs.Passes.{regular-same}
use Rattle.sound_places.proofs.RegularPlace.is_blank.Goals as goal

pub returns : goal.returns
returns c = c.eq.ensures ∙ regular-same c.args.self.now
