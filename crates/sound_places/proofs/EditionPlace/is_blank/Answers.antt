-- `sound_places::EditionPlace::is_blank` meets its contract.
use mathlib.Core.Path.{◌∙◌}
use Rattle.sound_places.proofs.Passes.{edition-same}
use Rattle.sound_places.proofs.EditionPlace.is_blank.Goals as goal

pub returns : goal.returns
returns c = c.eq.ensures ∙ edition-same c.args.self.now
