-- `sound_places::ComplexPlace::is_blank` meets its contract.
use mathlib.Core.Path.{◌∙◌}
use Rattle.sound_places.proofs.Passes.{complex-same}
use Rattle.sound_places.proofs.ComplexPlace.is_blank.Goals as goal

pub returns : goal.returns
returns c = c.eq.ensures ∙ complex-same c.args.self.now
