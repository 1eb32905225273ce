-- `places::level_at` meets its contract.
use mathlib.Core.Path.{refl}
use Rattle.places.specs.Layout.{level_in}
use Rattle.places.proofs.level_at.Goals as goal

pub returns : goal.returns
unfolding level_in
returns c = rw c.size_of.ensures refl
