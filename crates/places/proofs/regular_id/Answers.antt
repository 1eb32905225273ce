-- `places::regular_id` meets its contract.
use mathlib.Core.Path.{refl}
use Rattle.places.specs.Layout.{regular_in}
use Rattle.places.proofs.regular_id.Goals as goal

pub returns : goal.returns
unfolding regular_in
returns c = refl
