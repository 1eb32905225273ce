-- `places::listed_at` meets its contract.
use mathlib.Core.Path.{refl}
use Rattle.places.specs.Layout.{listed_in}
use Rattle.places.proofs.listed_at.Goals as goal

pub returns : goal.returns
unfolding listed_in
returns c = refl
