-- `places::edition_at` meets its contract.
use mathlib.Core.Path.{refl}
use Rattle.places.specs.Layout.{edition_in}
use Rattle.places.proofs.edition_at.Goals as goal

pub returns : goal.returns
unfolding edition_in
returns c = refl
