-- `places::none_shows_again` meets its contract.
use mathlib.Core.Path.{refl}
use Rattle.places.specs.Layout.{none_shows_again}
use Rattle.places.proofs.none_shows_again.Goals as goal

pub returns : goal.returns
unfolding none_shows_again
returns c = refl
