-- `places::legging_at` meets its contract.
use mathlib.Core.Path.{refl}
use Rattle.places.specs.Layout.{legging_in}
use Rattle.places.proofs.legging_at.Goals as goal

pub returns : goal.returns
unfolding legging_in
returns c = refl
