-- `place_writes::RegularOrder::is_held_at` meets its contract.
use mathlib.Core.Path.{refl}
use Rattle.places.specs.Layout.{regular_in}
use Rattle.place_writes.proofs.RegularOrder.is_held_at.Goals as goal

pub returns : goal.returns
unfolding regular_in
returns c = refl
