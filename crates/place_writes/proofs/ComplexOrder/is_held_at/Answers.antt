-- `place_writes::ComplexOrder::is_held_at` meets its contract.
use mathlib.Core.Path.{refl}
use Rattle.places.specs.Layout.{complex_in}
use Rattle.place_writes.proofs.ComplexOrder.is_held_at.Goals as goal

pub returns : goal.returns
unfolding complex_in
returns c = refl
