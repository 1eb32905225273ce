-- `places::regular_at` meets its contract.
use mathlib.Core.Path.{refl}
use Rattle.places.specs.Layout.{regular_in}
use Rattle.places.proofs.regular_at.Goals as goal

pub returns : goal.returns
unfolding regular_in
returns c = rw (c.lesser-display.ensures, c.lesser-reserve.ensures) refl
