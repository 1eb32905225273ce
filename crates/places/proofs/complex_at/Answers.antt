-- `places::complex_at` meets its contract.
use mir.ValLaws.{to_z-of_z}
use mir.Syntax.{w32}
use mathlib.Core.Path.{refl}
use Rattle.places.specs.Layout.{complex_in}
use Rattle.places.proofs.complex_at.Goals as goal

pub returns : goal.returns
unfolding complex_in
returns c = rw (to_z-of_z w32 c.limit_of-limit.result (record { sfits = c.limit_of-limit.type_inv }), c.limit_of-limit.ensures) refl
