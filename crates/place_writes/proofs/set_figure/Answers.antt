-- `place_writes::set_figure` meets its contract.
use mathlib.Core.Path.{ap}
use mathlib.Core.Bool.{not}
use native.Mathlib.Omega.{arith}
use borrow.Author.Tests.{ne_eqb}
use Rattle.place_writes.proofs.Figures.{none-set, past-set, figure-set}
use Rattle.place_writes.proofs.set_figure.Goals as goal

pub returns-then-e-eq0 : goal.returns-then-e-eq0
returns-then-e-eq0 c = none-set _ _ c.if-e-eq0.true

pub returns-then-e-gt8 : goal.returns-then-e-gt8
returns-then-e-gt8 c = past-set _ _ c.if-e-gt8.true

pub returns : goal.returns
returns c = rw (c.from-f.ensures, c.from.ensures) (figure-set _ _ c.told-numbers
    (ap not (ne_eqb _ _ c.if-e-eq0.false)) (omega arith) (omega arith))
