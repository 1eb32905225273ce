-- `sound_places::edition_in_range` meets its contract.
use mathlib.Core.Path.{◌∙◌}
use native.Mathlib.Omega.{arith}
use Rattle.sound_places.proofs.Passes.{edition-range, figure-increment, figure-none, figure-percent}
use Rattle.sound_places.proofs.edition_in_range.Goals as goal

pub returns-then-e-le7 : goal.returns-then-e-le7
returns-then-e-le7 c = let e = c.args.e in c.is_increment.ensures ∙ figure-increment e c.if-e-le7.true ∙ edition-range e (omega arith) (omega arith)

pub returns-then-e-ne8 : goal.returns-then-e-ne8
returns-then-e-ne8 c = let e = c.args.e in figure-none e c.if-e-le7.false c.if-e-ne8.true ∙ edition-range e (omega arith) (omega arith)

pub returns : goal.returns
returns c = let e = c.args.e in figure-percent e c.if-e-ne8.false ∙ edition-range e (omega arith) (omega arith)
