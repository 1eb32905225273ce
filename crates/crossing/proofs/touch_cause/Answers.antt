-- `crossing::touch_cause` meets its contract.
use mathlib.Core.Path.{sym, ◌∙◌}
use Rattle.crossing.proofs.touch_cause.Goals as goal

pub returns-then-fills_unit : goal.returns-then-fills_unit
returns-then-fills_unit c = rw (sym c.fills_unit.ensures ∙ c.if-fills_unit.true)

pub returns : goal.returns
returns c = rw (sym c.fills_unit.ensures ∙ c.if-fills_unit.false)
