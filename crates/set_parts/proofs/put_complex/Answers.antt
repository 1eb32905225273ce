-- `set_parts::put_complex` meets its contract.
use mathlib.Core.Path.{sym, ◌∙◌}
use Rattle.set_parts.proofs.SetMemoryLaws.{adds_same, adds_then}
use Rattle.set_parts.proofs.PartsLaws.{complex-even, complex-uneven}
use Rattle.set_parts.proofs.put_complex.Goals as goal

pub returns-then-is_one_to_one : goal.returns-then-is_one_to_one
returns-then-is_one_to_one c = adds_same _ _ _ _ c.put_two_leg.ensures
    (complex-even _ (sym c.is_one_to_one.ensures ∙ c.if-is_one_to_one.true))

pub returns : goal.returns
returns c = adds_same _ _ _ _
    (adds_then _ _ _ _ _ c.put_two_leg-pos.ensures c.put_ratios.ensures)
    (complex-uneven _ (sym c.is_one_to_one.ensures
    ∙ c.if-is_one_to_one.false))
