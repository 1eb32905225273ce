-- `set_check::run_with` meets its contract.
use native.Mathlib.Omega.{arith}
use mathlib.Core.Path.{sym, ◌∙◌}
use Rattle.set_check.proofs.OrderLaws.{run-same, run-other, few-out, one_few, one_told}
use Rattle.set_check.proofs.run_with.Goals as goal

pub overflow_add-result : goal.overflow_add-result
overflow_add-result c = omega (arith, (few-out _ c.requires).run, one_few c.tells_generation.result)

pub returns-then-same_series : goal.returns-then-same_series
returns-then-same_series c = run-same _ _ _ (sym c.same_series.ensures ∙ c.if-same_series.true)
    (c.from-more.ensures ∙ one_told _ _ c.tells_generation.ensures)

pub returns : goal.returns
returns c = run-other _ _ _ (sym c.same_series.ensures ∙ c.if-same_series.false) (c.from-more.ensures ∙ one_told _ _ c.tells_generation.ensures)
