-- `set_check::passed` meets its contract.
use native.Mathlib.Omega.{arith}
use mathlib.Core.Path.{◌∙◌}
use Rattle.set_check.proofs.OrderLaws.{few-out, one_few, one_told, onward-made}
use Rattle.set_check.proofs.passed.Goals as goal

pub overflow_add-result : goal.overflow_add-result
overflow_add-result c = omega (arith, (few-out _ c.requires).editions, one_few c.tells_edition.result)

pub overflow_add-result-2 : goal.overflow_add-result-2
overflow_add-result-2 c = omega (arith, (few-out _ c.requires).regulars, one_few c.tells_regular.result)

pub overflow_add-result-3 : goal.overflow_add-result-3
overflow_add-result-3 c = omega (arith, (few-out _ c.requires).complexes, one_few c.tells_complex.result)

pub overflow_add-result-4 : goal.overflow_add-result-4
overflow_add-result-4 c = omega (arith, (few-out _ c.requires).leggings, one_few c.tells_legging.result)

pub run_with-requires : goal.run_with-requires
run_with-requires c = c.requires

pub returns : goal.returns
returns c = onward-made _ _ _ _ _ _ _ _ _ _ _ _ _
    c.opened_after.ensures
    c.is_whole.ensures c.part_of.ensures
    c.sort_key.ensures
    c.told_of.ensures
    (c.from.ensures ∙ one_told _ _ c.tells_edition.ensures)
    (c.from-2.ensures ∙ one_told _ _ c.tells_regular.ensures)
    (c.from-3.ensures ∙ one_told _ _ c.tells_complex.ensures)
    (c.from-4.ensures ∙ one_told _ _ c.tells_legging.ensures)
    c.run_with.ensures c.still_placed.ensures
