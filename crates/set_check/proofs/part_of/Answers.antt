-- `set_check::part_of` meets its contract.
use mathlib.Core.Path.{sym, ◌∙◌}
use native.Mathlib.Omega.{arith}
use Rattle.set_check.proofs.OrderLaws.{part-edition, part-regular, part-complex, part-legging, part-generation, part-reached, part_none}
use Rattle.set_check.proofs.part_of.Goals as goal

pub returns-then-tells_edition : goal.returns-then-tells_edition
returns-then-tells_edition c = part-edition _ (sym c.tells_edition.ensures ∙ c.if-tells_edition.true)

pub returns-then-tells_regular : goal.returns-then-tells_regular
returns-then-tells_regular c = part-regular _ (sym c.tells_edition.ensures ∙ c.if-tells_edition.false) (sym c.tells_regular.ensures ∙ c.if-tells_regular.true)

pub returns-then-tells_complex : goal.returns-then-tells_complex
returns-then-tells_complex c = part-complex _ (sym c.tells_edition.ensures ∙ c.if-tells_edition.false)
    (sym c.tells_regular.ensures ∙ c.if-tells_regular.false) (sym c.tells_complex.ensures ∙ c.if-tells_complex.true)

pub returns-then-tells_legging : goal.returns-then-tells_legging
returns-then-tells_legging c = part-legging _
    (sym c.tells_edition.ensures
    ∙ c.if-tells_edition.false)
    (sym c.tells_regular.ensures ∙ c.if-tells_regular.false)
    (sym c.tells_complex.ensures ∙ c.if-tells_complex.false) (sym c.tells_legging.ensures ∙ c.if-tells_legging.true)

pub returns-then-tells_generation : goal.returns-then-tells_generation
returns-then-tells_generation c = part-generation _ (sym c.tells_edition.ensures
    ∙ c.if-tells_edition.false)
    (sym c.tells_regular.ensures
    ∙ c.if-tells_regular.false)
    (sym c.tells_complex.ensures ∙ c.if-tells_complex.false)
    (sym c.tells_legging.ensures ∙ c.if-tells_legging.false)
    (sym c.tells_generation.ensures ∙ c.if-tells_generation.true)

pub returns-then-kind_of-eq84 : goal.returns-then-kind_of-eq84
returns-then-kind_of-eq84 c = part-reached _ (sym c.tells_edition.ensures
    ∙ c.if-tells_edition.false)
    (sym c.tells_regular.ensures
    ∙ c.if-tells_regular.false)
    (sym c.tells_complex.ensures
    ∙ c.if-tells_complex.false)
    (sym c.tells_legging.ensures ∙ c.if-tells_legging.false)
    (sym c.tells_generation.ensures ∙ c.if-tells_generation.false) (omega arith)

pub returns : goal.returns
returns c = part_none _ (sym c.tells_edition.ensures
    ∙ c.if-tells_edition.false)
    (sym c.tells_regular.ensures
    ∙ c.if-tells_regular.false)
    (sym c.tells_complex.ensures
    ∙ c.if-tells_complex.false)
    (sym c.tells_legging.ensures ∙ c.if-tells_legging.false)
    (sym c.tells_generation.ensures ∙ c.if-tells_generation.false) (λ e. omega arith)
