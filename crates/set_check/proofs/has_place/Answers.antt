-- `set_check::has_place` meets its contract.
use native.Mathlib.Omega.{arith}
use mathlib.Core.Path.{sym, ◌∙◌}
use Rattle.set_check.proofs.OrderLaws.{placed-increment, placed-percent, placed-regular, placed-complex, placed-legging, placed-generation, placed-other, placed-reached}
use Rattle.set_check.proofs.has_place.Goals as goal

pub returns-then-kind-eq7 : goal.returns-then-kind-eq7
returns-then-kind-eq7 c = placed-increment _ _ (omega arith) c.increment_placed.ensures

pub returns-then-kind-eq8 : goal.returns-then-kind-eq8
returns-then-kind-eq8 c = placed-percent _ (λ e. omega arith) _ (omega arith) c.u32_at.ensures

pub returns-then-tells_regular : goal.returns-then-tells_regular
returns-then-tells_regular c = placed-regular _ (λ e. omega arith) (λ e. omega arith) _ (sym c.tells_regular.ensures ∙ c.if-tells_regular.true) c.u32_at-then-tells_regular.ensures

pub returns-then-tells_complex : goal.returns-then-tells_complex
returns-then-tells_complex c = placed-complex _ (λ e. omega arith) (λ e. omega arith)
    (sym c.tells_regular.ensures ∙ c.if-tells_regular.false) _
    (sym c.tells_complex.ensures ∙ c.if-tells_complex.true) c.complex_placed.ensures

pub returns-then-tells_legging : goal.returns-then-tells_legging
returns-then-tells_legging c = placed-legging _ (λ e. omega arith) (λ e. omega arith)
    (sym c.tells_regular.ensures ∙ c.if-tells_regular.false)
    (sym c.tells_complex.ensures ∙ c.if-tells_complex.false) _
    (sym c.tells_legging.ensures ∙ c.if-tells_legging.true) c.legging_placed.ensures

pub returns-then-tells_generation : goal.returns-then-tells_generation
returns-then-tells_generation c = placed-generation _ (λ e. omega arith) (λ e. omega arith)
    (sym c.tells_regular.ensures
    ∙ c.if-tells_regular.false)
    (sym c.tells_complex.ensures ∙ c.if-tells_complex.false)
    (sym c.tells_legging.ensures ∙ c.if-tells_legging.false) _
    (sym c.tells_generation.ensures ∙ c.if-tells_generation.true) c.generation_placed.ensures

pub returns-then-kind-ne84 : goal.returns-then-kind-ne84
returns-then-kind-ne84 c = placed-other _ (λ e. omega arith) (λ e. omega arith)
    (sym c.tells_regular.ensures
    ∙ c.if-tells_regular.false)
    (sym c.tells_complex.ensures ∙ c.if-tells_complex.false)
    (sym c.tells_legging.ensures ∙ c.if-tells_legging.false)
    (sym c.tells_generation.ensures ∙ c.if-tells_generation.false) (λ e. omega arith)

pub returns : goal.returns
returns c = placed-reached _ (λ e. omega arith) (λ e. omega arith)
    (sym c.tells_regular.ensures
    ∙ c.if-tells_regular.false)
    (sym c.tells_complex.ensures
    ∙ c.if-tells_complex.false)
    (sym c.tells_legging.ensures ∙ c.if-tells_legging.false) _
    (sym c.tells_generation.ensures ∙ c.if-tells_generation.false) (omega arith) c.u32_at-2.ensures
