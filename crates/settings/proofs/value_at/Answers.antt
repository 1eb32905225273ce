-- `settings::value_at` meets its contract.
use mathlib.Core.Path.{◌≡◌, ◌∙◌}
use native.Mathlib.Omega.{arith}
use lib.ListN.{length}
use borrow.Author.Rules.{rules}
use Rattle.settings.proofs.ForcedLaws.{value-first, value-next, value-last}
use Rattle.settings.proofs.value_at.Goals as goal

pub loop-e-init : goal.loop-e-init
loop-e-init c = value-first _ _ _ _ c.base_figure-x.ensures

pub loop-e-preserved : goal.loop-e-preserved
loop-e-preserved c =
    let a = c.args in
    let n : length a.editions.now ≡ 32 = search rules in
    value-next a.number a.f c.loop-e.x _ a.editions.now c.loop-e.e-index (omega arith) c.value_after-x.ensures ∙ c.loop-e.invariant

pub returns : goal.returns
returns c =
    let a = c.args in
    let n : length a.editions.now ≡ 32 = search rules in
    value-last a.number a.f _ a.editions.now c.loop-e.e-index (omega arith) ∙ c.loop-e.invariant
