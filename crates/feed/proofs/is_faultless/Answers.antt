-- `feed::is_faultless` meets its contract.
use mathlib.Core.Path.{refl, sym, ◌∙◌}
use native.Mathlib.Omega.{arith}
use Rattle.feed.proofs.Cursors.{tested-start, tested-end, tested-not, tested-on, part-within, part-none, part-some}
use Rattle.feed.proofs.is_faultless.Goals as goal

pub loop-at-init : goal.loop-at-init
loop-at-init c = tested-start c.args.line.now

pub returns-in_default : goal.returns-in_default
returns-in_default c = let g = c.loop-at in tested-not _ g.last g.at g.invariant (omega arith) (part-none _ _ (sym c.in_default.is ∙ c.part_length.ensures))

pub overflow_add-at : goal.overflow_add-at
overflow_add-at c = let g = c.loop-at in let p = part-some _ _ _ (sym c.in-Some.is ∙ c.part_length.ensures) in let w = part-within c.args.line.now g.last g.at g.invariant
    (omega arith) _ _ p.0 p.1 refl in omega arith

pub loop-at-smaller : goal.loop-at-smaller
loop-at-smaller c = let g = c.loop-at in let p = part-some _ _ _ (sym c.in-Some.is ∙ c.part_length.ensures) in let w = part-within c.args.line.now g.last g.at g.invariant
    (omega arith) _ _ p.0 p.1 refl in omega arith

pub loop-at-preserved : goal.loop-at-preserved
loop-at-preserved c = let g = c.loop-at in let p = part-some _ _ _ (sym c.in-Some.is ∙ c.part_length.ensures) in tested-on c.args.line.now g.last g.at g.invariant (omega arith) _ _
    p.0 (c.from.ensures ∙ p.1) c.number-last.ensures

pub returns : goal.returns
returns c = let g = c.loop-at in tested-end c.args.line.now g.last g.at g.invariant (omega arith)
