-- `place_writes::count_figures` meets its contract.
use native.Mathlib.Omega.{arith}
use Rattle.place_writes.proofs.Figures.{counting-first, counting-next, counting-last}
use Rattle.place_writes.proofs.count_figures.Goals as goal

pub loop-i-init : goal.loop-i-init
loop-i-init c = let n = c.base_figures.array_long in
    (n, counting-first _ _ n c.base_figures.ensures)

pub loop-i-preserved : goal.loop-i-preserved
loop-i-preserved c = let m = counting-next _ _ _ _ _ (omega arith)
    c.loop-i.invariant.1 c.loop-i-test.true
    c.edition_at-e.ensures c.set_figure.ensures in
    (m.aside.long, m)

pub returns : goal.returns
returns c = counting-last _ _ _ _ c.base_figures.ensures c.loop-i.invariant.1 (omega arith)
