-- `place_writes::base_figures` meets its contract.
use Rattle.place_writes.proofs.Figures.{based-next}
use Rattle.place_writes.proofs.base_figures.Goals as goal

pub loop-f-preserved : goal.loop-f-preserved
loop-f-preserved c = let m = based-next _ _ _ _ c.loop-f.invariant.1 c.loop-f-test.true c.base_figure-x.ensures in rw (c.from-in-loop-f.ensures, c.from.ensures) (m.aside.long, m)
