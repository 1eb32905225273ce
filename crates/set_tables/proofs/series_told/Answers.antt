-- `set_tables::series_told` meets its contract.
use mathlib.Core.Path.{refl}
use Rattle.sets.specs.Set.{venue_told}
use Rattle.set_tables.proofs.ToldLaws.{listing_start, listing-next, listing-end}
use Rattle.set_tables.proofs.series_told.Goals as goal

pub loop-s-init : goal.loop-s-init
loop-s-init c = listing_start _ _ _ _ c.of-records.ensures c.front-first.ensures.left refl

pub loop-s-preserved : goal.loop-s-preserved
loop-s-preserved c = listing-next _ _ _ _ c.loop-s.invariant c.loop-s-test.true _ _ _ _
    c.front-status.ensures.record c.front-status.ensures.left c.front-away.ensures.record c.front-away.ensures.left _ c.listed_told.ensures

pub returns : goal.returns
unfolding venue_told
returns c = listing-end _ _ _ _ c.loop-s.invariant c.loop-s-test.false
