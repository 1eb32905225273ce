-- `set_tables::leggings_told` meets its contract.
use mathlib.Core.Path.{sym, ap, ◌∙◌}
use Rattle.sets.specs.Set.{venue_told}
use Rattle.set_tables.specs.Records.{rows_left}
use Rattle.set_tables.proofs.ToldLaws.{legged-start, legged-skip, legged-room, legged-put, legged-end}
use Rattle.set_tables.proofs.leggings_told.Goals as goal

pub loop-r-init : goal.loop-r-init
loop-r-init c = legged-start _ c.requires _ (ap rows_left c.into_iter-r-iterator.ensures.into_iter_gives ∙ c.of-r-items.ensures)

pub bounds-l-n : goal.bounds-l-n
bounds-l-n c = legged-room _ _ _ _ _ c.loop-r.invariant c.in-Some.ensures.steps (sym c.tells_legging.ensures ∙ c.if-tells_legging.true) _ c.place_of-n.ensures

pub loop-r-preserved-then-tells_legging : goal.loop-r-preserved-then-tells_legging
loop-r-preserved-then-tells_legging c = legged-put _ _ _ _ _ c.loop-r.invariant c.in-Some.ensures.steps
    (sym c.tells_legging.ensures ∙ c.if-tells_legging.true) _ _ c.place_of-n.ensures c.legging_told.ensures

pub loop-r-preserved : goal.loop-r-preserved
loop-r-preserved c = legged-skip _ _ _ _ _ c.loop-r.invariant c.in-Some.ensures.steps (sym c.tells_legging.ensures ∙ c.if-tells_legging.false)

pub returns : goal.returns
unfolding venue_told
returns c = legged-end _ _ _ c.loop-r.invariant c.in-None.ensures.steps.0
