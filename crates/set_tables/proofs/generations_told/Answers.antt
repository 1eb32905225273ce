-- `set_tables::generations_told` meets its contract.
use mathlib.Core.Path.{sym, ap, ◌∙◌}
use Rattle.sets.specs.Set.{venue_told}
use Rattle.set_tables.specs.Records.{rows_left}
use Rattle.set_tables.proofs.ToldLaws.{numbered-start, numbered-skip, numbered-room, numbered-put, numbered-end}
use Rattle.set_tables.proofs.generations_told.Goals as goal

pub loop-r-init : goal.loop-r-init
loop-r-init c = numbered-start _ c.requires _ (ap rows_left c.into_iter-r-iterator.ensures.into_iter_gives ∙ c.of-r-items.ensures)

pub bounds-l-s : goal.bounds-l-s
bounds-l-s c = numbered-room _ _ _ _ _ c.loop-r.invariant c.in-Some.ensures.steps (sym c.tells_generation.ensures ∙ c.if-tells_generation.true) _ c.u8_at-s.ensures

pub bounds-l-s-then-tells_generation : goal.bounds-l-s-then-tells_generation
bounds-l-s-then-tells_generation c = numbered-room _ _ _ _ _ c.loop-r.invariant c.in-Some.ensures.steps (sym c.tells_generation.ensures ∙ c.if-tells_generation.true) _ c.u8_at-s.ensures

pub loop-r-preserved-then-tells_generation : goal.loop-r-preserved-then-tells_generation
loop-r-preserved-then-tells_generation c = numbered-put _ _ _ _ _ c.loop-r.invariant c.in-Some.ensures.steps
    (sym c.tells_generation.ensures ∙ c.if-tells_generation.true) _ _ _ _ c.u8_at-s.ensures c.told_of.ensures c.one_more.ensures

pub loop-r-preserved : goal.loop-r-preserved
loop-r-preserved c = numbered-skip _ _ _ _ _ c.loop-r.invariant c.in-Some.ensures.steps (sym c.tells_generation.ensures ∙ c.if-tells_generation.false)

pub returns : goal.returns
unfolding venue_told
returns c = numbered-end _ _ _ c.loop-r.invariant c.in-None.ensures.steps.0
