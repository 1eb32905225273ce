-- `set_tables::reached_told` meets its contract.
use mathlib.Core.Path.{sym, ap, ◌∙◌}
use Rattle.sets.specs.Set.{reached_told, venue_told}
use Rattle.set_tables.specs.Records.{rows_left}
use Rattle.set_tables.proofs.ToldLaws.{reached-found, reached-skip, reached-none}
use Rattle.set_tables.proofs.reached_told.Goals as goal

pub loop-r-init : goal.loop-r-init
loop-r-init c = ap reached_told (ap rows_left c.into_iter-r-iterator.ensures.into_iter_gives ∙ c.of-r-items.ensures)

pub returns-then-kind_of-eq84 : goal.returns-then-kind_of-eq84
unfolding venue_told
returns-then-kind_of-eq84 c = c.u32_at.ensures ∙ reached-found _ _ _ c.in-Some.ensures.steps (sym c.kind_of.ensures ∙ c.if-kind_of-eq84.true) ∙ c.loop-r.invariant

pub loop-r-preserved : goal.loop-r-preserved
loop-r-preserved c = reached-skip _ _ _ c.in-Some.ensures.steps (λ z. c.if-kind_of-eq84.false (c.kind_of.ensures ∙ z)) ∙ c.loop-r.invariant

pub returns : goal.returns
unfolding venue_told
returns c = reached-none _ c.in-None.ensures.steps.0 ∙ c.loop-r.invariant
