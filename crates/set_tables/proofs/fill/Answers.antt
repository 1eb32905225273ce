-- `set_tables::fill` meets its contract.
use native.Mathlib.Omega.{arith}
use Rattle.std.proofs.Common.{rules}
use mathlib.Core.Path.{sym, ap, ◌∙◌}
use Rattle.set_tables.specs.Records.{rows_left}
use Rattle.set_tables.proofs.TableFilled.{front_well, filling-start, filling-end, filling_skip, filling-room, filling-put}
use Rattle.set_tables.proofs.fill.Goals as goal

pub loop-r-init : goal.loop-r-init
loop-r-init g c = filling-start _ _ _ _ _ c.requires.room (ap rows_left c.into_iter-r-iterator.ensures.into_iter_gives ∙ c.of-r-items.ensures)

pub told-requires-clause-whole : goal.told-requires-clause-whole
told-requires-clause-whole g c = (front_well _ _ _ c.loop-r.r-iterator.framed c.in-Some.ensures.steps).known

pub bounds-table-n : goal.bounds-table-n
bounds-table-n g c =
    let t = filling-room _ _ _ _ _ _ _ _ _ c.loop-r.invariant c.in-Some.ensures.steps (sym c.tells.ensures ∙ c.if-tells.true) in
    let k = c.loop-r.invariant.long in omega arith

pub overflow_add-n : goal.overflow_add-n
overflow_add-n g c =
    let t = filling-room _ _ _ _ _ _ _ _ _ c.loop-r.invariant c.in-Some.ensures.steps (sym c.tells.ensures ∙ c.if-tells.true) in
    let k = c.loop-r.invariant.long in search rules

pub loop-r-preserved-then-tells : goal.loop-r-preserved-then-tells
loop-r-preserved-then-tells g c = filling-put _ _ _ _ _ _ _ _ _ c.loop-r.invariant c.in-Some.ensures.steps _ (sym c.tells.ensures ∙ c.if-tells.true) c.told.ensures

pub loop-r-preserved : goal.loop-r-preserved
loop-r-preserved g c = filling_skip _ _ _ _ _ _ _ _ _ c.loop-r.invariant c.in-Some.ensures.steps (sym c.tells.ensures ∙ c.if-tells.false)

pub returns : goal.returns
returns g c = filling-end _ _ _ _ _ _ _ c.loop-r.invariant c.in-None.ensures.steps.0
