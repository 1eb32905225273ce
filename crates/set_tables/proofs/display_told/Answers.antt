-- `set_tables::display_told` meets its contract.
use Rattle.rules.specs.Bytes.{kind_field}
use mathlib.Core.Path.{sym, ◌∙◌}
use native.Mathlib.Omega.{arith}
use borrow.Author.Tests.{eq-eqb, ne_eqb}
use Rattle.sets.specs.Set.{regular_told}
use Rattle.rules.specs.Messages.{order_at}
use Rattle.set_tables.proofs.display_told.Goals as goal

pub returns-then-kind_of-eq9 : goal.returns-then-kind_of-eq9
unfolding regular_told order_at
returns-then-kind_of-eq9 c = rw (eq-eqb _ 9 (sym c.kind_of.ensures ∙ c.if-kind_of-eq9.true)) c.u32_at.ensures

pub returns : goal.returns
unfolding regular_told order_at
returns c = rw (ne_eqb (kind_field c.args.r.now) 9 (λ e. omega arith)) c.u32_at-2.ensures
