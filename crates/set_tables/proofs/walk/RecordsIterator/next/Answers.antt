-- `next` of the records of a set meets its contract.
use Rattle.std.proofs.Common.{rules, length, sym, ap, ◌∙◌}
use Rattle.set_check.proofs.Fronts.{length-here}
use Rattle.set_tables.proofs.TableFilled.{row-ended, row_next, rest_framed, rest_rows}
use Rattle.set_tables.proofs.walk.RecordsIterator.next.Goals as goal

pub returns-then-size-eq0-clause-steps : goal.returns-then-size-eq0-clause-steps
returns-then-size-eq0-clause-steps c =
    let none = row-ended _ c.args.self.now.framed (length-here _ 0 ∙ sym c.u16_at-size.ensures ∙ c.if-size-eq0.true) in (none, none)

pub split_at-requires : goal.split_at-requires
split_at-requires c = (row_next _ c.args.self.now.framed _ (c.u16_at-size.ensures ∙ sym (length-here _ 0)) c.if-size-eq0.false).fits

pub invariant_of-self : goal.invariant_of-self
invariant_of-self c =
    let n = row_next _ c.args.self.now.framed _ (c.u16_at-size.ensures ∙ sym (length-here _ 0)) c.if-size-eq0.false in
    record { framed = rest_framed _ c.args.self.now.framed _ n _ c.split_at.ensures.back }

pub returns-clause-steps : goal.returns-clause-steps
returns-clause-steps c =
    let n = row_next _ c.args.self.now.framed _ (c.u16_at-size.ensures ∙ sym (length-here _ 0)) c.if-size-eq0.false in
    rest_rows _ c.args.self.now.framed _ n _ c.split_at.ensures.back _ c.split_at.ensures.front

pub returns-clause-goes : goal.returns-clause-goes
returns-clause-goes c =
    let n = row_next _ c.args.self.now.framed _ (c.u16_at-size.ensures ∙ sym (length-here _ 0)) c.if-size-eq0.false in
    let shorter = ap length (rest_rows _ c.args.self.now.framed _ n _ c.split_at.ensures.back _ c.split_at.ensures.front) in search rules
