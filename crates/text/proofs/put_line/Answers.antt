use mathlib.Core.Path.{sym, ◌∙◌}
use native.Mathlib.Omega.{arith}
use borrow.Author.Tests.{ne_eqb}
use Rattle.rules.specs.Bytes.{u16_at, kind_field}
use Rattle.rules.specs.Records.{record_of}
use Rattle.text.proofs.put_line.Goals as goal

pub returns-in-64 : goal.returns-in-64
unfolding record_of kind_field
returns-in-64 c = rw (sym c.u16_at.ensures ∙ c.in-64.is) c.put_answer.ensures

pub returns-in-65 : goal.returns-in-65
unfolding record_of kind_field
returns-in-65 c = rw (sym c.u16_at.ensures ∙ c.in-65.is) c.put_trade.ensures

pub returns-in-66 : goal.returns-in-66
unfolding record_of kind_field
returns-in-66 c = rw (sym c.u16_at.ensures ∙ c.in-66.is) c.put_pair.ensures

pub returns-in-67 : goal.returns-in-67
unfolding record_of kind_field
returns-in-67 c = rw (sym c.u16_at.ensures ∙ c.in-67.is) c.put_generated.ensures

pub returns-in-68 : goal.returns-in-68
unfolding record_of kind_field
returns-in-68 c = rw (sym c.u16_at.ensures
    ∙ c.in-68.is) c.put_removed.ensures

pub returns-in-70 : goal.returns-in-70
unfolding record_of kind_field
returns-in-70 c = rw (sym c.u16_at.ensures
    ∙ c.in-70.is) c.put_crossed.ensures

pub returns-in-71 : goal.returns-in-71
unfolding record_of kind_field
returns-in-71 c = rw (sym c.u16_at.ensures
    ∙ c.in-71.is) c.put_cancelled.ensures

pub returns-in_default : goal.returns-in_default
unfolding record_of kind_field
returns-in_default c =
    let s = c.args.s.now in
    let k = c.u16_at.ensures in
    rw (
      ne_eqb (u16_at s 2) 64 (λ e. omega arith),
      ne_eqb (u16_at s 2) 65 (λ e. omega arith),
      ne_eqb (u16_at s 2) 66 (λ e. omega arith),
      ne_eqb (u16_at s 2) 67 (λ e. omega arith),
      ne_eqb (u16_at s 2) 68 (λ e. omega arith),
      ne_eqb (u16_at s 2) 70 (λ e. omega arith),
      ne_eqb (u16_at s 2) 71 (λ e. omega arith),
    ) c.put_looked.ensures
