-- `told` of a complex order meets its contract.
use native.Mathlib.Omega.{arith}
use borrow.Author.Tests.{eq-eqb, ne_eqb}
use Rattle.rules.specs.Bytes.{kind_field}
use Rattle.set_check.proofs.Fronts.{complex-long}
use Rattle.sets.specs.Set.{complex_told}
use Rattle.set_tables.proofs.ComplexTold.told.Goals as goal

pub two_leg_at-requires : goal.two_leg_at-requires
two_leg_at-requires c = complex-long _ c.requires.whole c.requires.tells

pub returns-then-kind_of-eq10 : goal.returns-then-kind_of-eq10
unfolding complex_told
returns-then-kind_of-eq10 c = rw (
  eq-eqb (kind_field c.args.r.now) 10 (omega arith),
  ← c.u8_at.ensures,
  ← c.u8_at-then-kind_of-eq10.ensures,
) c.two_leg_at.ensures

pub two_leg_at-requires-2 : goal.two_leg_at-requires-2
two_leg_at-requires-2 c = complex-long _ c.requires.whole c.requires.tells

pub returns : goal.returns
unfolding complex_told
returns c = rw (ne_eqb (kind_field c.args.r.now) 10 (λ e. omega arith)) c.two_leg_at-2.ensures
