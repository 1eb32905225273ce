-- `told` of an edition meets its contract.
use native.Mathlib.Omega.{arith}
use borrow.Author.Tests.{eq-eqb, ne_eqb}
use Rattle.rules.specs.Bytes.{kind_field}
use Rattle.sets.specs.Set.{edition_told}
use Rattle.set_tables.proofs.EditionTold.told.Goals as goal

pub returns-then-kind_of-eq8 : goal.returns-then-kind_of-eq8
unfolding edition_told
returns-then-kind_of-eq8 c = rw (
  eq-eqb (kind_field c.args.r.now) 8 (omega arith),
  c.u32_at.ensures,
  c.u32_at-then-kind_of-eq8.ensures,
  c.u8_at.ensures,
)

pub returns : goal.returns
unfolding edition_told
returns c = rw (
  ne_eqb (kind_field c.args.r.now) 8 (λ e. omega arith),
  c.u32_at-2.ensures,
  c.u32_at-3.ensures,
  c.u8_at-2.ensures,
  c.u8_at-3.ensures,
)
