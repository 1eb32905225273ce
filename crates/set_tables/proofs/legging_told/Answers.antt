-- `set_tables::legging_told` meets its contract.
use Rattle.set_tables.specs.Told.{legging_of}
use Rattle.set_tables.proofs.legging_told.Goals as goal

pub returns : goal.returns
unfolding legging_of
returns c = rw (c.u32_at.ensures, c.u32_at-2.ensures, c.u32_at-3.ensures)
