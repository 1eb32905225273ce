-- `set_tables::listed_told` meets its contract.
use Rattle.set_tables.specs.Told.{listed_of}
use Rattle.set_tables.proofs.listed_told.Goals as goal

pub returns : goal.returns
unfolding listed_of
returns c = rw (c.u8_at.ensures, c.u32_at.ensures, c.u32_at-2.ensures)
