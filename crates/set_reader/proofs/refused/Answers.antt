-- `set_reader::refused` meets its contract.
use Rattle.sets.specs.Set.{not_read}
use Rattle.set_reader.proofs.refused.Goals as goal

pub returns : goal.returns
unfolding not_read
returns c = rw c.fresh.ensures
