-- `set_check::told_of` meets its contract.
use Rattle.sets.specs.Set.{generation_told}
use Rattle.set_check.proofs.told_of.Goals as goal

pub returns : goal.returns
unfolding generation_told
returns c = c.u32_at.ensures
