-- `set_check::kind_of` meets its contract.
use Rattle.rules.specs.Bytes.{kind_field}
use Rattle.set_check.proofs.kind_of.Goals as goal

pub returns : goal.returns
unfolding kind_field
returns c = c.u16_at.ensures
