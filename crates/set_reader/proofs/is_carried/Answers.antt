-- `set_reader::is_carried` meets its contract.
use Rattle.sets.specs.Set.{carries}
use Rattle.set_reader.proofs.is_carried.Goals as goal

pub returns : goal.returns
unfolding carries
returns c = c.load_ready.ensures.answer
