-- `places::generation_at` meets its contract.
use Rattle.places.proofs.Generations.{generation-is}
use Rattle.places.proofs.generation_at.Goals as goal

pub returns : goal.returns
returns c = generation-is _ _ _ c.requires.series c.requires.generation
