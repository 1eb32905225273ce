-- `venue_numbers::LeggingPart::put` meets its contract.
use Rattle.rules.specs.Generation.{placed}
use Rattle.venue_numbers.proofs.LeggingPart.put.Goals as goal

pub returns-clause-numbers_after : goal.returns-clause-numbers_after
unfolding placed
returns-clause-numbers_after c = c.put_legging.ensures.numbers_after
