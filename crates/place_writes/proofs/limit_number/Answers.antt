-- `place_writes::limit_number` meets its contract.
use Rattle.places.proofs.Limits.{number_is}
use Rattle.place_writes.proofs.limit_number.Goals as goal

pub returns : goal.returns
returns c = number_is c.ranges.x
