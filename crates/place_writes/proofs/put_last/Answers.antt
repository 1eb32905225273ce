-- `place_writes::put_last` meets its contract.
use Rattle.places.proofs.Parts.{stored}
use Rattle.places.proofs.Beside.{counts-kept}
use mathlib.Core.Logic.{inl}
use native.Mathlib.Omega.{arith}
use Rattle.place_writes.proofs.Stores.{put_last}
use Rattle.places.specs.Offsets.{last_id_at}
use Rattle.place_writes.proofs.put_last.Goals as goal

pub returns : goal.returns
returns c = record { numbers_after = put_last c.args.numbers.now c.args.id c.told-numbers; counts = counts-kept (stored c.args.numbers.now last_id_at c.args.id) (omega arith) (omega arith) (inl (omega arith)) }
