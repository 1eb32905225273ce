-- `place_writes::put_reached` meets its contract.
use Rattle.place_writes.proofs.GenerationsPut.{put-reached}
use Rattle.place_writes.proofs.put_reached.Goals as goal

-- each clause by its name
each : {A B : Type 0} → A × B → record { numbers_after : A; counts : B }
each h = record { numbers_after = h.0; counts = h.1 }

pub returns : goal.returns
returns c = each (put-reached _ _ c.told-numbers)
