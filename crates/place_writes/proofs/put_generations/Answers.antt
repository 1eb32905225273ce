-- `place_writes::put_generations` meets its contract.
use native.Mathlib.Omega.{arith}
use borrow.Author.Rules.{rules}
use Rattle.place_writes.proofs.GenerationsPut.{put-generations}
use Rattle.place_writes.proofs.put_generations.Goals as goal

-- each clause by its name
each : {A B : Type 0} → A × B → record { numbers_after : A; counts : B }
each h = record { numbers_after = h.0; counts = h.1 }

pub returns : goal.returns
returns c = each (put-generations _ _ _ _ c.args.g c.told-numbers (omega arith) (search rules) (omega arith) c.copy_from_slice.ensures.after)
