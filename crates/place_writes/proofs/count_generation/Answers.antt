-- `place_writes::count_generation` meets its contract.
use mathlib.Core.Path.{◌∙◌}
use native.Mathlib.Omega.{arith}
use Rattle.place_writes.proofs.GenerationsPut.{count-generation}
use Rattle.place_writes.proofs.count_generation.Goals as goal

-- each clause by its name
each : {A B : Type 0} → A × B → record { numbers_after : A; counts : B }
each h = record { numbers_after = h.0; counts = h.1 }

pub returns : goal.returns
returns c = each (count-generation c.args.s c.args.number _ _ _ _ c.args.numbers.now _ (c.copy_within.ensures.len ∙ c.told-numbers) (omega arith) (omega arith) (omega arith) (omega arith) (omega arith) c.copy_within.ensures.by_index)
