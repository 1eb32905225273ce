-- `place_writes::add_regular` meets its contract.
use Rattle.place_writes.proofs.Stores.{added-regular}
use lib.ListN.{length-set}
use native.Mathlib.Omega.{arith}
use Rattle.place_writes.proofs.add_regular.Goals as goal

-- each clause by its name
each : {A B : Type 0} → A × B → record { numbers_after : A; beside : B }
each h = record { numbers_after = h.0; beside = h.1 }

pub lower-requires : goal.lower-requires
lower-requires c = (simp length-set (omega arith), omega arith)

pub returns : goal.returns
returns c = each (added-regular c.args.numbers.now _ _ _ c.args.o c.told-numbers c.requires.room c.requires.series c.requires.side c.requires.display c.requires.fully
    c.regulars_used-n.ensures.0
    c.write_regular.ensures c.lower.ensures)
