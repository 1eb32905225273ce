-- `place_writes::add_complex` meets its contract.
use Rattle.place_writes.proofs.Stores.{added-complex}
use lib.ListN.{length-set}
use native.Mathlib.Omega.{arith}
use Rattle.place_writes.proofs.add_complex.Goals as goal

-- each clause by its name
each : {A B : Type 0} → A × B → record { numbers_after : A; counts : B }
each h = record { numbers_after = h.0; counts = h.1 }

pub lower-requires : goal.lower-requires
lower-requires c = (simp length-set (omega arith), omega arith)

pub returns : goal.returns
returns c = each (added-complex c.args.numbers.now _ _ _ c.args.c c.told-numbers c.requires.room c.requires.first c.requires.side1 c.requires.second c.requires.side2 c.write_complex.ensures.1
    c.complexes_used-n.ensures.0 c.write_complex.ensures.0 c.lower.ensures)
