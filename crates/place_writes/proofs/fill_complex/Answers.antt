-- `place_writes::fill_complex` meets its contract.
use native.Mathlib.Omega.{arith}
use lib.ListN.{length-set}
use Rattle.places.specs.Layout.{complexes_used}
use Rattle.place_writes.proofs.Stores.{complex-stays, complex-leaves}
use Rattle.place_writes.proofs.fill_complex.Goals as goal

-- each clause by its name
each : {A B : Type 0} → A × B → record { numbers_after : A; counts : B }
each h = record { numbers_after = h.0; counts = h.1 }

pub overflow_mul-q : goal.overflow_mul-q
unfolding complexes_used
overflow_mul-q c = record { fits = omega arith }

pub overflow_add-q : goal.overflow_add-q
unfolding complexes_used
overflow_add-q c = record { fits = omega arith }

pub offset_bounds-numbers-i : goal.offset_bounds-numbers-i
unfolding complexes_used
offset_bounds-numbers-i c = record { fits = omega arith }

pub bounds-numbers-i : goal.bounds-numbers-i
unfolding complexes_used
bounds-numbers-i c = omega arith

pub overflow_mul-numbers : goal.overflow_mul-numbers
unfolding complexes_used
overflow_mul-numbers c = record { fits = omega arith }

pub overflow_add-numbers : goal.overflow_add-numbers
unfolding complexes_used
overflow_add-numbers c = record { fits = omega arith }

pub offset_bounds-numbers-i-2 : goal.offset_bounds-numbers-i-2
unfolding complexes_used
offset_bounds-numbers-i-2 c = record { fits = omega arith }

pub bounds-numbers-i-2 : goal.bounds-numbers-i-2
unfolding complexes_used
bounds-numbers-i-2 c = omega arith

pub returns-then-k-q : goal.returns-then-k-q
returns-then-k-q c = each (complex-stays c.args.numbers.now c.args.i c.args.k c.less.result c.told-numbers c.requires c.less.ensures c.if-k-q.true)

pub lower-requires : goal.lower-requires
unfolding complexes_used
lower-requires c = (simp length-set (omega arith), omega arith)

pub returns : goal.returns
returns c = each (complex-leaves c.args.numbers.now c.args.i c.args.k c.less.result c.told-numbers c.requires c.less.ensures _ c.lower.ensures)
