-- `place_writes::fill_regular` meets its contract.
use native.Mathlib.Omega.{arith}
use lib.ListN.{length-set}
use Rattle.places.specs.Layout.{regulars_used}
use Rattle.place_writes.proofs.Stores.{regular-stays, regular-hides, regular-leaves}
use Rattle.place_writes.proofs.fill_regular.Goals as goal

-- each clause by its name
each : {A B : Type 0} → A × B → record { numbers_after : A; beside : B }
each h = record { numbers_after = h.0; beside = h.1 }

pub overflow_mul-q : goal.overflow_mul-q
unfolding regulars_used
overflow_mul-q c = record { fits = omega arith }

pub overflow_add-q : goal.overflow_add-q
unfolding regulars_used
overflow_add-q c = record { fits = omega arith }

pub offset_bounds-numbers-i : goal.offset_bounds-numbers-i
unfolding regulars_used
offset_bounds-numbers-i c = record { fits = omega arith }

pub bounds-numbers-i : goal.bounds-numbers-i
unfolding regulars_used
bounds-numbers-i c = omega arith

pub overflow_mul-numbers : goal.overflow_mul-numbers
unfolding regulars_used
overflow_mul-numbers c = record { fits = omega arith }

pub overflow_add-numbers : goal.overflow_add-numbers
unfolding regulars_used
overflow_add-numbers c = record { fits = omega arith }

pub offset_bounds-numbers-i-2 : goal.offset_bounds-numbers-i-2
unfolding regulars_used
offset_bounds-numbers-i-2 c = record { fits = omega arith }

pub bounds-numbers-i-2 : goal.bounds-numbers-i-2
unfolding regulars_used
bounds-numbers-i-2 c = omega arith

pub lower-requires : goal.lower-requires
unfolding regulars_used
lower-requires c = (simp length-set (omega arith), omega arith)

pub returns-then-q-k : goal.returns-then-q-k
returns-then-q-k c = each (regular-leaves c.args.numbers.now c.args.i c.args.k c.less.result c.told-numbers c.requires c.less.ensures
    c.if-q-k.true _ c.lower.ensures)

pub overflow_mul-i : goal.overflow_mul-i
unfolding regulars_used
overflow_mul-i c = record { fits = omega arith }

pub overflow_add-i : goal.overflow_add-i
unfolding regulars_used
overflow_add-i c = record { fits = omega arith }

pub offset_bounds-numbers-i-3 : goal.offset_bounds-numbers-i-3
unfolding regulars_used
offset_bounds-numbers-i-3 c = record { fits = omega arith }

pub bounds-numbers-i-3 : goal.bounds-numbers-i-3
unfolding regulars_used
bounds-numbers-i-3 c = omega arith

pub returns-then-numbers-i-eq0 : goal.returns-then-numbers-i-eq0
returns-then-numbers-i-eq0 c = each (regular-stays c.args.numbers.now c.args.i c.args.k c.less.result c.told-numbers c.requires c.less.ensures (omega arith) c.if-numbers-i-eq0.true)

pub returns : goal.returns
returns c = each (regular-hides c.args.numbers.now c.args.i c.args.k c.less.result c.told-numbers c.requires c.less.ensures (omega arith))
