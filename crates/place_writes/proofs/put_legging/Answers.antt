-- `place_writes::put_legging` meets its contract.
use mathlib.Core.Path.{◌≡◌}
use Prim.Native.Nat.{suc, ◌+◌, ◌*◌}
use native.Mathlib.Omega.{arith}
use Rattle.place_writes.proofs.Stores.{put-legging}
use Rattle.places.specs.Offsets.{legging_parent_at, legging_price_at, legging_quantity_at}
use Rattle.place_writes.proofs.put_legging.Goals as goal

-- each clause by its name
each : {A B : Type 0} → A × B → record { numbers_after : A; counts : B }
each h = record { numbers_after = h.0; counts = h.1 }

pub returns : goal.returns
returns c = let n = c.args.n in
    let p1 : 3 * n + legging_price_at ≡ suc (3 * n + legging_parent_at) = omega arith in
    let p2 : 3 * n + legging_quantity_at ≡ suc (suc (3 * n + legging_parent_at)) = omega arith in
    each (rw (p1, p2) (put-legging c.args.numbers.now n c.less-rest.result c.weight.result c.weight-2.result
    c.legging_at-old.result c.args.l c.told-numbers c.requires
    c.legging_at-old.ensures c.less-rest.ensures c.weight.ensures.0 c.weight-2.ensures.0))
