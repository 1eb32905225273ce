-- `c_api::legging_write_set` meets its contract.
use mathlib.Core.Path.{ap, ◌∙◌}
use Prim.Native.Nat.{ℕ}
use native.Mathlib.Omega.{arith}
use Rattle.engine.specs.Hosts.{saves_as}
use Rattle.c_api.proofs.SetCarried.{saved-few, saves-none, saves-short, saves-all, none_counted}
use Rattle.c_api.proofs.legging_write_set.Goals as goal

pub returns-then-venue-ne-VENUE_SIZE : goal.returns-then-venue-ne-VENUE_SIZE
returns-then-venue-ne-VENUE_SIZE c = saves-none c.args.venue.now c.args.number c.args.set.now _ c.args.written.now _
    c.zero_from.ensures c.zero_from-2.ensures c.if-venue-ne-VENUE_SIZE.true

pub returns-then-written-ne4 : goal.returns-then-written-ne4
returns-then-written-ne4 c = saves-short c.args.venue.now c.args.number c.args.set.now _ c.args.written.now _
    c.zero_from.ensures c.zero_from-2.ensures
    c.if-venue-ne-VENUE_SIZE.false c.if-written-ne4.true

pub overflow_cast-size : goal.overflow_cast-size
overflow_cast-size c = let few = saved-few c.args.venue.now c.args.number _ _
    c.venue_from-given.ensures _ c.in-Ok.ensures in
    record { fits = omega arith }

pub returns-in-Ok : goal.returns-in-Ok
returns-in-Ok c = saves-all c.args.venue.now c.args.number c.args.set.now _
    c.args.written.now _
    c.zero_from.ensures c.zero_from-2.ensures c.if-venue-ne-VENUE_SIZE.false
    c.if-written-ne4.false _
    c.venue_from-given.ensures
    _ c.in-Ok.ensures _ c.put_number.ensures

pub returns-in-Err : goal.returns-in-Err
returns-in-Err c = ap (λ (x : ℕ). saves_as x c.write_set.new.memory c.zero_from-2.new.out) c.number.ensures
    ∙ saves-all c.args.venue.now c.args.number c.args.set.now _
    c.args.written.now _
    c.zero_from.ensures c.zero_from-2.ensures c.if-venue-ne-VENUE_SIZE.false
    c.if-written-ne4.false _
    c.venue_from-given.ensures
    _ c.in-Err.ensures _
    (none_counted c.args.venue.now c.args.number c.args.set.now _ c.args.written.now _
    c.zero_from.ensures c.zero_from-2.ensures c.if-venue-ne-VENUE_SIZE.false c.if-written-ne4.false)
