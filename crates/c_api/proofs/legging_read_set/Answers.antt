-- `c_api::legging_read_set` meets its contract.
use Rattle.c_api.proofs.SetCarried.{reads_none, reads_short, reads_all}
use Rattle.c_api.proofs.legging_read_set.Goals as goal

pub returns-then-venue-ne-VENUE_SIZE : goal.returns-then-venue-ne-VENUE_SIZE
returns-then-venue-ne-VENUE_SIZE c = reads_none c.args.set.now c.args.venue.now
    c.args.number.now _ c.zero_from.ensures c.if-venue-ne-VENUE_SIZE.true

pub returns-then-number-ne4 : goal.returns-then-number-ne4
returns-then-number-ne4 c = reads_short c.args.set.now c.args.venue.now c.args.number.now _
    c.zero_from.ensures
    c.if-venue-ne-VENUE_SIZE.false c.read_for-r.result
    c.read_for-r.ensures _ c.put_venue.ensures c.if-number-ne4.true

pub returns : goal.returns
returns c = reads_all c.args.set.now c.args.venue.now c.args.number.now _
    c.zero_from.ensures
    c.if-venue-ne-VENUE_SIZE.false
    c.read_for-r.result
    c.read_for-r.ensures _
    c.put_venue.ensures c.if-number-ne4.false _
    c.put_number.ensures
