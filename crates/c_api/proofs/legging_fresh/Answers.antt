-- `c_api::legging_fresh` meets its contract.
use Rattle.engine.proofs.HostsLaws.{none_first, fresh-first}
use Rattle.c_api.proofs.legging_fresh.Goals as goal

pub returns-then-venue-ne-VENUE_SIZE : goal.returns-then-venue-ne-VENUE_SIZE
returns-then-venue-ne-VENUE_SIZE c = none_first _ c.if-venue-ne-VENUE_SIZE.true

pub returns : goal.returns
returns c = fresh-first _ _ c.fresh-fresh.result c.if-venue-ne-VENUE_SIZE.false
    c.fresh-fresh.ensures c.put_venue.ensures
