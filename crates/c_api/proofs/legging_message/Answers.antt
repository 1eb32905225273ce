-- `c_api::legging_message` meets its contract.
use native.Mathlib.Omega.{arith}
use Rattle.engine.proofs.HostsLaws.{none-held, left-held, accepted-held}
use Rattle.c_api.proofs.legging_message.Goals as goal

pub returns-then-venue-ne-VENUE_SIZE : goal.returns-then-venue-ne-VENUE_SIZE
returns-then-venue-ne-VENUE_SIZE c = none-held c.args.venue.now c.args.before
    c.args.report.now c.args.message.now _ c.if-venue-ne-VENUE_SIZE.true c.zero_from.ensures

pub returns-then-r-ne0 : goal.returns-then-r-ne0
returns-then-r-ne0 c = let other = c.if-r-ne0.true in left-held c.args.venue.now c.args.before
    c.args.report.now c.args.message.now c.if-venue-ne-VENUE_SIZE.false
    c.venue_from-given.result c.venue_from-given.ensures
    c.one_message-r.result c.one_message-r.new.report c.one_message-r.ensures (λ z. omega arith)

pub returns : goal.returns
returns c = let zero = c.if-r-ne0.false in accepted-held c.args.venue.now c.args.before c.args.report.now
    c.args.message.now c.if-venue-ne-VENUE_SIZE.false
    c.venue_from-given.result
    c.venue_from-given.ensures c.one_message-r.result c.one_message-r.new.report
    c.one_message-r.ensures _ (omega arith) c.put_venue.ensures
