-- `c_api::legging_settings` meets its contract.
use native.Mathlib.Omega.{arith}
use Rattle.c_api.proofs.SettingsTold.{told_none, told-short, told-all}
use Rattle.c_api.proofs.legging_settings.Goals as goal

pub returns-then-venue-ne-VENUE_SIZE : goal.returns-then-venue-ne-VENUE_SIZE
returns-then-venue-ne-VENUE_SIZE c = told_none c.args.venue.now c.args.number
    c.args.settings.now _ c.zero_from.ensures c.if-venue-ne-VENUE_SIZE.true

pub returns-then-settings-lt9 : goal.returns-then-settings-lt9
returns-then-settings-lt9 c = told-short c.args.venue.now c.args.number
    c.args.settings.now _ c.zero_from.ensures c.if-venue-ne-VENUE_SIZE.false c.if-settings-lt9.true

pub returns : goal.returns
returns c = told-all c.args.venue.now c.args.number c.args.settings.now _
    c.zero_from.ensures
    c.if-venue-ne-VENUE_SIZE.false (omega arith) _
    c.venue_from-given.ensures _ c.settings-s.ensures _
    c.put_settings.ensures
