-- `prices::in_band` meets its contract.
use Rattle.levels.proofs.Sides.{first-best, second-best}
use Rattle.prices.proofs.Prices.{band-none1, band-none2, band-near}
use Rattle.places.specs.Layout.{venue_of}
use Rattle.rules.proofs.Machine.{back}
use Rattle.prices.proofs.in_band.Goals as goal

pub market_best-first-requires : goal.market_best-first-requires
market_best-first-requires c =
    let a = c.args in record {
      best = first-best (venue_of a.numbers.now) a.taken a.c c.requires.taken _
          c.opposite_of.ensures;
      series = c.requires.legs.first;
    }

pub returns-then-first-eq0 : goal.returns-then-first-eq0
returns-then-first-eq0 c = band-none1 _ c.args.c _ _ c.market_best-first.ensures c.opposite_of.ensures _ c.if-first-eq0.true

pub market_best-second-requires : goal.market_best-second-requires
market_best-second-requires c =
    let a = c.args in record {
      best = second-best (venue_of a.numbers.now) a.taken a.c
          c.requires.taken _ c.opposite_of-2.ensures;
      series = c.requires.legs.second;
    }

pub returns-then-second-eq0 : goal.returns-then-second-eq0
returns-then-second-eq0 c =
    band-none2 _ c.args.c _ _
    c.market_best-first.ensures c.opposite_of.ensures
    c.if-first-eq0.false _ _
    c.market_best-second.ensures c.opposite_of-2.ensures _ c.if-second-eq0.true

pub returns : goal.returns
returns c =
    let a = c.args in
    let u = c.net_of-o in
    band-near _ a.c _ _ c.market_best-first.ensures
    c.opposite_of.ensures
    c.if-first-eq0.false _ _
    c.market_best-second.ensures c.opposite_of-2.ensures
    c.if-second-eq0.false _ _ _ _ _ _ c.figure_at.ensures
    (back {z = u.result} (record { sfits = u.type_inv })) u.ensures.0
    (back {z = a.t} c.ranges.t)
    c.near_net.ensures
