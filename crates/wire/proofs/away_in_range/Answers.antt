use native.Mathlib.Omega.{arith}
use Rattle.rules.specs.Words.{is_series, is_away}
use Rattle.rules.proofs.Tests.{and-false}
use Rattle.rules.proofs.Ranges.{above, inside, within-top}
use Rattle.wire.proofs.away_in_range.Goals as goal

pub returns-then-series-gt7 : goal.returns-then-series-gt7
unfolding is_series
returns-then-series-gt7 c = rw (above 0 7 c.args.series c.if-series-gt7.true)

pub returns-then-bid-gt100000 : goal.returns-then-bid-gt100000
unfolding is_away
returns-then-bid-gt100000 c = simp (above 0 100000 c.args.bid c.if-bid-gt100000.true, and-false)

pub returns : goal.returns
unfolding is_series is_away
returns c =
    let s = c.args in
    rw (inside 0 7 s.series (omega arith) c.if-series-gt7.false, inside 0 100000 s.bid (omega arith) c.if-bid-gt100000.false)
    (within-top 0 100000 s.offer (omega arith))
