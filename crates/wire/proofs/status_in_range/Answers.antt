use native.Mathlib.Omega.{arith}
use Rattle.rules.specs.Words.{is_series, is_status}
use Rattle.rules.proofs.Ranges.{above, inside, within-top}
use Rattle.wire.proofs.status_in_range.Goals as goal

pub returns-then-series-gt7 : goal.returns-then-series-gt7
unfolding is_series
returns-then-series-gt7 c = rw (above 0 7 c.args.series c.if-series-gt7.true)

pub returns : goal.returns
unfolding is_series is_status
returns c = rw (inside 0 7 c.args.series (omega arith) c.if-series-gt7.false) (within-top 0 2 c.args.status (omega arith))
