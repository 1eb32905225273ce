use native.Mathlib.Omega.{arith}
use Rattle.rules.specs.Words.{is_series}
use Rattle.rules.proofs.Ranges.{above, inside}
use Rattle.wire.proofs.increment_in_range.Goals as goal

pub returns-then-series-gt7 : goal.returns-then-series-gt7
unfolding is_series
returns-then-series-gt7 c = rw (above 0 7 c.args.series c.if-series-gt7.true)

pub returns : goal.returns
unfolding is_series
returns c = rw (inside 0 7 c.args.series (omega arith) c.if-series-gt7.false) c.is_increment.ensures
