use native.Mathlib.Omega.{arith}
use Rattle.rules.specs.Words.{is_series, is_side}
use Rattle.rules.proofs.Tests.{and-false}
use Rattle.rules.proofs.Ranges.{above, inside}
use Rattle.wire.proofs.legs_in_range.Goals as goal

pub returns-then-c-gt7 : goal.returns-then-c-gt7
unfolding is_series
returns-then-c-gt7 c = rw (above 0 7 c.args.c.series1 c.if-c-gt7.true)

pub returns-then-c-gt1 : goal.returns-then-c-gt1
unfolding is_side
returns-then-c-gt1 c = simp (above 0 1 c.args.c.side1 c.if-c-gt1.true, and-false)

pub returns-then-c-gt7-2 : goal.returns-then-c-gt7-2
unfolding is_series
returns-then-c-gt7-2 c = simp (above 0 7 c.args.c.series2 c.if-c-gt7-2.true, and-false)

pub returns-then-c-gt1-2 : goal.returns-then-c-gt1-2
unfolding is_side
returns-then-c-gt1-2 c = simp (above 0 1 c.args.c.side2 c.if-c-gt1-2.true, and-false)

pub returns : goal.returns
unfolding is_series is_side
returns c =
    let o = c.args.c in
    rw (
      inside 0 7 o.series1 (omega arith) c.if-c-gt7.false,
      inside 0 1 o.side1 (omega arith) c.if-c-gt1.false,
      inside 0 7 o.series2 (omega arith) c.if-c-gt7-2.false,
      inside 0 1 o.side2 (omega arith) c.if-c-gt1-2.false,
    )
