use mathlib.Core.Path.{sym, ◌∙◌}
use native.Mathlib.Omega.{arith}
use Rattle.rules.specs.Words.{is_id, is_series, is_side}
use Rattle.rules.specs.Refusals.{regular_in_range}
use Rattle.rules.proofs.Tests.{and-false}
use Rattle.rules.proofs.Ranges.{below, above}
use Rattle.wire.proofs.Decoding.{regular-shown}
use Rattle.wire.proofs.regular_in_range.Goals as goal

pub returns-then-o-eq0 : goal.returns-then-o-eq0
unfolding regular_in_range is_id
returns-then-o-eq0 c = let o = c.args.o in rw (below 1 4294967295 o.id (omega arith))

pub returns-then-o-gt7 : goal.returns-then-o-gt7
unfolding regular_in_range is_series
returns-then-o-gt7 c = let o = c.args.o in simp (above 0 7 o.series c.if-o-gt7.true, and-false)

pub returns-then-o-gt1 : goal.returns-then-o-gt1
unfolding regular_in_range is_side
returns-then-o-gt1 c = let o = c.args.o in simp (above 0 1 o.side c.if-o-gt1.true, and-false)

pub returns-then-not-is_price : goal.returns-then-not-is_price
unfolding regular_in_range
returns-then-not-is_price c = simp (sym c.is_price.ensures ∙ c.if-not-is_price.true, and-false)

pub returns-then-not-is_quantity : goal.returns-then-not-is_quantity
unfolding regular_in_range
returns-then-not-is_quantity c = simp (sym c.is_quantity.ensures ∙ c.if-not-is_quantity.true, and-false)

pub returns-then-o-eq0-2 : goal.returns-then-o-eq0-2
unfolding regular_in_range
returns-then-o-eq0-2 c = let o = c.args.o in simp (below 1 o.quantity o.display (omega arith), and-false)

pub returns : goal.returns
returns c =
    let o = c.args.o in
    let p = sym c.is_price.ensures ∙ c.if-not-is_price.false in
    let q = sym c.is_quantity.ensures ∙ c.if-not-is_quantity.false in
    regular-shown o (omega arith) (omega arith) (omega arith) (omega arith) p q (omega arith)
