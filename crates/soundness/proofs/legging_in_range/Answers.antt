-- `soundness::legging_in_range` meets its contract.
use mathlib.Core.Path.{sym, ◌∙◌}
use native.Mathlib.Omega.{arith}
use Rattle.rules.specs.Words.{is_id, is_price, is_quantity}
use Rattle.soundness.specs.Checked.{legging_in_range}
use Rattle.rules.proofs.Ranges.{below, inside}
use Rattle.sound_places.proofs.Passes.{second-fails, last-decides}
use Rattle.soundness.proofs.legging_in_range.Goals as goal

pub returns-then-l-eq0 : goal.returns-then-l-eq0
unfolding legging_in_range is_id
returns-then-l-eq0 c = let l = c.args.l in rw (below 1 4294967295 l.parent (omega arith))

pub returns-then-not-is_price : goal.returns-then-not-is_price
unfolding legging_in_range
returns-then-not-is_price c = let l = c.args.l in
    second-fails (is_id l.parent) (is_price l.price) (is_quantity l.quantity) (sym c.is_price.ensures ∙ c.if-not-is_price.true)

pub returns : goal.returns
unfolding legging_in_range is_id
returns c = let l = c.args.l in
    c.is_quantity.ensures
    ∙ last-decides (is_id l.parent) (is_price l.price) (is_quantity l.quantity) (inside 1 4294967295 l.parent (omega arith) (omega arith))
    (sym c.is_price.ensures ∙ c.if-not-is_price.false)
