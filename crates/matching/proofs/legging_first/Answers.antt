-- `matching::legging_first` meets its contract.
use mathlib.Core.Path.{sym, ◌∙◌}
use Rattle.matching.proofs.TurnsLaws.{first-none, first-far, first-near}
use Rattle.matching.proofs.legging_first.Goals as goal

pub returns-then-own-eq0 : goal.returns-then-own-eq0
returns-then-own-eq0 c = first-none _ _ _ _ c.own_price_of-own.ensures c.if-own-eq0.true

pub returns-then-not-reaches_price : goal.returns-then-not-reaches_price
returns-then-not-reaches_price c =
    first-far _ _ _ _ c.own_price_of-own.ensures c.if-own-eq0.false (sym c.reaches_price.ensures ∙ c.if-not-reaches_price.true)

pub returns : goal.returns
returns c =
    first-near _ _ _ _ c.own_price_of-own.ensures _ _ c.if-own-eq0.false (sym c.reaches_price.ensures ∙ c.if-not-reaches_price.false)
    c.opposite_of.ensures c.is_better.ensures
