-- `book::is_met` meets its contract.
use Rattle.book.proofs.PicksLaws.{met-none, met-aside, met-own, met-reached}
use Rattle.book.proofs.is_met.Goals as goal

pub returns-then-m-eq0 : goal.returns-then-m-eq0
returns-then-m-eq0 c = met-none _ _ _ _ c.if-m-eq0.true

pub returns-then-m-series : goal.returns-then-m-series
returns-then-m-series c = met-aside _ _ _ _ c.if-m-eq0.false c.if-m-series.true

pub returns-then-m-opposite_of : goal.returns-then-m-opposite_of
returns-then-m-opposite_of c = met-own _ _ _ _ c.if-m-eq0.false c.if-m-series.false _ c.opposite_of.ensures c.if-m-opposite_of.true

pub returns : goal.returns
returns c = met-reached _ _ _ _ c.if-m-eq0.false c.if-m-series.false _
    c.opposite_of.ensures c.if-m-opposite_of.false _ c.reaches_price.ensures
