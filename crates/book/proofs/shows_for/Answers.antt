-- `book::shows_for` meets its contract.
use Rattle.book.proofs.PicksLaws.{shows-none, shows-aside, shows-facing, shows-price}
use Rattle.book.proofs.shows_for.Goals as goal

pub returns-then-shown_size-eq0 : goal.returns-then-shown_size-eq0
returns-then-shown_size-eq0 c = shows-none _ _ _ _ _ c.shown_size.ensures c.if-shown_size-eq0.true

pub returns-then-o-series : goal.returns-then-o-series
returns-then-o-series c = shows-aside _ _ _ _ _ c.shown_size.ensures c.if-shown_size-eq0.false c.if-o-series.true

pub returns-then-o-side : goal.returns-then-o-side
returns-then-o-side c = shows-facing _ _ _ _ _ c.shown_size.ensures c.if-shown_size-eq0.false c.if-o-series.false c.if-o-side.true

pub returns : goal.returns
returns c = shows-price _ _ _ _ _ c.shown_size.ensures
    c.if-shown_size-eq0.false c.if-o-series.false c.if-o-side.false
