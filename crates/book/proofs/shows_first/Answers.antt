-- `book::shows_first` meets its contract.
use Rattle.book.proofs.PicksLaws.{shown-alone, shown-after, shown-neither, shown-both}
use Rattle.book.proofs.shows_first.Goals as goal

pub returns-then-shown_size-eq0-2 : goal.returns-then-shown_size-eq0-2
returns-then-shown_size-eq0-2 c = shown-neither _ _ _ _ c.shown_size-then-shown_size-eq0.ensures c.shown_size.ensures
    c.if-shown_size-eq0-2.true c.if-shown_size-eq0.true

pub returns-then-shown_size-eq0 : goal.returns-then-shown_size-eq0
returns-then-shown_size-eq0 c = shown-alone _ _ _ _ c.shown_size-then-shown_size-eq0.ensures c.shown_size.ensures c.if-shown_size-eq0-2.false c.if-shown_size-eq0.true

pub returns-then-shown_size-eq0-3 : goal.returns-then-shown_size-eq0-3
returns-then-shown_size-eq0-3 c = shown-after _ _ _ _ c.shown_size-2.ensures c.shown_size.ensures c.if-shown_size-eq0-3.true c.if-shown_size-eq0.false

pub returns : goal.returns
returns c = shown-both _ _ _ _ c.shown_size-2.ensures c.shown_size.ensures
    c.if-shown_size-eq0-3.false c.if-shown_size-eq0.false
