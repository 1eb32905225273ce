-- `matching::at_once` meets its contract.
use Rattle.matching.proofs.TurnsLaws.{once-reserve, once-size}
use Rattle.matching.proofs.at_once.Goals as goal

pub returns-then-size-eq0 : goal.returns-then-size-eq0
returns-then-size-eq0 c = once-reserve _ _ c.shown_size-size.ensures c.if-size-eq0.true

pub returns : goal.returns
returns c = once-size _ _ c.shown_size-size.ensures c.if-size-eq0.false
