-- `venue_numbers::bit` meets its contract.
use Rattle.places.proofs.Masks.{bit-free, bit-held}
use Rattle.venue_numbers.proofs.bit.Goals as goal

pub returns-then-l-eq0 : goal.returns-then-l-eq0
returns-then-l-eq0 c = bit-free _ c.if-l-eq0.true

pub returns : goal.returns
returns c = bit-held _ c.if-l-eq0.false
