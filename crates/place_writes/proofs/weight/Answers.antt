-- `place_writes::weight` meets its contract.
use Rattle.places.proofs.Masks.{weight-free, weight-held}
use Rattle.place_writes.proofs.weight.Goals as goal

pub returns-then-l-eq0 : goal.returns-then-l-eq0
returns-then-l-eq0 c = weight-free c.args.n c.args.l c.if-l-eq0.true

pub returns : goal.returns
returns c = weight-held c.args.n c.args.l c.requires c.if-l-eq0.false
