-- `soundness::on_increment` meets its contract.
use mathlib.Core.Path.{◌∙◌}
use Rattle.places.specs.Layout.{venue_of}
use Rattle.soundness.proofs.Beside.{priced-free, priced-held}
use Rattle.soundness.proofs.on_increment.Goals as goal

pub returns-then-o-eq0 : goal.returns-then-o-eq0
returns-then-o-eq0 c = priced-free (venue_of c.args.numbers.now) c.args.o c.if-o-eq0.true

pub returns : goal.returns
returns c = priced-held (venue_of c.args.numbers.now) c.args.o _ c.if-o-eq0.false
    (c.from.ensures ∙ c.increment_of-increment.ensures.0)
