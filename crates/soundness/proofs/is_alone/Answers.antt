-- `soundness::is_alone` meets its contract.
use Rattle.places.specs.Layout.{venue_of}
use Rattle.soundness.proofs.Beside.{alone-free, alone-none}
use Rattle.soundness.proofs.is_alone.Goals as goal

pub returns-then-o-eq0 : goal.returns-then-o-eq0
returns-then-o-eq0 c = alone-free (venue_of c.args.numbers.now) c.args.o c.if-o-eq0.true

pub returns : goal.returns
returns c = alone-none (venue_of c.args.numbers.now) c.args.o c.if-o-eq0.false _ c.complex_place.ensures _ c.is_none.ensures
