-- `refusals::complex_rests` meets its contract.
use mathlib.Core.Path.{ap, ◌∙◌}
use Rattle.std.specs.Prelude.{is_some}
use Rattle.book.proofs.FirstPlace.{complex-found}
use Rattle.refusals.proofs.complex_rests.Goals as goal

pub returns : goal.returns
returns c = c.is_some.ensures ∙ ap is_some c.complex_place.ensures ∙ complex-found _ _
