-- `refusals::rests` meets its contract.
use mathlib.Core.Path.{sym, ap, ◌∙◌}
use mathlib.Core.Bool.{Bool, ◌||◌}
use Rattle.std.specs.Prelude.{is_some}
use Rattle.rules.specs.Complex.{rests_complex}
use Rattle.places.specs.Layout.{venue_of}
use Rattle.book.proofs.FirstPlace.{regular-found}
use Rattle.refusals.proofs.rests.Goals as goal

pub returns-then-is_some : goal.returns-then-is_some
returns-then-is_some c =
    ap (λ (t : Bool). t || rests_complex (venue_of c.args.numbers.now) c.args.id)
    (sym c.if-is_some.true ∙ c.is_some.ensures ∙ ap is_some c.regular_place.ensures ∙ regular-found _ _)

pub returns : goal.returns
returns c =
    c.complex_rests.ensures
    ∙ ap (λ (t : Bool). t || rests_complex (venue_of c.args.numbers.now) c.args.id)
    (sym c.if-is_some.false ∙ c.is_some.ensures ∙ ap is_some c.regular_place.ensures ∙ regular-found _ _)
