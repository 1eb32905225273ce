-- `book::first_met` meets its contract.
use mathlib.Core.Path.{sym, ◌∙◌}
use Rattle.book.proofs.first_met.Goals as goal

pub first_shown-requires : goal.first_shown-requires
first_shown-requires c = let s = c.requires in
    record { right = s.right; series = s.series; shows = sym c.none_shows_again.ensures ∙ c.if-none_shows_again.true }
