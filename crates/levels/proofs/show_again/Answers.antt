-- `levels::show_again` meets its contract.
use mathlib.Core.Path.{sym, ◌∙◌}
use Rattle.levels.proofs.LevelsKept.{shown-already, shown-again}
use Rattle.levels.proofs.show_again.Goals as goal

pub returns-then-none_shows_again : goal.returns-then-none_shows_again
returns-then-none_shows_again c = record { numbers_after = (shown-already _ c.requires (sym c.none_shows_again.ensures ∙ c.if-none_shows_again.true)).0; counts = (shown-already _ c.requires (sym c.none_shows_again.ensures ∙ c.if-none_shows_again.true)).1 }

pub returns : goal.returns
returns c = let x = c.show_again.ensures in
    record { numbers_after = (shown-again _ _ _ x.numbers_after x.beside c.make_levels.ensures).0; counts = (shown-again _ _ _ x.numbers_after x.beside c.make_levels.ensures).1 }
