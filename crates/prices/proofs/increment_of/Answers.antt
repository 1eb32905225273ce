-- `prices::increment_of` meets its contract.
use mathlib.Core.Path.{ap, ◌∙◌}
use Rattle.rules.specs.Settings.{figure_now}
use Rattle.places.specs.Layout.{venue_of}
use Rattle.prices.proofs.Prices.{increment-is}
use Rattle.prices.proofs.increment_of.Goals as goal

pub returns : goal.returns
returns c = increment-is _ _ _ c.requires.figures c.requires.series (c.figure_at.ensures ∙ ap (figure_now (venue_of c.args.numbers.now)) c.from.ensures)
