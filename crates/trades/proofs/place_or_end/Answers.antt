-- `trades::place_or_end` meets its contract.
use mathlib.Core.Path.{◌∙◌}
use Rattle.trades.proofs.HitsLaws.{place_end}
use Rattle.trades.proofs.place_or_end.Goals as goal

pub returns : goal.returns
returns c = c.unwrap_or.ensures ∙ place_end c.args.numbers.now c.args.id _ c.complex_place.ensures
