-- `venue_numbers::count_beside` meets its contract.
use mathlib.Core.Path.{◌∙◌}
use native.Mathlib.Omega.{arith}
use Rattle.venue_numbers.proofs.Loaded.{beside-counted}
use Rattle.venue_numbers.proofs.count_beside.Goals as goal

pub returns : goal.returns
returns c = beside-counted _ _ _ c.told-numbers (c.from.ensures ∙ c.count_mask-mask.ensures) (omega arith) c.count_figures.ensures
