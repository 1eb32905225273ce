-- `prices::status_of` meets its contract.
use mathlib.Core.Path.{ap, ◌∙◌}
use Rattle.places.specs.Layout.{listed_in}
use Rattle.prices.proofs.Prices.{status-is}
use Rattle.places.proofs.Parts.{listed-read}
use Rattle.prices.proofs.status_of.Goals as goal

pub returns : goal.returns
returns c = status-is _ _ c.listed_at-x.result (listed-read _ _ c.listed_at-x.result c.requires (c.listed_at-x.ensures ∙ ap (listed_in c.args.numbers.now) c.from.ensures))
