-- `prices::away_price` meets its contract.
use mathlib.Core.Path.{ap, ◌∙◌}
use Rattle.places.specs.Layout.{listed_in}
use Rattle.prices.proofs.Prices.{away-bid, away-offer}
use Rattle.places.proofs.Parts.{listed-read}
use Rattle.prices.proofs.away_price.Goals as goal

pub returns-then-d-eq0 : goal.returns-then-d-eq0
returns-then-d-eq0 c =
    away-bid _ _ _ c.listed_at-x.result (listed-read _ _ c.listed_at-x.result c.requires (c.listed_at-x.ensures ∙ ap (listed_in c.args.numbers.now) c.from.ensures)) c.if-d-eq0.true

pub returns : goal.returns
returns c =
    away-offer _ _ _ c.listed_at-x.result (listed-read _ _ c.listed_at-x.result c.requires (c.listed_at-x.ensures ∙ ap (listed_in c.args.numbers.now) c.from.ensures)) c.if-d-eq0.false
