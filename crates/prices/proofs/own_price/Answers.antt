-- `prices::own_price` meets its contract.
use mathlib.Core.Path.{ap, ◌∙◌}
use Rattle.rules.specs.Words.{place_of}
use Rattle.rules.specs.Prices.{own_price}
use Rattle.places.proofs.Parts.{legging-read}
use borrow.Author.Rules.{rules}
use Rattle.prices.proofs.own_price.Goals as goal

pub legging_at-requires : goal.legging_at-requires
unfolding place_of
legging_at-requires c = search rules

pub returns : goal.returns
returns c =
    c.own_price_of.ensures
    ∙ ap own_price (legging-read _ _ _ _ c.legging_at.result (search rules) (search rules) c.place_of.ensures c.legging_at.ensures)
