-- `prices::clear_price` meets its contract.
use Rattle.prices.proofs.Prices.{clear_none, clear-best}
use mathlib.Core.Path.{sym, ◌∙◌}
use Rattle.prices.proofs.clear_price.Goals as goal

pub returns-then-is_better : goal.returns-then-is_better
returns-then-is_better c = clear_none _ _ _ _ c.requires.best _ c.own_price-own.ensures (sym c.is_better.ensures ∙ c.if-is_better.true)

pub returns : goal.returns
returns c = clear-best _ _ _ _ c.requires.best _ c.own_price-own.ensures (sym c.is_better.ensures ∙ c.if-is_better.false)
