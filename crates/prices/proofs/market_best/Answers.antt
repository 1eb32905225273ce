-- `prices::market_best` meets its contract.
use Rattle.prices.proofs.Prices.{market-is}
use Rattle.prices.proofs.market_best.Goals as goal

pub returns : goal.returns
returns c = market-is _ _ _ _ c.requires.best _ _ c.away_price-out.ensures c.better_of.ensures
