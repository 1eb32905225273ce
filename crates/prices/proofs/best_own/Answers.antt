-- `prices::best_own` meets its contract.
use Rattle.prices.proofs.Prices.{own-best}
use Rattle.prices.proofs.best_own.Goals as goal

pub returns : goal.returns
returns c = own-best _ _ _ _ c.requires.best _ c.own_price-own.ensures _ c.better_of.ensures
