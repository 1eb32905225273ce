-- `levels::load` meets its contract.
use Rattle.levels.proofs.LevelsKept.{loaded-all}
use Rattle.levels.proofs.load.Goals as goal

pub returns : goal.returns
returns c = loaded-all _ _ _ c.requires
    c.load.ensures c.make_levels.ensures
