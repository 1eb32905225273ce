-- `levels::best_regular` meets its contract.
use Rattle.places.specs.Layout.{venue_of}
use Rattle.levels.proofs.Sides.{level-price}
use Rattle.levels.proofs.LevelsKept.{place-low, level-read}
use Rattle.levels.proofs.best_regular.Goals as goal

pub level_at-l-requires : goal.level_at-l-requires
level_at-l-requires c = let p = c.requires in place-low _ _ _ p.series p.side c.place_of.ensures

pub returns : goal.returns
returns c = level-price (venue_of c.args.numbers.now) c.args.s c.args.d _
    (level-read c.args.numbers.now c.args.s c.args.d _ _ c.requires.right c.requires.series c.requires.side c.place_of.ensures
    c.level_at-l.ensures)
