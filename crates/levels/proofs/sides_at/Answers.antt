-- `levels::sides_at` meets its contract.
use mathlib.Core.Path.{ap, ◌∙◌}
use Rattle.rules.specs.Prices.{best_regular}
use Rattle.places.specs.Layout.{venue_of}
use Rattle.levels.proofs.Sides.{opposite-side}
use Rattle.levels.proofs.sides_at.Goals as goal

pub best_regular-facing-requires : goal.best_regular-facing-requires
best_regular-facing-requires c = let p = c.requires in
    record { right = p.right; series = p.series; side = opposite-side _ _ c.opposite_of.ensures }

pub returns : goal.returns
unfolding best_regular
returns c = let k = c.args in
    record {
      own = c.best_regular-own.ensures;
      facing = c.best_regular-facing.ensures
          ∙ ap (best_regular (venue_of k.numbers.now) k.s) c.opposite_of.ensures;
      taken = c.taken_at-taken.ensures;
    }
