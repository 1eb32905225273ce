-- `levels::taken_at` meets its contract.
use mathlib.Core.Path.{ap, ◌∙◌}
use Rattle.rules.specs.Words.{opposite, place_of}
use Rattle.levels.proofs.Sides.{opposite-in, opposite-side}
use Rattle.levels.proofs.LevelsKept.{place-low, level-read}
use Rattle.levels.proofs.taken_at.Goals as goal

pub level_at-first-requires : goal.level_at-first-requires
level_at-first-requires c = let p = c.requires in
    place-low _ _ _ p.legs.first (opposite-side _ _ c.opposite_of.ensures) c.place_of.ensures

pub level_at-second-requires : goal.level_at-second-requires
level_at-second-requires c = let p = c.requires in
    place-low _ _ _ p.legs.second (opposite-side _ _ c.opposite_of-2.ensures) c.place_of-2.ensures

pub returns : goal.returns
returns c = let p = c.requires in let b = c.args.numbers.now in
    let k = c.args.c in
    record {
      first = level-read b k.series1 (opposite k.side1) _ _ p.right p.legs.first (opposite-in k.side1)
          (c.place_of.ensures ∙ ap (place_of k.series1)
          c.opposite_of.ensures) c.level_at-first.ensures;
      second = level-read b k.series2 (opposite k.side2) _ _ p.right p.legs.second (opposite-in k.side2)
          (c.place_of-2.ensures ∙ ap (place_of k.series2) c.opposite_of-2.ensures) c.level_at-second.ensures;
    }
