-- `settling::other_clear` meets its contract.
use Rattle.settling.proofs.PartsLaws.{other-in, other-price, clear-is}
use Rattle.levels.proofs.Sides.{opposite-in}
use Rattle.places.specs.Layout.{venue_of}
use Rattle.settling.proofs.other_clear.Goals as goal

pub clear_price-requires : goal.clear_price-requires
clear_price-requires c =
    let p = c.requires in
    let a = c.args in
    record {
      best = other-price (venue_of a.numbers.now) a.taken a.c a.s p.taken c.other_level-best.result c.other_level-best.ensures c.other_leg-other.result
          c.other_leg-other.ensures _ c.opposite_of.ensures;
      series = other-in _ _ c.other_leg-other.result c.other_leg-other.ensures p.legs;
      side = rw c.opposite_of.ensures (opposite-in _);
    }

pub returns : goal.returns
returns c = clear-is _ _ c.other_leg-other.result c.other_leg-other.ensures _ _ _ c.opposite_of.ensures c.clear_price.ensures
