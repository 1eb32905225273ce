-- `levels::add_order` meets its contract.
use Rattle.levels.proofs.LevelsKept.{place-low, level-small, added}
use Rattle.levels.proofs.add_order.Goals as goal

pub level_at-l-requires : goal.level_at-l-requires
level_at-l-requires c = let p = c.requires in place-low _ _ _ p.series p.side c.place_of-n.ensures

pub with_order-requires : goal.with_order-requires
with_order-requires c = let p = c.requires in
    level-small c.args.numbers.now
    c.fits-numbers _ _ _ _ p.right p.series p.side
    c.place_of-n.ensures c.level_at-l.ensures

pub put_level-requires : goal.put_level-requires
put_level-requires c = let p = c.requires in place-low _ _ _ p.series p.side c.place_of-n.ensures

pub returns : goal.returns
returns c = let p = c.requires in
    record {
      numbers_after = (added c.args.numbers.now _ _ _ c.args.o _ _ p.room p.series p.side p.price p.newest p.shows
          c.place_of-n.ensures
          c.level_at-l.ensures c.with_order.ensures
          c.add_regular.ensures.numbers_after
          c.add_regular.ensures.beside c.put_level.ensures).0;
      counts = (added c.args.numbers.now _ _ _ c.args.o _ _ p.room p.series p.side p.price p.newest p.shows
          c.place_of-n.ensures
          c.level_at-l.ensures c.with_order.ensures
          c.add_regular.ensures.numbers_after
          c.add_regular.ensures.beside c.put_level.ensures).1;
    }
