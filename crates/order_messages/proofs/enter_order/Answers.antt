-- `order_messages::enter_order` meets its contract.
use mathlib.Core.Path.{ap, ◌∙◌}
use Rattle.rules.specs.declared.Venue.{Venue}
use native.Mathlib.Omega.{arith}
use Rattle.rules.specs.Order.{order}
use Rattle.records.specs.Seen.{seen}
use Rattle.records.specs.Stage.{◌does◌}
use Rattle.venue_numbers.proofs.Loaded.{regular-side}
use Rattle.places.proofs.Orderly.{range-priced, range-display}
use Rattle.places.proofs.Fully.{range-bounded}
use Rattle.order_messages.proofs.Entering.{last-dense, last-below}
use Rattle.order_messages.proofs.enter_order.Goals as goal

pub order-requires : goal.order-requires
order-requires c =
    let p = c.put_last.ensures in
    let k = p.counts.regulars in
    let h = c.requires.room in
    let r = c.requires.in_range in
    let f = c.requires.fully in
    let z = regular-side _ r in record {
      dense = last-dense _ _ _ p.numbers_after p.counts c.requires.dense;
      room = omega arith;
      series = z.series;
      side = z.side;
      price = range-priced _ r;
      newest = last-below _ _ _ p.numbers_after c.requires.newest;
      shows = range-display _ r;
      display = (range-bounded _ r f).display;
      fully = f;
    }

pub returns : goal.returns
returns c =
    let k = c.order.ensures in
    record { result_after = k.result_after ∙ ap (λ (w : Venue). seen c.args.out.now c.args.at does order c.args.o w) c.put_last.ensures.numbers_after; right = k.counts.right (c.put_last.ensures.counts.right c.requires.dense.right) }
