-- `orders::order` meets its contract.
use Rattle.rules.specs.Standing.{settle}
use Rattle.rules.specs.Order.{enter_regular, order}
use Rattle.records.proofs.StageLaws.{follow}
use Rattle.places.specs.Layout.{venue_of}
use Rattle.orders.proofs.order.Goals as goal

pub enter_regular-pos-requires : goal.enter_regular-pos-requires
enter_regular-pos-requires c = c.requires

pub settle_all-requires : goal.settle_all-requires
settle_all-requires c = c.enter_regular-pos.ensures.counts.right c.requires.dense.right

pub returns-clause-result_after : goal.returns-clause-result_after
unfolding order
returns-clause-result_after c = follow _ (enter_regular c.args.o (venue_of c.args.numbers.now)) settle _ _ _ _ _ _
    c.enter_regular-pos.ensures.result_after
    c.settle_all.ensures.result_after
