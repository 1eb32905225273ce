-- `orders::cancel` meets its contract.
use Rattle.rules.specs.Standing.{settle}
use Rattle.rules.specs.Complex.{cancel}
use Rattle.records.proofs.StageLaws.{follow}
use Rattle.places.specs.Layout.{venue_of}
use Rattle.orders.specs.Effects.{withdrawn}
use Rattle.orders.proofs.cancel.Goals as goal

pub settle_all-requires : goal.settle_all-requires
settle_all-requires c = c.withdraw-pos.ensures.counts.right c.requires.dense.right

pub returns-clause-result_after : goal.returns-clause-result_after
unfolding cancel withdrawn
returns-clause-result_after c = follow _ (withdrawn c.args.id (venue_of c.args.numbers.now)) settle _ _ _ _ _ _
    c.withdraw-pos.ensures.result_after
    c.settle_all.ensures.result_after
