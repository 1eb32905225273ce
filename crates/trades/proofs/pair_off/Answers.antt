-- `trades::pair_off` meets its contract.
use Rattle.rules.proofs.Machine.{back}
use Rattle.places.specs.Layout.{venue_of}
use Rattle.trades.proofs.HitsLaws.{pair-law}
use Rattle.trades.proofs.pair_off.Goals as goal

pub returns-clause-result_after : goal.returns-clause-result_after
returns-clause-result_after c =
    pair-law _ _ _ _ _ (venue_of c.args.numbers.now) _ _ _ _ _ _ _ _ (back c.ranges.net) c.fill_pair.ensures.numbers_after c.emit_pair-pos.ensures
    c.remove_of.ensures.result_after
