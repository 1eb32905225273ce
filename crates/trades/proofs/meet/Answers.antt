-- `trades::meet` meets its contract.
use mathlib.Core.Path.{sym, ◌∙◌}
use native.Mathlib.Omega.{arith}
use Rattle.places.specs.Layout.{venue_of}
use Rattle.places.proofs.Parts.{regulars-few, regular-at}
use Rattle.trades.proofs.HitsLaws.{meet-law}
use Rattle.trades.proofs.meet.Goals as goal

pub regular_at-o-requires : goal.regular_at-o-requires
regular_at-o-requires c = let w = regulars-few c.args.numbers.now in
    omega (arith, c.requires.first)

pub trade_with-requires : goal.trade_with-requires
trade_with-requires c =
    rw c.fill_order.ensures.counts.regulars c.requires.second

pub returns-clause-result_after : goal.returns-clause-result_after
returns-clause-result_after c =
    meet-law _ _ _ (venue_of c.args.numbers.now) _ _ _ _ _ _ _
    (c.regular_at-o.ensures ∙ sym (regular-at c.args.numbers.now c.args.i c.requires.first)) c.fill_order.ensures.numbers_after
    c.trade_with.ensures.result_after
