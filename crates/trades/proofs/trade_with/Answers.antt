-- `trades::trade_with` meets its contract.
use mathlib.Core.Path.{sym, ◌∙◌}
use native.Mathlib.Omega.{arith}
use Rattle.places.specs.Layout.{venue_of}
use Rattle.places.proofs.Parts.{regulars-few, regular-at}
use Rattle.trades.proofs.Trades.{trade-law}
use Rattle.trades.proofs.trade_with.Goals as goal

pub regular_at-m-requires : goal.regular_at-m-requires
regular_at-m-requires c = let w = regulars-few c.args.numbers.now in omega arith

pub returns-clause-result_after : goal.returns-clause-result_after
returns-clause-result_after c =
    trade-law _ _ _ _ (venue_of c.args.numbers.now) _ _ _ _ _ _
    (c.regular_at-m.ensures ∙ sym (regular-at c.args.numbers.now c.args.j c.requires)) c.fill_order.ensures.numbers_after
    c.emit_trade.ensures
