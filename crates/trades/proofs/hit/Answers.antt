-- `trades::hit` meets its contract.
use mathlib.Core.Path.{sym, ◌∙◌}
use native.Mathlib.Omega.{arith}
use Rattle.rules.proofs.Machine.{back, fits-of}
use Rattle.places.specs.Layout.{venue_of}
use Rattle.places.proofs.Parts.{regulars-few, regular-at}
use Rattle.trades.proofs.HitsLaws.{hit-law}
use Rattle.trades.proofs.hit.Goals as goal

pub regular_at-o-requires : goal.regular_at-o-requires
regular_at-o-requires c = let w = regulars-few c.args.numbers.now in omega arith

pub pairing_of-p-requires : goal.pairing_of-p-requires
pairing_of-p-requires c = c.requires.right

pub trade_at_price-taken-requires : goal.trade_at_price-taken-requires
trade_at_price-taken-requires c =
    c.fill_order.ensures.counts.right c.requires.right

pub returns-clause-result_after : goal.returns-clause-result_after
returns-clause-result_after c =
    hit-law _ _ _ (venue_of c.args.numbers.now) _ _ _ _ _ _ _ _ _ _ _ _ _ _ _ (back (fits-of c.pairing_of-p.result.net (omega (arith, c.pairing_of-p.ensures.bounded))))
    (c.regular_at-o.ensures ∙ sym (regular-at c.args.numbers.now c.args.i c.requires.in_use)) c.pairing_of-p.ensures.value c.fill_order.ensures.numbers_after
    c.emit_trade-traded.ensures (rw c.from.ensures at c.trade_at_price-taken.ensures.result_after) c.place_or_end-j.ensures c.pair_off.ensures.result_after
