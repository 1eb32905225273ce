-- `trades::pairing_of` meets its contract.
use mathlib.Core.Path.{ap}
use lib.IntN.{nat_abs}
use native.Mathlib.Omega.{arith}
use Rattle.rules.proofs.Machine.{back}
use Rattle.places.specs.Layout.{venue_of}
use Rattle.prices.proofs.Prices.{parent-legs}
use Rattle.trades.proofs.HitsLaws.{leg-in, opposite-in, pairing-law}
use Rattle.trades.proofs.pairing_of.Goals as goal

pub best_regular-best-requires : goal.best_regular-best-requires
best_regular-best-requires c =
    let h = leg-in c.parent_of-c.result c.args.series (rw (← c.parent_of-c.ensures) at (parent-legs c.args.numbers.now c.args.l)) in
    record { right = c.requires; series = rw c.other_leg-leg.ensures h.0; side = rw c.opposite_of-other.ensures (opposite-in _) }

pub clear_price-clear-requires : goal.clear_price-clear-requires
clear_price-clear-requires c =
    let h = leg-in c.parent_of-c.result c.args.series (rw (← c.parent_of-c.ensures) at (parent-legs c.args.numbers.now c.args.l)) in
    record {
      best = c.best_regular-best.ensures;
      series = rw c.other_leg-leg.ensures h.0;
      side = rw c.opposite_of-other.ensures (opposite-in _);
    }

pub returns : goal.returns
returns c =
    let q = back {z = c.net_of-net.result} (record { sfits = c.net_of-net.type_inv }) in record {
      value = pairing-law (venue_of c.args.numbers.now) c.args.l c.args.series c.args.side _ _ _ _ _ _ _ c.parent_of-c.ensures
          c.other_leg-leg.ensures c.opposite_of-other.ensures c.clear_price-clear.ensures c.opposite_of.ensures c.net_of-net.ensures.0 q;
      bounded = omega (arith, ap nat_abs q, c.net_of-net.ensures.1);
    }
