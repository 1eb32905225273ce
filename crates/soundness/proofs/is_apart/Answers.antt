-- `soundness::is_apart` meets its contract.
use native.Mathlib.Omega.{arith}
use mathlib.Core.Path.{refl}
use Rattle.places.specs.Layout.{venue_of}
use Rattle.soundness.proofs.Beside.{apart-no-bid, apart-no-offer, apart-both}
use Rattle.soundness.proofs.is_apart.Goals as goal

pub best_regular-requires : goal.best_regular-requires
best_regular-requires c = let p = c.requires in record { right = p.right; series = p.series; side = omega arith }

pub best_own-bid-requires : goal.best_own-bid-requires
best_own-bid-requires c = let p = c.requires in record { best = c.best_regular.ensures; series = p.series; side = omega arith }

pub returns-then-bid-eq0 : goal.returns-then-bid-eq0
returns-then-bid-eq0 c =
    apart-no-bid (venue_of c.args.numbers.now) c.args.s _ _ c.best_own-bid.ensures refl c.if-bid-eq0.true

pub best_regular-requires-2 : goal.best_regular-requires-2
best_regular-requires-2 c = let p = c.requires in record { right = p.right; series = p.series; side = omega arith }

pub best_own-offer-requires : goal.best_own-offer-requires
best_own-offer-requires c = let p = c.requires in record { best = c.best_regular-2.ensures; series = p.series; side = omega arith }

pub returns-then-offer-eq0 : goal.returns-then-offer-eq0
returns-then-offer-eq0 c =
    apart-no-offer (venue_of c.args.numbers.now) c.args.s _ _ c.best_own-bid.ensures c.best_own-offer.ensures c.if-bid-eq0.false
    c.if-offer-eq0.true

pub returns : goal.returns
returns c =
    apart-both (venue_of c.args.numbers.now) c.args.s _ _ c.best_own-bid.ensures c.best_own-offer.ensures c.if-bid-eq0.false c.if-offer-eq0.false
