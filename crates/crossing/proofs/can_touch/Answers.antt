-- `crossing::can_touch` meets its contract.
use mathlib.Core.Path.{◌∙◌}
use Rattle.places.specs.Layout.{venue_of}
use Rattle.levels.proofs.Sides.{opposite-in, first-best, second-best}
use Rattle.rules.proofs.Machine.{back}
use Rattle.crossing.proofs.Touches.{touch-free, touch-none1, touch-none2, touch-net}
use Rattle.crossing.proofs.can_touch.Goals as goal

pub returns-then-c-eq0 : goal.returns-then-c-eq0
returns-then-c-eq0 c = touch-free _ c.args.c c.if-c-eq0.true

pub best_own-first-requires : goal.best_own-first-requires
best_own-first-requires c =
    let p = c.requires in
    let a = c.args in
    record {
      best = first-best (venue_of a.numbers.now) a.taken a.c p.taken _ c.opposite_of.ensures;
      series = p.legs.first;
      side = rw c.opposite_of.ensures (opposite-in _);
    }

pub returns-then-first-eq0 : goal.returns-then-first-eq0
returns-then-first-eq0 c = touch-none1 _ c.args.c c.if-c-eq0.false _ _
    c.opposite_of.ensures c.best_own-first.ensures c.if-first-eq0.true

pub best_own-second-requires : goal.best_own-second-requires
best_own-second-requires c =
    let p = c.requires in
    let a = c.args in
    record {
      best = second-best (venue_of a.numbers.now) a.taken a.c p.taken _ c.opposite_of-2.ensures;
      series = p.legs.second;
      side = rw c.opposite_of-2.ensures (opposite-in _);
    }

pub returns-then-second-eq0 : goal.returns-then-second-eq0
returns-then-second-eq0 c =
    touch-none2 _ c.args.c
    c.if-c-eq0.false _ _
    c.opposite_of.ensures c.best_own-first.ensures
    c.if-first-eq0.false _ _
    c.opposite_of-2.ensures c.best_own-second.ensures c.if-second-eq0.true

pub returns : goal.returns
returns c =
    touch-net _ c.args.c
    c.if-c-eq0.false _ _
    c.opposite_of.ensures
    c.best_own-first.ensures c.if-first-eq0.false
    _ _
    c.opposite_of-2.ensures c.best_own-second.ensures c.if-second-eq0.false _ _
    (back {z = c.net_of-net.result} (record { sfits = c.net_of-net.type_inv }) ∙ c.net_of-net.ensures.0) (back {z = c.limit_of.result} (record { sfits = c.limit_of.type_inv }) ∙ c.limit_of.ensures.0)
