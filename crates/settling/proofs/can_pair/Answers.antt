-- `settling::can_pair` meets its contract.
use Rattle.settling.proofs.PartsLaws.{pair-none, pair-dear, pair_size, size_is}
use Rattle.places.specs.Layout.{venue_of}
use Rattle.rules.proofs.Machine.{back}
use mathlib.Core.Path.{◌∙◌}
use Rattle.settling.proofs.can_pair.Goals as goal

pub returns-then-clear-eq0 : goal.returns-then-clear-eq0
returns-then-clear-eq0 c = pair-none _ c.args.c _ _ _ _ _ c.other_clear-clear.ensures c.if-clear-eq0.true

pub returns-then-net-limit : goal.returns-then-net-limit
returns-then-net-limit c =
    let a = c.args in
    rw c.from.ensures (pair_size _ a.c _ _ _ _ _ c.other_clear-clear.ensures
    c.if-clear-eq0.false c.other_leg-other.result
    c.other_leg-other.ensures _ _
    (back {z = c.net_of-net.result} (record { sfits = c.net_of-net.type_inv }) ∙ c.net_of-net.ensures.0) (back {z = c.limit_of-limit.result} (record { sfits = c.limit_of-limit.type_inv }) ∙ c.limit_of-limit.ensures.0) c.if-net-limit.true _
    (size_is (venue_of a.numbers.now) a.taken a.c _ c.requires.taken
    c.other_level-best.result c.other_level-best.ensures))

pub returns : goal.returns
returns c =
    let a = c.args in
    pair-dear _ a.c _ _ _ _ _ c.other_clear-clear.ensures c.if-clear-eq0.false
    c.other_leg-other.result c.other_leg-other.ensures _ _
    (back {z = c.net_of-net.result} (record { sfits = c.net_of-net.type_inv }) ∙ c.net_of-net.ensures.0) (back {z = c.limit_of-limit.result} (record { sfits = c.limit_of-limit.type_inv }) ∙ c.limit_of-limit.ensures.0) c.if-net-limit.false
