-- `work::can_leg_in` meets its contract.
use mathlib.Core.Path.{◌∙◌}
use Rattle.rules.proofs.Machine.{back}
use Rattle.work.proofs.LegInLaws.{leg-free, leg-none1, leg-none2, leg-over, leg-band}
use Rattle.work.proofs.can_leg_in.Goals as goal

pub returns-then-c-eq0 : goal.returns-then-c-eq0
returns-then-c-eq0 c = leg-free _ c.args.c _ _ c.if-c-eq0.true

pub returns-then-a-eq0 : goal.returns-then-a-eq0
returns-then-a-eq0 c = leg-none1 _ c.args.c _ _ c.if-c-eq0.false c.if-a-eq0.true

pub returns-then-p-eq0 : goal.returns-then-p-eq0
returns-then-p-eq0 c = leg-none2 _ c.args.c _ _ c.if-c-eq0.false c.if-a-eq0.false c.if-p-eq0.true

pub returns-then-limit-net : goal.returns-then-limit-net
returns-then-limit-net c = leg-over _ c.args.c _ _
    c.if-c-eq0.false c.if-a-eq0.false c.if-p-eq0.false _ _
    (back {z = c.net_of-net.result} (record { sfits = c.net_of-net.type_inv }) ∙ c.net_of-net.ensures.0)
    (back {z = c.limit_of-limit.result} (record { sfits = c.limit_of-limit.type_inv }) ∙ c.limit_of-limit.ensures.0) c.if-limit-net.true

pub returns : goal.returns
returns c = leg-band _ c.args.c _ _
    c.if-c-eq0.false c.if-a-eq0.false
    c.if-p-eq0.false _ _
    (back {z = c.net_of-net.result} (record { sfits = c.net_of-net.type_inv })
    ∙ c.net_of-net.ensures.0)
    (back {z = c.limit_of-limit.result} (record { sfits = c.limit_of-limit.type_inv }) ∙ c.limit_of-limit.ensures.0)
    c.if-limit-net.false _ c.in_band.ensures
