-- `cross_makers::respects_legs` meets its contract.
use mathlib.Core.Path.{refl, ◌∙◌}
use Rattle.rules.proofs.Machine.{back}
use Rattle.levels.proofs.Sides.{first-best, second-best}
use Rattle.cross_makers.proofs.Candidates.{legs-none1, legs-none2, legs-net}
use Rattle.cross_makers.proofs.respects_legs.Goals as goal

pub returns-then-one-eq0 : goal.returns-then-one-eq0
returns-then-one-eq0 c v h =
    let a = c.args in
    legs-none1 v a.c _ _ (first-best v a.taken a.c h _ refl) c.if-one-eq0.true

pub returns-then-two-eq0 : goal.returns-then-two-eq0
returns-then-two-eq0 c v h =
    let a = c.args in
    legs-none2 v a.c _ _ (first-best v a.taken a.c h _ refl) c.if-one-eq0.false _ (second-best v a.taken a.c h _ refl) c.if-two-eq0.true

pub returns : goal.returns
returns c v h =
    let a = c.args in
    let u = c.net_of in
    legs-net v a.c _ _ (first-best v a.taken a.c h _ refl) c.if-one-eq0.false _ (second-best v a.taken a.c h _ refl) c.if-two-eq0.false _ _
    (back c.ranges.net) (back {z = u.result} (record { sfits = u.type_inv }) ∙ u.ensures.0)
