-- `matching::meet_all` meets its contract.
use native.Mathlib.Nat.{sub-zero}
use Rattle.rules.specs.Order.{meet_turn}
use native.Mathlib.Omega.{arith}
use mathlib.Core.Path.{sym, ap, ◌∙◌}
use Rattle.places.specs.Layout.{venue_of}
use Rattle.matching.specs.Turns.{turn_of}
use Rattle.matching.proofs.TurnsLaws.{turning-start, turning-end, turning-stop, turning-turn, turning-room}
use Rattle.matching.proofs.meet_all.Goals as goal

pub loop-init : goal.loop-init
loop-init c = rw (sub-zero c.args.quantity) (turning-start (meet_turn c.args.i) c.args.quantity _ _ _ c.told-numbers)

pub decide-plan-requires : goal.decide-plan-requires
decide-plan-requires c =
    record { in_use = rw c.loop.invariant.counts.regulars c.requires.in_use; right = c.loop.invariant.counts.right c.requires.right }

pub shape_of-out-in-Ended : goal.shape_of-out-in-Ended
shape_of-out-in-Ended c = turning-room c.loop.invariant

pub returns-in-Ended-clause-result_after : goal.returns-in-Ended-clause-result_after
unfolding turn_of
returns-in-Ended-clause-result_after c =
    (turning-stop c.loop.invariant (sym (ap (turn_of c.args.i (venue_of c.loop.numbers)) c.in-Ended.is) ∙ c.decide-plan.ensures.0)).0

pub hit-pos-requires : goal.hit-pos-requires
hit-pos-requires c =
    record { in_use = rw c.loop.invariant.counts.regulars c.requires.in_use; right = c.loop.invariant.counts.right c.requires.right }

pub loop-preserved-in-Hit : goal.loop-preserved-in-Hit
unfolding turn_of
loop-preserved-in-Hit c =
    turning-turn c.loop.invariant _ _ _ _ _ (omega (arith, c.loop-test.true))
    (sym (ap (turn_of c.args.i (venue_of c.loop.numbers)) c.in-Hit.is) ∙ c.decide-plan.ensures.0) (omega arith) (c.hit-pos.ensures.result_after, c.hit-pos.ensures.counts)

pub meet-pos-requires : goal.meet-pos-requires
meet-pos-requires c =
    record { first = rw c.loop.invariant.counts.regulars c.requires.in_use; second = rw c.in-Meet.is at c.decide-plan.ensures.1 }

pub loop-preserved : goal.loop-preserved
unfolding turn_of
loop-preserved c =
    turning-turn c.loop.invariant _ _ _ _ _ (omega (arith, c.loop-test.true))
    (sym (ap (turn_of c.args.i (venue_of c.loop.numbers)) c.in-Meet.is) ∙ c.decide-plan.ensures.0) (omega arith) (c.meet-pos.ensures.result_after, c.meet-pos.ensures.counts)

pub shape_of-out : goal.shape_of-out
shape_of-out c = turning-room c.loop.invariant

pub returns-clause-result_after : goal.returns-clause-result_after
returns-clause-result_after c = (turning-end c.loop.invariant (omega (arith, c.loop-test.false))).0
