-- `work::leg_in_all` meets its contract.
use mathlib.Core.Path.{sym, subst, ◌∙◌}
use native.Mathlib.Omega.{arith}
use Rattle.places.proofs.Parts.{complexes-few, complex-at}
use Rattle.levels.specs.Grid.{LegsIn}
use Rattle.prices.proofs.Prices.{legs-in}
use Rattle.cross_makers.proofs.Candidates.{off, on}
use Rattle.removal.proofs.Loops.{doing-turn, doing_end, repeat-zero, repeat-stop, repeat-turn}
use Rattle.work.proofs.LegInLaws.{leg-stop, leg-short, leg-turn}
use Rattle.work.proofs.leg_in_all.Goals as goal

pub complex_at-c-requires : goal.complex_at-c-requires
complex_at-c-requires c = let z = complexes-few c.loop-turn.numbers in omega (arith, c.loop-turn.invariant.counts.complexes, c.requires.in_use)

pub taken_at-taken-requires : goal.taken_at-taken-requires
taken_at-taken-requires c =
    record { right = c.loop-turn.invariant.counts.right c.requires.right; legs = subst LegsIn (sym c.complex_at-c.ensures) (legs-in c.loop-turn.numbers c.args.i) }

pub can_leg_in-requires : goal.can_leg_in-requires
can_leg_in-requires c =
    record {
      taken = c.taken_at-taken.ensures;
      legs = subst LegsIn (sym c.complex_at-c.ensures)
          (legs-in c.loop-turn.numbers c.args.i);
      figures = (c.loop-turn.invariant.counts.right c.requires.right).marked.figures;
    }

pub returns-then-not-can_leg_in-clause-result_after : goal.returns-then-not-can_leg_in-clause-result_after
returns-then-not-can_leg_in-clause-result_after c =
    doing_end c.loop-turn.invariant
    (repeat-stop _ _ _
    (leg-stop _ _ c.taken_at-taken.result c.taken_at-taken.ensures c.args.i (c.complex_at-c.ensures ∙ sym (complex-at c.loop-turn.numbers c.args.i (omega (arith, c.loop-turn.invariant.counts.complexes, c.requires.in_use))))
    (off _ _ c.can_leg_in.ensures c.if-not-can_leg_in.true-raw)))

pub returns-then-k-eq0-clause-result_after : goal.returns-then-k-eq0-clause-result_after
returns-then-k-eq0-clause-result_after c =
    doing_end c.loop-turn.invariant
    (repeat-stop _ _ _
    (leg-short _ _ c.taken_at-taken.result c.taken_at-taken.ensures c.args.i (c.complex_at-c.ensures ∙ sym (complex-at c.loop-turn.numbers c.args.i (omega (arith, c.loop-turn.invariant.counts.complexes, c.requires.in_use))))
    (on _ _ c.can_leg_in.ensures c.if-not-can_leg_in.false-raw) _ (c.units_in-k.ensures _ c.taken_at-taken.ensures) c.if-k-eq0.true))

pub loop-turn-preserved : goal.loop-turn-preserved
loop-turn-preserved c =
    doing-turn c.loop-turn.invariant _ _ _ _ _
    (repeat-turn _ _ _ _ _ (omega (arith, c.loop-turn-test.true))
    (leg-turn _ _ c.taken_at-taken.result c.taken_at-taken.ensures c.args.i (c.complex_at-c.ensures ∙ sym (complex-at c.loop-turn.numbers c.args.i (omega (arith, c.loop-turn.invariant.counts.complexes, c.requires.in_use))))
    (on _ _ c.can_leg_in.ensures c.if-not-can_leg_in.false-raw) _ (c.units_in-k.ensures _ c.taken_at-taken.ensures) c.if-k-eq0.false))
    (omega arith) c.leg_in-pos.ensures.result_after c.leg_in-pos.ensures.counts

pub returns-clause-result_after : goal.returns-clause-result_after
returns-clause-result_after c =
    doing_end c.loop-turn.invariant (repeat-zero _ _ _ (omega (arith, c.loop-turn-test.false)))
