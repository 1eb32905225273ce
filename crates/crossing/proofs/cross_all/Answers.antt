-- `crossing::cross_all` meets its contract.
use Rattle.rules.specs.Effects.{repeat}
use Rattle.removal.proofs.Loops.{doing-start, doing-turn, doing_end, doing-room, repeat-zero, repeat-stop, repeat-turn}
use mathlib.Core.Path.{sym, ap, subst, ◌∙◌}
use Prim.Native.Nat.{ℕ}
use native.Mathlib.Nat.{sub-zero}
use native.Mathlib.Omega.{arith}
use Rattle.rules.specs.declared.Complex.{Complex}
use Rattle.rules.specs.Complex.{cross_turn}
use Rattle.places.specs.Layout.{venue_of}
use Rattle.places.proofs.Parts.{complexes-few, complex-at}
use Rattle.levels.specs.Grid.{LegsIn}
use Rattle.prices.proofs.Prices.{legs-in}
use Rattle.prices.specs.Picks.{choice_of}
use Rattle.cross_makers.specs.Picks.{picked_of}
use Rattle.crossing.proofs.CrossLaws.{cross-idle, cross-nobody, cross-some, picked-used}
use Rattle.crossing.proofs.cross_all.Goals as goal

pub complex_at-taker-requires : goal.complex_at-taker-requires
complex_at-taker-requires c = let z = complexes-few c.args.numbers.now in
    omega (arith, c.requires.in_use)

pub loop-init : goal.loop-init
loop-init c = doing-start _ _ _ _ _ c.told-numbers (ap (λ (k : ℕ). repeat k (cross_turn c.args.i) (venue_of c.args.numbers.now)) (sub-zero _) ∙ ap (λ (x : Complex). repeat x.quantity (cross_turn c.args.i) (venue_of c.args.numbers.now))
    (c.complex_at-taker.ensures ∙ sym (complex-at c.args.numbers.now c.args.i c.requires.in_use)))

pub complex_at-c-requires : goal.complex_at-c-requires
complex_at-c-requires c = let z = complexes-few c.loop.numbers in omega (arith, c.loop.invariant.counts.complexes, c.requires.in_use)

pub shape_of-out-then-c-eq0 : goal.shape_of-out-then-c-eq0
shape_of-out-then-c-eq0 c = doing-room c.loop.invariant

pub returns-then-c-eq0-clause-result_after : goal.returns-then-c-eq0-clause-result_after
returns-then-c-eq0-clause-result_after c = doing_end c.loop.invariant
    (repeat-stop _ _ _ (cross-idle c.args.i _ _
    (c.complex_at-c.ensures
    ∙ sym (complex-at c.loop.numbers
    c.args.i
    (omega (
      arith,
      c.loop.invariant.counts.complexes,
      c.requires.in_use,
    )))) c.if-c-eq0.true))

pub first_cross-found-requires : goal.first_cross-found-requires
first_cross-found-requires c = record {
  right = c.loop.invariant.counts.right
      c.requires.right;
  legs = subst LegsIn (sym c.complex_at-c.ensures)
      (legs-in c.loop.numbers c.args.i);
}

pub shape_of-out-in_default : goal.shape_of-out-in_default
shape_of-out-in_default c = doing-room c.loop.invariant

pub returns-in_default-clause-result_after : goal.returns-in_default-clause-result_after
unfolding picked_of choice_of
returns-in_default-clause-result_after c = doing_end c.loop.invariant
    (repeat-stop _ _ _ (cross-nobody
    c.args.i _ _
    (c.complex_at-c.ensures
    ∙ sym (complex-at c.loop.numbers
    c.args.i
    (omega (
      arith,
      c.loop.invariant.counts.complexes,
      c.requires.in_use,
    ))))
    c.if-c-eq0.false (sym (ap picked_of c.in_default.is) ∙ c.first_cross-found.ensures)))

pub cross-pos-requires : goal.cross-pos-requires
unfolding picked_of choice_of
cross-pos-requires c = record {
  first = omega (
    arith,
    c.loop.invariant.counts.complexes,
    c.requires.in_use,
  );
  second = picked-used c.loop.numbers _ _ _
      (sym (ap picked_of c.in-Some.is)
      ∙ c.first_cross-found.ensures);
}

pub loop-preserved : goal.loop-preserved
unfolding picked_of choice_of
loop-preserved c = doing-turn
    c.loop.invariant _ _ _ _ _
    (repeat-turn _ _ _ _ _
    (omega (
      arith,
      c.loop-test.true,
    ))
    (cross-some c.args.i _ _
    (c.complex_at-c.ensures
    ∙ sym (complex-at c.loop.numbers
    c.args.i
    (omega (
      arith,
      c.loop.invariant.counts.complexes,
      c.requires.in_use,
    ))))
    c.if-c-eq0.false _ _ _
    (sym (ap picked_of c.in-Some.is)
    ∙ c.first_cross-found.ensures)
    c.min.ensures)) (omega arith)
    c.cross-pos.ensures.result_after c.cross-pos.ensures.counts

pub shape_of-out : goal.shape_of-out
shape_of-out c = doing-room c.loop.invariant

pub returns-clause-result_after : goal.returns-clause-result_after
returns-clause-result_after c = doing_end c.loop.invariant (repeat-zero _ _ _ (omega (arith, c.loop-test.false)))
