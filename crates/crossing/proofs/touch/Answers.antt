-- `crossing::touch` meets its contract.
use mathlib.Core.Path.{sym, subst, ◌∙◌}
use native.Mathlib.Omega.{arith}
use Rattle.rules.specs.Words.{opposite, place_of}
use Rattle.places.proofs.Parts.{complexes-few, complex-at}
use Rattle.levels.specs.Grid.{LegsIn}
use Rattle.prices.proofs.Prices.{legs-in}
use Rattle.cross_makers.proofs.Candidates.{off, on}
use Rattle.crossing.proofs.Touches.{touch-not, touch-both}
use Rattle.crossing.proofs.touch.Goals as goal

pub complex_at-c-requires : goal.complex_at-c-requires
complex_at-c-requires c = let z = complexes-few c.args.numbers.now in
    omega (arith, c.requires.in_use)

pub taken_at-taken-requires : goal.taken_at-taken-requires
taken_at-taken-requires c =
    let a = c.args in
    let p = c.requires in
    record { right = p.right; legs = subst LegsIn (sym c.complex_at-c.ensures) (legs-in a.numbers.now a.i) }

pub can_touch-requires : goal.can_touch-requires
can_touch-requires c =
    let a = c.args in record {
      taken = c.taken_at-taken.ensures;
      legs = subst LegsIn (sym c.complex_at-c.ensures) (legs-in a.numbers.now a.i);
    }

pub returns-then-not-can_touch-clause-result_after : goal.returns-then-not-can_touch-clause-result_after
returns-then-not-can_touch-clause-result_after c =
    let a = c.args in touch-not a.i _ _ (c.complex_at-c.ensures ∙ sym (complex-at a.numbers.now a.i c.requires.in_use)) _ _ (off _ _ c.can_touch.ensures c.if-not-can_touch.true-raw)

pub touch_cause-cause-requires : goal.touch_cause-cause-requires
touch_cause-cause-requires c = (let a = c.args in record {
  taken = c.taken_at-taken.ensures;
  legs = subst LegsIn (sym c.complex_at-c.ensures) (legs-in a.numbers.now a.i);
})

pub remove_at-requires : goal.remove_at-requires
unfolding place_of opposite
remove_at-requires c =
    let z = subst LegsIn (sym c.complex_at-c.ensures) (legs-in c.args.numbers.now c.args.i) in
    record { first = omega arith; second = omega arith }

pub returns-clause-result_after : goal.returns-clause-result_after
returns-clause-result_after c =
    let a = c.args in
    touch-both a.i _ _ (c.complex_at-c.ensures ∙ sym (complex-at a.numbers.now a.i c.requires.in_use)) _ _ _ _ _ (on _ _ c.can_touch.ensures c.if-not-can_touch.false-raw) _
    c.touch_cause-cause.ensures _ _ _ _ c.opposite_of.ensures c.place_of-one.ensures c.opposite_of-2.ensures c.place_of-two.ensures c.remove_at.ensures.result_after
