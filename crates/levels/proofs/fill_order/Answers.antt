-- `levels::fill_order` meets its contract.
use mathlib.Core.Path.{refl, ap, ◌∙◌}
use Prim.Native.Nat.{min}
use native.Mathlib.Omega.{arith}
use Rattle.places.proofs.Parts.{regulars-few}
use Rattle.levels.proofs.LevelWithOrder.{series-in, side-in}
use Rattle.levels.proofs.LevelsKept.{key-few, filled_off, filled_on, filled-rest}
use Rattle.levels.proofs.fill_order.Goals as goal

-- each clause by its name
each : {A B : Type 0} → A × B → record { numbers_after : A; counts : B }
each h = record { numbers_after = h.0; counts = h.1 }

pub regular_at-o-requires : goal.regular_at-o-requires
regular_at-o-requires c = let f = regulars-few c.args.numbers.now in
    omega (arith, c.requires)

pub key_at-n-requires : goal.key_at-n-requires
key_at-n-requires c = let f = regulars-few c.args.numbers.now in
    omega (arith, c.requires)

pub level_at-l-requires : goal.level_at-l-requires
level_at-l-requires c = key-few _ _ _ c.key_at-n.ensures

pub returns-then-o-l : goal.returns-then-o-l
returns-then-o-l c = record {
  numbers_after = c.fill_regular.ensures.numbers_after;
  counts = filled_off c.args.numbers.now _ c.args.i c.args.k _
      c.regular_at-o.result
      c.level_at-l.result c.requires
      c.regular_at-o.ensures
      c.key_at-n.ensures
      c.level_at-l.ensures
      c.fill_regular.ensures.numbers_after c.fill_regular.ensures.beside
      c.if-o-l.true;
}

pub put_level-requires : goal.put_level-requires
put_level-requires c = key-few _ _ _ c.key_at-n.ensures

pub returns-then-gone-l : goal.returns-then-gone-l
returns-then-gone-l c = each
    (filled_on c.args.numbers.now _ c.args.i c.args.k _
    c.regular_at-o.result
    c.level_at-l.result c.requires
    c.regular_at-o.ensures
    c.key_at-n.ensures c.level_at-l.ensures
    c.fill_regular.ensures.numbers_after
    c.fill_regular.ensures.beside _ _
    c.put_level.ensures
    (filled-rest c.args.numbers.now _ c.args.i c.args.k _
    c.regular_at-o.result
    c.level_at-l.result c.requires
    c.regular_at-o.ensures
    c.key_at-n.ensures c.level_at-l.ensures
    c.fill_regular.ensures.numbers_after
    c.fill_regular.ensures.beside _
    (c.from-gone.ensures ∙ c.lesser.ensures ∙ ap (min c.args.k) c.shown_size-shown.ensures)
    c.if-o-l.false c.if-gone-l.true _
    refl))

pub level_of-anew-requires : goal.level_of-anew-requires
level_of-anew-requires c = record {
  series = series-in c.args.numbers.now c.args.i
      c.regular_at-o.result c.regular_at-o.ensures;
  side = side-in c.args.numbers.now c.args.i
      c.regular_at-o.result c.regular_at-o.ensures;
}

pub put_level-requires-2 : goal.put_level-requires-2
put_level-requires-2 c = key-few _ _ _ c.key_at-n.ensures

pub returns : goal.returns
returns c = each
    (filled_on c.args.numbers.now _ c.args.i c.args.k _
    c.regular_at-o.result
    c.level_at-l.result c.requires
    c.regular_at-o.ensures
    c.key_at-n.ensures
    c.level_at-l.ensures c.fill_regular.ensures.numbers_after
    c.fill_regular.ensures.beside _ _ c.put_level-2.ensures (λ _. c.level_of-anew.ensures))
