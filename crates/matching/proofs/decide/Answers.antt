-- `matching::decide` meets its contract.
use mathlib.Core.Path.{sym, ◌∙◌}
use native.Mathlib.Omega.{arith}
use Rattle.places.specs.Layout.{venue_of}
use Rattle.places.proofs.Parts.{regulars-few, regular-at}
use Rattle.levels.proofs.LevelWithOrder.{series-in}
use Rattle.matching.specs.Turns.{turn_of}
use Rattle.matching.proofs.TurnsLaws.{turn-idle, none-hit, none_end, some-hit, some-meet, met-used}
use Rattle.matching.proofs.decide.Goals as goal

pub regular_at-o-requires : goal.regular_at-o-requires
regular_at-o-requires c = let w = regulars-few c.args.numbers.now in omega arith

pub returns-then-o-eq0 : goal.returns-then-o-eq0
unfolding turn_of
returns-then-o-eq0 c = (
  turn-idle c.args.i (venue_of c.args.numbers.now) _ (c.regular_at-o.ensures ∙ sym (regular-at c.args.numbers.now c.args.i c.requires.in_use))
      c.if-o-eq0.true,
  tt,
)

pub facing-l-requires : goal.facing-l-requires
facing-l-requires c =
    series-in c.args.numbers.now c.args.i _ c.regular_at-o.ensures

pub first_met-found-requires : goal.first_met-found-requires
first_met-found-requires c =
    record { right = c.requires.right; series = series-in c.args.numbers.now c.args.i _ c.regular_at-o.ensures }

pub returns-then-legging_first : goal.returns-then-legging_first
unfolding turn_of
returns-then-legging_first c = (
  none-hit c.args.i (venue_of c.args.numbers.now) _ (c.regular_at-o.ensures ∙ sym (regular-at c.args.numbers.now c.args.i c.requires.in_use))
      _ c.if-o-eq0.false c.facing-l.ensures _ (sym c.in-None.is ∙ c.first_met-found.ensures)
      (sym c.legging_first.ensures ∙ c.if-legging_first.true) c.min.ensures,
  tt,
)

pub returns-then-legging_first-2 : goal.returns-then-legging_first-2
unfolding turn_of
returns-then-legging_first-2 c = (
  some-hit c.args.i (venue_of c.args.numbers.now) _ (c.regular_at-o.ensures ∙ sym (regular-at c.args.numbers.now c.args.i c.requires.in_use))
      _ c.if-o-eq0.false c.facing-l.ensures _ _ (sym c.in-Some.is ∙ c.first_met-found.ensures) _
      (sym c.legging_first-in-Some.ensures ∙ c.if-legging_first-2.true) c.min-then-legging_first-2.ensures,
  tt,
)

pub returns-else-legging_first : goal.returns-else-legging_first
unfolding turn_of
returns-else-legging_first c = (
  none_end c.args.i (venue_of c.args.numbers.now) _ (c.regular_at-o.ensures ∙ sym (regular-at c.args.numbers.now c.args.i c.requires.in_use))
      _ c.if-o-eq0.false c.facing-l.ensures (sym c.in-None.is ∙ c.first_met-found.ensures)
      (sym c.legging_first.ensures ∙ c.if-legging_first.false),
  tt,
)

pub returns-else-legging_first-2 : goal.returns-else-legging_first-2
unfolding turn_of
returns-else-legging_first-2 c =
    let e = sym c.in-Some.is ∙ c.first_met-found.ensures in (
      some-meet c.args.i (venue_of c.args.numbers.now) _
          (c.regular_at-o.ensures ∙ sym (regular-at c.args.numbers.now c.args.i c.requires.in_use)) _ c.if-o-eq0.false c.facing-l.ensures _ _ e _ _
          (sym c.legging_first-in-Some.ensures ∙ c.if-legging_first-2.false) c.at_once.ensures c.min-in-Some.ensures,
      met-used c.args.numbers.now _ _ _ _ _ e,
    )
