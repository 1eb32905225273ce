-- `settling::test_order` meets its contract.
use Rattle.settling.proofs.PartsLaws.{off, on, displayed-is}
use Rattle.levels.proofs.Sides.{own_is}
use Rattle.places.specs.Layout.{venue_of}
use Rattle.rules.proofs.Machine.{back}
use Rattle.rules.specs.Standing.{verdict_of}
use Rattle.rules.specs.Prices.{in_band}
use mathlib.Core.Path.{ap, ◌∙◌}
use Rattle.settling.proofs.test_order.Goals as goal

pub returns-then-not-displayed_no_worse : goal.returns-then-not-displayed_no_worse
unfolding verdict_of
returns-then-not-displayed_no_worse c = simp (off _ _
    (displayed-is (venue_of c.args.numbers.now) _ _ _ _ _
    (own_is _ c.args.sides c.args.c _ _ c.requires.sides)
    c.displayed_no_worse.ensures) c.if-not-displayed_no_worse.true-raw)

pub returns-then-not-in_band : goal.returns-then-not-in_band
unfolding verdict_of
returns-then-not-in_band c =
    let a = c.args in
    let q = back {z = c.limit_of.result} (record { sfits = c.limit_of.type_inv }) ∙ c.limit_of.ensures.0 in
    simp (
      on _ _ (displayed-is (venue_of c.args.numbers.now) _ _ _ _ _
          (own_is _ c.args.sides
          c.args.c _ _
          c.requires.sides) c.displayed_no_worse.ensures)
          c.if-not-displayed_no_worse.false-raw,
      off _ _ (c.in_band.ensures ∙ ap (in_band (venue_of a.numbers.now) a.c) q) c.if-not-in_band.true-raw,
    )

pub returns-then-not-can_pair : goal.returns-then-not-can_pair
unfolding verdict_of
returns-then-not-can_pair c =
    let a = c.args in
    let q = back {z = c.limit_of.result} (record { sfits = c.limit_of.type_inv }) ∙ c.limit_of.ensures.0 in
    simp (
      on _ _ (displayed-is (venue_of c.args.numbers.now) _ _ _ _ _
          (own_is _ c.args.sides
          c.args.c _ _
          c.requires.sides)
          c.displayed_no_worse.ensures)
          c.if-not-displayed_no_worse.false-raw,
      on _ _ (c.in_band.ensures ∙ ap (in_band (venue_of a.numbers.now) a.c) q) c.if-not-in_band.false-raw,
      off _ _ c.can_pair.ensures c.if-not-can_pair.true-raw,
    )

pub returns-then-not-both_open : goal.returns-then-not-both_open
unfolding verdict_of
returns-then-not-both_open c =
    let a = c.args in
    let q = back {z = c.limit_of.result} (record { sfits = c.limit_of.type_inv }) ∙ c.limit_of.ensures.0 in
    simp (
      on _ _ (displayed-is (venue_of c.args.numbers.now) _ _ _ _ _
          (own_is _ c.args.sides
          c.args.c _ _
          c.requires.sides)
          c.displayed_no_worse.ensures)
          c.if-not-displayed_no_worse.false-raw,
      on _ _ (c.in_band.ensures ∙ ap (in_band (venue_of a.numbers.now) a.c) q) c.if-not-in_band.false-raw,
      on _ _ c.can_pair.ensures c.if-not-can_pair.false-raw,
      off _ _ c.both_open.ensures c.if-not-both_open.true-raw,
    )

pub returns : goal.returns
unfolding verdict_of
returns c =
    let a = c.args in
    let q = back {z = c.limit_of.result} (record { sfits = c.limit_of.type_inv }) ∙ c.limit_of.ensures.0 in
    simp (
      on _ _ (displayed-is (venue_of c.args.numbers.now) _ _ _ _ _
          (own_is _ c.args.sides
          c.args.c _ _
          c.requires.sides)
          c.displayed_no_worse.ensures)
          c.if-not-displayed_no_worse.false-raw,
      on _ _ (c.in_band.ensures ∙ ap (in_band (venue_of a.numbers.now) a.c) q) c.if-not-in_band.false-raw,
      on _ _ c.can_pair.ensures c.if-not-can_pair.false-raw,
      on _ _ c.both_open.ensures c.if-not-both_open.false-raw,
    )
