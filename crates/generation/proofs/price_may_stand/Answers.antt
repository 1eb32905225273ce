-- `generation::price_may_stand` meets its contract.
use Rattle.settling.proofs.PartsLaws.{off, on, displayed-is}
use Rattle.generation.proofs.PartsLaws.{stand-own, stand-away}
use Rattle.generation.specs.Parts.{price_may_stand}
use Rattle.places.specs.Layout.{venue_of}
use Rattle.rules.specs.Prices.{best_regular}
use Rattle.levels.proofs.Sides.{opposite-in}
use mathlib.Core.Bool.{not}
use mathlib.Core.Path.{sym, ap, ◌∙◌}
use Rattle.generation.proofs.price_may_stand.Goals as goal

pub returns-then-not-displayed_no_worse : goal.returns-then-not-displayed_no_worse
unfolding price_may_stand
returns-then-not-displayed_no_worse c =
    simp (off _ _ (displayed-is (venue_of c.args.numbers.now) _ _ _ _ _ c.requires.own c.displayed_no_worse.ensures) c.if-not-displayed_no_worse.true-raw)

pub best_own-requires : goal.best_own-requires
best_own-requires c =
    let p = c.requires in
    let a = c.args in record {
      best = p.facing ∙ ap (best_regular (venue_of a.numbers.now) a.s) (sym c.opposite_of-f.ensures);
      series = p.series;
      side = rw c.opposite_of-f.ensures (opposite-in _);
    }

pub returns-then-reaches_any : goal.returns-then-reaches_any
returns-then-reaches_any c =
    stand-own _ _ _ _ _ c.opposite_of-f.ensures
    (on _ _ (displayed-is (venue_of c.args.numbers.now) _ _ _ _ _
    c.requires.own c.displayed_no_worse.ensures)
    c.if-not-displayed_no_worse.false-raw) _
    c.best_own.ensures (sym c.reaches_any.ensures ∙ c.if-reaches_any.true)

pub returns : goal.returns
returns c =
    ap not c.reaches_any-2.ensures
    ∙ stand-away _ _ _ _ _ c.opposite_of-f.ensures
    (on _ _ (displayed-is (venue_of c.args.numbers.now) _ _ _ _ _
    c.requires.own
    c.displayed_no_worse.ensures)
    c.if-not-displayed_no_worse.false-raw) _
    c.best_own.ensures (sym c.reaches_any.ensures ∙ c.if-reaches_any.false) _ c.away_price.ensures
