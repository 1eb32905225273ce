-- `book::first_ranked` meets its contract.
use mathlib.Core.Path.{◌≡◌, sym, ap, ◌∙◌}
use native.Mathlib.Omega.{arith}
use Rattle.rules.specs.Words.{place_of}
use Rattle.rules.specs.Order.{is_met, price_then_id}
use Rattle.book.proofs.PicksLaws.{met-key, pick-ranked}
use Rattle.book.proofs.Ranking.{met_start, met-past, met-join, met_all}
use borrow.Author.Rules.{rules}
use Rattle.book.proofs.first_ranked.Goals as goal

pub loop-i-init : goal.loop-i-init
loop-i-init c = met_start _ _ _ _ _ (omega (arith, c.regulars_used-n.ensures.0))

pub key_at-requires : goal.key_at-requires
key_at-requires c = omega (arith, c.loop-i.auto.i, c.regulars_used-n.ensures.1)

pub loop-i-preserved-then-key_at-key : goal.loop-i-preserved-then-key_at-key
loop-i-preserved-then-key_at-key c =
    let a = c.args in
    met-past a.numbers.now a.series a.side a.price _ _ c.loop-i-test.true (omega (arith, c.loop-i.auto.i, c.regulars_used-n.ensures.0)) c.loop-i.invariant
    (met-key a.series a.side a.price _
    (λ e. c.if-key_at-key.true (c.key_at.ensures ∙ e ∙ ap (place_of a.series)
    (sym c.opposite_of.ensures)
    ∙ sym c.place_of-key.ensures)))

pub regular_at-m-requires : goal.regular_at-m-requires
regular_at-m-requires c = omega (arith, c.loop-i.auto.i, c.regulars_used-n.ensures.1)

pub loop-i-preserved-then-not-is_met : goal.loop-i-preserved-then-not-is_met
loop-i-preserved-then-not-is_met c =
    let a = c.args in
    met-past a.numbers.now a.series a.side a.price _ _ c.loop-i-test.true (omega (arith, c.loop-i.auto.i, c.regulars_used-n.ensures.0)) c.loop-i.invariant
    (ap (is_met a.series a.side a.price) (sym c.regular_at-m.ensures) ∙ sym c.is_met.ensures ∙ c.if-not-is_met.true)

pub loop-i-preserved : goal.loop-i-preserved
loop-i-preserved c =
    let a = c.args in
    met-join a.numbers.now a.series a.side a.price _ _ c.loop-i-test.true (omega (arith, c.loop-i.auto.i, c.regulars_used-n.ensures.0))
    c.loop-i.invariant _ c.regular_at-m.ensures
    (sym c.is_met.ensures ∙ c.if-not-is_met.false) _ (pick-ranked _ _ _ _ (c.better-best.ensures price_then_id (λ a r p. p)))

pub returns : goal.returns
returns c = let z : c.loop-i.i ≡ 0 = search rules in met_all c.args.numbers.now _ _ _ _ _ z c.loop-i.invariant
