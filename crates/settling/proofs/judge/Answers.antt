-- `settling::judge` meets its contract.
use Rattle.settling.proofs.PartsLaws.{verdict-free, verdict-held}
use Rattle.levels.specs.Grid.{LegsIn}
use Rattle.levels.proofs.Sides.{sides-right}
use Rattle.prices.proofs.Prices.{parent-legs}
use Rattle.places.proofs.Parts.{legging-at}
use native.Mathlib.Omega.{arith}
use mathlib.Core.Path.{sym, ◌∙◌}
use Rattle.settling.proofs.judge.Goals as goal

pub returns-then-l-eq0 : goal.returns-then-l-eq0
returns-then-l-eq0 c = verdict-free _ _ c.legging_at-l.result _
    (c.legging_at-l.ensures ∙ sym (legging-at c.args.numbers.now c.args.n c.requires.place)) c.if-l-eq0.true

pub sides_of-sides-requires : goal.sides_of-sides-requires
sides_of-sides-requires c = (
  rw c.parent_of-c.ensures
      (parent-legs c.args.numbers.now c.legging_at-l.result),
  omega arith,
  omega arith,
)

pub test_order-requires : goal.test_order-requires
test_order-requires c =
    let p = c.requires in
    let legs : LegsIn c.parent_of-c.result = rw c.parent_of-c.ensures
    (parent-legs c.args.numbers.now c.legging_at-l.result) in record {
      sides = sides-right c.args.g _ p.grid c.parent_of-c.result legs _ _ (omega arith)
          (omega arith) c.sides_of-sides.result c.sides_of-sides.ensures;
      legs = legs;
      series = omega arith;
      figures = p.figures;
    }

pub returns : goal.returns
returns c =
    verdict-held _ _ c.legging_at-l.result _ c.parent_of-c.result _
    (c.legging_at-l.ensures
    ∙ sym (legging-at c.args.numbers.now
    c.args.n c.requires.place))
    c.if-l-eq0.false c.parent_of-c.ensures c.test_order.ensures
