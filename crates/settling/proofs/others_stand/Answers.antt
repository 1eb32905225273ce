-- `settling::others_stand` meets its contract.
use Rattle.settling.proofs.CausesFound.{stand-own, stand-free, stand-past, stand-fails, stand-end, stand-all}
use mathlib.Core.Path.{◌∙◌}
use borrow.Author.Rules.{rules}
use Rattle.settling.proofs.others_stand.Goals as goal

pub loop-n-init : goal.loop-n-init
loop-n-init c = (search rules, stand-all _ _)

pub loop-n-preserved-then-n-m : goal.loop-n-preserved-then-n-m
loop-n-preserved-then-n-m c = (
  search rules,
  stand-own c.args.numbers.now c.args.m
      c.loop-n.n c.loop-n-test.true c.if-n-m.true ∙ c.loop-n.invariant.1,
)

pub loop-n-preserved-then-l-eq0 : goal.loop-n-preserved-then-l-eq0
loop-n-preserved-then-l-eq0 c = (
  search rules,
  stand-free c.args.numbers.now
      c.args.m c.loop-n.n
      c.loop-n-test.true c.if-n-m.false c.legging_at-l.result
      c.legging_at-l.ensures c.if-l-eq0.true
      ∙ c.loop-n.invariant.1,
)

pub loop-n-preserved : goal.loop-n-preserved
loop-n-preserved c = (
  search rules,
  stand-past c.args.numbers.now
      c.args.m
      c.loop-n.n
      c.loop-n-test.true c.if-n-m.false
      c.judge.result c.judge.ensures c.in-Stands.is
      ∙ c.loop-n.invariant.1,
)

pub returns-in_default : goal.returns-in_default
returns-in_default c =
    stand-fails c.args.numbers.now
    c.args.m
    c.loop-n.n
    c.loop-n-test.true c.if-n-m.false
    c.judge.result c.judge.ensures _ c.in_default.is
    ∙ c.loop-n.invariant.1

pub returns : goal.returns
returns c = stand-end c.args.numbers.now c.args.m c.loop-n.n c.loop-n-test.false ∙ c.loop-n.invariant.1
