-- `prices::better` meets its contract.
use mathlib.Core.Path.{◌∙◌}
use Rattle.std.proofs.Common.{rules}
use Rattle.prices.proofs.Ranked.{better-none, better-kept, better-new}
use Rattle.prices.proofs.better.Goals as goal

pub returns-in_default : goal.returns-in_default
returns-in_default g c = λ order h. better-none order _ _ _ c.in_default.is

pub returns-then-before : goal.returns-then-before
returns-then-before g c =
    λ order h. better-kept order c.args.best c.args.n c.args.x c.in-Some.i _ _ (h _ _ c.before-2.ensures) c.if-before.true (c.in-Some.is ∙ search rules)

pub returns : goal.returns
returns g c =
    λ order h. better-new order c.args.best c.args.n c.args.x c.in-Some.i _ _ (h _ _ c.before-2.ensures) c.if-before.false (c.in-Some.is ∙ search rules)
