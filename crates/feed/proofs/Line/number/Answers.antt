-- `feed::Line::number` meets its contract.
use mathlib.Core.Path.{sym, ◌∙◌}
use native.Mathlib.Omega.{arith}
use Rattle.std.proofs.lemmas.Bool.{leb-true, leb-false}
use Rattle.feed.proofs.Cursors.{number-none, number-here}
use Rattle.feed.proofs.Line.number.Goals as goal

pub returns-then-is_at_end : goal.returns-then-is_at_end
returns-then-is_at_end c = let e = leb-true _ _ (sym c.is_at_end.ensures ∙ c.if-is_at_end.true) in number-none c.args.self.bytes.now c.args.self.at (omega arith)

pub returns-then-self-lt4 : goal.returns-then-self-lt4
returns-then-self-lt4 c = number-none c.args.self.bytes.now c.args.self.at (omega arith)

pub returns : goal.returns
returns c = let e = leb-false _ _ (sym c.is_at_end.ensures ∙ c.if-is_at_end.false) in c.u32_at.ensures ∙ number-here c.args.self.bytes.now c.args.self.at (omega arith)
