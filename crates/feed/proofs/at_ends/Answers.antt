-- `feed::at_ends` meets its contract.
use mathlib.Core.Path.{sym, ◌∙◌}
use Rattle.feed.proofs.at_ends.Goals as goal

pub returns-then-is_at_end : goal.returns-then-is_at_end
returns-then-is_at_end c = rw (sym c.is_at_end.ensures ∙ c.if-is_at_end.true) c.is_at_end-then-is_at_end.ensures

pub returns : goal.returns
returns c = rw (sym c.is_at_end.ensures ∙ c.if-is_at_end.false)
