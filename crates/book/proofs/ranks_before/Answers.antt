-- `book::ranks_before` meets its contract.
use mathlib.Core.Path.{sym, ◌∙◌}
use Rattle.book.proofs.PicksLaws.{rank-better, rank-worse, rank_same}
use Rattle.book.proofs.ranks_before.Goals as goal

pub returns-then-is_better : goal.returns-then-is_better
returns-then-is_better c = rank-better _ _ (sym c.is_better.ensures ∙ c.if-is_better.true)

pub returns-then-a-m : goal.returns-then-a-m
returns-then-a-m c = rank-worse _ _ (sym c.is_better.ensures ∙ c.if-is_better.false) c.if-a-m.true

pub returns : goal.returns
returns c = rank_same _ _ (sym c.is_better.ensures ∙ c.if-is_better.false) c.if-a-m.false _ c.shows_first.ensures
