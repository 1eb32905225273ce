-- `set_tables::one_more` meets its contract.
use borrow.Author.Rules.{rules}
use Rattle.set_tables.proofs.ToldLaws.{turned}
use Rattle.set_tables.proofs.one_more.Goals as goal

pub returns : goal.returns
returns c = turned _ _ _ (search rules) c.rotate_left.ensures.after
