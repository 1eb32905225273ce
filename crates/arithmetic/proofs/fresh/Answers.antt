-- `arithmetic::fresh` meets its contract.
use borrow.Author.Rules.{rules}
use Rattle.rules.specs.Words.{fresh_venue}
use Rattle.arithmetic.proofs.fresh.Goals as goal

pub returns : goal.returns
unfolding fresh_venue
returns c = search rules
