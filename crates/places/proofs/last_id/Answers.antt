-- `places::last_id` meets its contract.
use Rattle.places.specs.Layout.{venue_of}
use borrow.Author.Rules.{rules}
use Rattle.places.proofs.last_id.Goals as goal

pub returns : goal.returns
unfolding venue_of
returns c = search rules
