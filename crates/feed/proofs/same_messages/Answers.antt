-- `feed::same_messages` meets its contract.
use mathlib.Core.Path.{ap₂, ◌∙◌}
use Rattle.feed.specs.Feed.{same}
use Rattle.feed.proofs.Cursors.{same-pointwise}
use Rattle.feed.proofs.same_messages.Goals as goal

pub returns : goal.returns
returns c = c.eq.ensures ∙ same-pointwise _ _ ∙ ap₂ same c.message-a.ensures c.message-b.ensures
