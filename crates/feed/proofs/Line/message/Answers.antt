-- `feed::Line::message` meets its contract.
use mathlib.Core.Path.{◌∙◌}
use Rattle.feed.proofs.Cursors.{message-here}
use Rattle.feed.proofs.Line.message.Goals as goal

pub returns : goal.returns
returns c = message-here c.args.self.bytes.now c.args.self.at _ (c.from.ensures ∙ c.u16_at-length.ensures)
