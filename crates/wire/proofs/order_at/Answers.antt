use Rattle.rules.specs.Messages.{order_at}
use Rattle.wire.proofs.order_at.Goals as goal

pub returns : goal.returns
unfolding order_at
returns c = rw (
  c.less.ensures,
  c.word_at-2.ensures,
  c.byte_at-2.ensures,
  c.byte_at.ensures,
  c.word_at.ensures,
  c.word_at-quantity.ensures,
)
