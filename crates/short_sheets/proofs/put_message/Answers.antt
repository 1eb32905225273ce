use Rattle.std.proofs.Common.{arith}
use Rattle.rules.specs.Opened.{opened-rules}
use Rattle.short_sheets.specs.Short.{list, message_at, messages_of}
use Rattle.short_sheets.proofs.Listed.{listed, message-is}
use Rattle.short_sheets.proofs.put_message.Goals as goal

pub returns : goal.returns
unfolding list message_at messages_of opened-rules
returns c = rw (← c.from-i.ensures) (message-is _ _ _ (listed _ (omega (arith, c.requires, c.from-i.ensures))) c.put.ensures)
