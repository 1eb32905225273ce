-- `venue_writer::RatiosTable::put` meets its contract.
use Rattle.rules.specs.Bytes.{bytes}
use Rattle.rules.proofs.Reading.{byte}
use Rattle.venue_bytes.specs.Held.{ratio_bytes}
use Rattle.venue_writer.proofs.Whole.{plus_is}
use borrow.Author.Rules.{rules}
use Rattle.venue_writer.proofs.RatiosTable.put.Goals as goal

pub returns : goal.returns
unfolding ratio_bytes bytes
returns c =
    plus_is _ _ _ _ c.put.ensures (rw (byte c.args.c.ratio1 (search rules), byte c.args.c.ratio2 (search rules)))
