-- `venue_writer::EditionsTable::put` meets its contract.
use Rattle.rules.specs.Bytes.{bytes}
use Rattle.rules.proofs.Reading.{byte}
use Rattle.venue_bytes.specs.Held.{edition_bytes}
use Rattle.venue_writer.proofs.Whole.{plus_is}
use borrow.Author.Rules.{rules}
use Rattle.venue_writer.proofs.EditionsTable.put.Goals as goal

pub returns : goal.returns
unfolding edition_bytes bytes
returns c =
    plus_is _ _ _ _ c.put.ensures
    (rw (
      c.bytes4-e.ensures,
      c.bytes4-m.ensures,
      byte c.args.x.figure (search rules),
      byte c.args.x.value (search rules),
    ))
