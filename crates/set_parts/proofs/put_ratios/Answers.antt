-- `set_parts::put_ratios` meets its contract.
use borrow.Author.Rules.{rules}
use Rattle.rules.specs.Bytes.{bytes}
use Rattle.rules.proofs.Reading.{byte}
use Rattle.set_parts.proofs.SetMemoryLaws.{wrote}
use Rattle.set_parts.proofs.put_ratios.Goals as goal

pub returns : goal.returns
unfolding bytes
returns c = wrote _ _ _ _ _ _ c.put.ensures
    (rw (byte c.args.c.ratio1 (search rules), byte c.args.c.ratio2 (search rules)))
