use mathlib.Core.Path.{◌∙◌}
use Rattle.records.proofs.Fields.{four-bytes}
use Rattle.records.proofs.bytes4.Goals as goal

pub returns : goal.returns
returns c = c.to_le_bytes.ensures ∙ four-bytes c.args.x
