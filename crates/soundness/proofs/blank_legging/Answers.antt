-- `soundness::blank_legging` meets its contract.
use mathlib.Core.Path.{◌∙◌}
use Rattle.soundness.proofs.Beside.{legging-same}
use Rattle.soundness.proofs.blank_legging.Goals as goal

pub returns : goal.returns
returns c = c.eq.ensures ∙ legging-same c.args.l
