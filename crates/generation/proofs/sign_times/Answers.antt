-- `generation::sign_times` meets its contract.
use Rattle.generation.proofs.PartsLaws.{sign-buy, sign-sell, turned-fits, turned-is}
use Rattle.rules.proofs.Machine.{back}
use mathlib.Core.Path.{◌∙◌}
use Rattle.generation.proofs.sign_times.Goals as goal

pub returns-then-d-eq0 : goal.returns-then-d-eq0
returns-then-d-eq0 c = back {z = c.args.z} c.ranges.z ∙ sign-buy _ c.args.z c.if-d-eq0.true

pub returns : goal.returns
returns c = turned-is c.args.z c.ranges.z (turned-fits c.args.z c.ranges.z c.requires) ∙ sign-sell _ c.args.z c.if-d-eq0.false
