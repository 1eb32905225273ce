-- `arithmetic::is_up_to` meets its contract.
use native.Mathlib.Omega.{arith}
use Rattle.rules.proofs.Ranges.{below, within-top}
use Rattle.arithmetic.proofs.is_up_to.Goals as goal

pub returns-then-n-eq0 : goal.returns-then-n-eq0
returns-then-n-eq0 c = rw (below 1 c.args.highest c.args.n (omega arith))

pub returns : goal.returns
returns c = within-top 1 c.args.highest _ (omega arith)
