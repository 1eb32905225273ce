-- `messages::step_or_leave` meets its contract.
use mathlib.Core.Path.{refl}
use native.Mathlib.Omega.{arith}
use Rattle.messages.proofs.Trying.{tries-done, tries_left}
use Rattle.messages.proofs.step_or_leave.Goals as goal

pub returns-then-r-out : goal.returns-then-r-out
returns-then-r-out c = tries-done _ _ _ _ _ _ c.step-r.ensures (omega arith)

pub returns : goal.returns
returns c = tries_left _ _ _ _ _ _ c.step-r.ensures _ (omega arith)
    refl c.requires.dense
