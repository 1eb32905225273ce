use native.Mathlib.Omega.{arith}
use Rattle.short_sessions.proofs.Holding.{is_none, is_one, is-three, is-two, none_first, none_more, none-of_two, none-of_three, other_length}
use Rattle.short_sessions.proofs.session_in.Goals as goal

pub returns-in-0 : goal.returns-in-0
returns-in-0 c = is_none _ _ (omega arith) (omega arith)

pub returns-in-1 : goal.returns-in-1
returns-in-1 c = is_one _ _ (omega arith) (omega arith) (omega arith)

pub returns-in-2 : goal.returns-in-2
returns-in-2 c = is-two _ _ (omega arith) (omega arith) (omega arith) (omega arith)

pub returns-in-3 : goal.returns-in-3
returns-in-3 c = is-three _ _ (omega arith) (omega arith) (omega arith) (omega arith) (omega arith)

pub returns-in_default : goal.returns-in_default
returns-in_default c = other_length _ _ (omega arith)

pub returns-in_default-2 : goal.returns-in_default-2
returns-in_default-2 c = none_first _ _ (omega arith) (omega arith) (omega arith)

pub returns-in_default-3 : goal.returns-in_default-3
returns-in_default-3 c = none-of_two _ _ (omega arith) (omega arith) (omega arith)

pub returns-in_default-4 : goal.returns-in_default-4
returns-in_default-4 c = none-of_three _ _ (omega arith) (omega arith) (omega arith)

pub returns-in_default-5 : goal.returns-in_default-5
returns-in_default-5 c = none_more _ _ (omega arith) (omega arith)

pub returns-in_default-6 : goal.returns-in_default-6
returns-in_default-6 c = other_length _ _ (omega arith)
