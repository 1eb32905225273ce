-- `set_check::are_few` meets its contract.
use native.Mathlib.Omega.{arith}
use Rattle.set_check.proofs.OrderLaws.{few-not, few-run}
use Rattle.set_check.proofs.are_few.Goals as goal

pub returns-then-st-gt32 : goal.returns-then-st-gt32
returns-then-st-gt32 c = few-not _ (λ f. omega arith)

pub returns-then-st-gt128 : goal.returns-then-st-gt128
returns-then-st-gt128 c = few-not _ (λ f. omega arith)

pub returns-then-st-gt32-2 : goal.returns-then-st-gt32-2
returns-then-st-gt32-2 c = few-not _ (λ f. omega arith)

pub returns-then-st-gt16 : goal.returns-then-st-gt16
returns-then-st-gt16 c = few-not _ (λ f. omega arith)

pub returns : goal.returns
returns c = few-run _ (omega arith) (omega arith) (omega arith) (omega arith)
