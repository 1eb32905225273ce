-- `set_check::sort_key` meets its contract.
use native.Mathlib.Omega.{arith}
use Rattle.set_check.proofs.OrderLaws.{sort-key-increment, sort-key-percent, sort-key-order, sort-key-legging, sort-key-generation, sort-key-none}
use Rattle.set_check.proofs.sort_key.Goals as goal

pub returns-then-kind-eq7 : goal.returns-then-kind-eq7
returns-then-kind-eq7 c = sort-key-increment _ _ (omega arith) c.u32_at.ensures

pub returns-then-kind-eq8 : goal.returns-then-kind-eq8
returns-then-kind-eq8 c = sort-key-percent _ _ (omega arith) c.u32_at-then-kind-eq8.ensures

pub returns-then-part-eq2 : goal.returns-then-part-eq2
returns-then-part-eq2 c = sort-key-order _ (λ e. omega arith) (λ e. omega arith) _ (omega arith) c.u32_at-then-part-eq2.ensures

pub returns-then-part-eq3 : goal.returns-then-part-eq3
returns-then-part-eq3 c = sort-key-legging _ (λ e. omega arith) (λ e. omega arith) _ (omega arith) c.place_of.ensures

pub returns-then-part-eq4 : goal.returns-then-part-eq4
returns-then-part-eq4 c = sort-key-generation _ (λ e. omega arith) (λ e. omega arith) _ (omega arith) (omega arith)

pub returns : goal.returns
returns c = sort-key-none _ (λ e. omega arith) (λ e. omega arith) (λ e. omega arith) (λ e. omega arith) (λ e. omega arith)
