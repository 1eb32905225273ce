-- `set_check::set_length` meets its contract.
use mathlib.Core.Path.{◌≡◌, refl, sym, ap}
use native.Mathlib.Omega.{arith}
use Rattle.set_check.proofs.Fronts.{length-first, length_none}
use Rattle.sets.specs.Set.{set_length}
use Rattle.set_check.proofs.set_length.Goals as goal

pub returns-then-kind-le10 : goal.returns-then-kind-le10
returns-then-kind-le10 c = c.early_length.ensures

pub returns-then-kind-lt80 : goal.returns-then-kind-lt80
returns-then-kind-lt80 c = length_none _ (omega arith) (λ e. omega arith) (λ e. omega arith) (λ e. omega arith) (λ e. omega arith) (λ e. omega arith)

pub returns-then-kind-le81 : goal.returns-then-kind-le81
returns-then-kind-le81 c = length-first _ _ refl (omega arith) (omega arith)

pub returns-then-kind-le82 : goal.returns-then-kind-le82
unfolding set_length
returns-then-kind-le82 c = let k : c.args.kind ≡ 82 = omega arith in sym (ap set_length k)

pub returns-then-kind-le83 : goal.returns-then-kind-le83
unfolding set_length
returns-then-kind-le83 c = let k : c.args.kind ≡ 83 = omega arith in sym (ap set_length k)

pub returns-then-kind-eq84 : goal.returns-then-kind-eq84
unfolding set_length
returns-then-kind-eq84 c = sym (ap set_length c.if-kind-eq84.true)

pub returns : goal.returns
returns c = length_none _ (omega arith) (λ e. omega arith) (λ e. omega arith) (λ e. omega arith) (λ e. omega arith) (λ e. omega arith)
