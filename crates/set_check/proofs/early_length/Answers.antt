-- `set_check::early_length` meets its contract.
use mathlib.Core.Path.{◌≡◌, sym, ap, ◌∙◌}
use native.Mathlib.Omega.{arith}
use Rattle.set_check.proofs.Fronts.{length-same}
use Rattle.sets.specs.Set.{set_length}
use Rattle.set_check.proofs.early_length.Goals as goal

pub returns-then-kind-le2 : goal.returns-then-kind-le2
returns-then-kind-le2 c = c.length_of.ensures ∙ length-same _ (omega arith) (λ e. omega arith) (λ e. omega arith) (λ e. omega arith) (λ e. omega arith)

pub returns-then-kind-le3 : goal.returns-then-kind-le3
unfolding set_length
returns-then-kind-le3 c = let k : c.args.kind ≡ 3 = omega arith in sym (ap set_length k)

pub returns-then-kind-le5 : goal.returns-then-kind-le5
returns-then-kind-le5 c = c.length_of-then-kind-le5.ensures ∙ length-same _ (omega arith) (λ e. omega arith) (λ e. omega arith) (λ e. omega arith) (λ e. omega arith)

pub returns-then-kind-le6 : goal.returns-then-kind-le6
unfolding set_length
returns-then-kind-le6 c = let k : c.args.kind ≡ 6 = omega arith in sym (ap set_length k)

pub returns-then-kind-le7 : goal.returns-then-kind-le7
unfolding set_length
returns-then-kind-le7 c = let k : c.args.kind ≡ 7 = omega arith in sym (ap set_length k)

pub returns-then-kind-le8 : goal.returns-then-kind-le8
unfolding set_length
returns-then-kind-le8 c = let k : c.args.kind ≡ 8 = omega arith in sym (ap set_length k)

pub returns : goal.returns
returns c = c.length_of-2.ensures ∙ length-same _ (omega arith) (λ e. omega arith) (λ e. omega arith) (λ e. omega arith) (λ e. omega arith)
