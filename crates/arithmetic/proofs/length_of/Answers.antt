-- `arithmetic::length_of` meets its contract.
use mathlib.Core.Path.{◌≡◌, sym, ap}
use native.Mathlib.Omega.{arith}
use borrow.Author.Tests.{ne_eqb}
use Rattle.rules.specs.Messages.{length_of}
use Rattle.arithmetic.proofs.length_of.Goals as goal

pub returns-then-kind-eq0 : goal.returns-then-kind-eq0
unfolding length_of
returns-then-kind-eq0 c = sym (ap length_of c.if-kind-eq0.true)

pub returns-then-kind-le1 : goal.returns-then-kind-le1
unfolding length_of
returns-then-kind-le1 c = let k : c.args.kind ≡ 1 = omega arith in sym (ap length_of k)

pub returns-then-kind-le2 : goal.returns-then-kind-le2
unfolding length_of
returns-then-kind-le2 c = let k : c.args.kind ≡ 2 = omega arith in sym (ap length_of k)

pub returns-then-kind-le3 : goal.returns-then-kind-le3
unfolding length_of
returns-then-kind-le3 c = let k : c.args.kind ≡ 3 = omega arith in sym (ap length_of k)

pub returns-then-kind-le4 : goal.returns-then-kind-le4
unfolding length_of
returns-then-kind-le4 c = let k : c.args.kind ≡ 4 = omega arith in sym (ap length_of k)

pub returns-then-kind-le5 : goal.returns-then-kind-le5
unfolding length_of
returns-then-kind-le5 c = let k : c.args.kind ≡ 5 = omega arith in sym (ap length_of k)

pub returns-then-kind-le6 : goal.returns-then-kind-le6
unfolding length_of
returns-then-kind-le6 c = let k : c.args.kind ≡ 6 = omega arith in sym (ap length_of k)

pub returns-then-kind-le7 : goal.returns-then-kind-le7
unfolding length_of
returns-then-kind-le7 c = let k : c.args.kind ≡ 7 = omega arith in sym (ap length_of k)

pub returns-then-kind-le8 : goal.returns-then-kind-le8
unfolding length_of
returns-then-kind-le8 c = let k : c.args.kind ≡ 8 = omega arith in sym (ap length_of k)

pub returns-then-kind-le9 : goal.returns-then-kind-le9
unfolding length_of
returns-then-kind-le9 c = let k : c.args.kind ≡ 9 = omega arith in sym (ap length_of k)

pub returns-then-kind-le10 : goal.returns-then-kind-le10
unfolding length_of
returns-then-kind-le10 c = let k : c.args.kind ≡ 10 = omega arith in sym (ap length_of k)

pub returns-then-kind-eq11 : goal.returns-then-kind-eq11
unfolding length_of
returns-then-kind-eq11 c = let k : c.args.kind ≡ 11 = omega arith in sym (ap length_of k)

pub returns : goal.returns
unfolding length_of
returns c =
    let k = c.args.kind in
    rw (
      ne_eqb k 1 (λ e. omega arith),
      ne_eqb k 2 (λ e. omega arith),
      ne_eqb k 3 (λ e. omega arith),
      ne_eqb k 4 (λ e. omega arith),
      ne_eqb k 5 (λ e. omega arith),
      ne_eqb k 6 (λ e. omega arith),
      ne_eqb k 7 (λ e. omega arith),
      ne_eqb k 8 (λ e. omega arith),
      ne_eqb k 9 (λ e. omega arith),
      ne_eqb k 10 (λ e. omega arith),
      ne_eqb k 11 (λ e. omega arith),
    )
