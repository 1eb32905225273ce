-- `arithmetic::weighed_price` meets its contract.
use mathlib.Core.Path.{ap, ◌∙◌}
use Prim.Native.Nat.{ℕ, ◌*◌, ◌≤◌, ◌<◌}
use native.Mathlib.Nat.{mul-le-mul}
use borrow.Author.Tests.{eq-eqb, ne_eqb}
use native.Mathlib.Omega.{arith}
use lib.IntN.{nat_abs, pos}
use Rattle.rules.specs.Words.{sign_times}
use Rattle.rules.specs.Prices.{weighed}
use Rattle.rules.proofs.Integers.{abs_neg}
use Rattle.rules.proofs.Machine.{neg-fits, neg-ok, cast-of}
use borrow.Author.Rules.{rules}
-- the product fits
use Rattle.arithmetic.proofs.weighed_price.Goals as goal

module _ (r p : ℕ) (r8 : r < 256) (p32 : p < 4294967296) where
  product : r * p ≤ 1095216660225
  product = mul-le-mul {n₂ = 255} {m₂ = 4294967295} (omega arith) (omega arith)

pub overflow_mul-p : goal.overflow_mul-p
overflow_mul-p c = let m = product c.args.ratio c.args.price (omega arith) (omega arith) in search rules

pub overflow_cast-result : goal.overflow_cast-result
overflow_cast-result c = let m = product c.args.ratio c.args.price (omega arith) (omega arith) in search rules

pub returns-then-side-eq0 : goal.returns-then-side-eq0
unfolding weighed sign_times
returns-then-side-eq0 c =
    let m = product c.args.ratio c.args.price (omega arith) (omega arith) in
    let e = cast-of (c.args.ratio * c.args.price) (omega arith) in
    (e ∙ simp (eq-eqb _ _ c.if-side-eq0.true), omega (arith, ap nat_abs e))

pub overflow_cast-result-2 : goal.overflow_cast-result-2
overflow_cast-result-2 c = let m = product c.args.ratio c.args.price (omega arith) (omega arith) in search rules

pub overflow_sub-result : goal.overflow_sub-result
overflow_sub-result c =
    let m = product c.args.ratio c.args.price (omega arith) (omega arith) in
    neg-fits (c.args.ratio * c.args.price) (omega arith)

pub returns : goal.returns
unfolding weighed sign_times
returns c =
    let m = product c.args.ratio c.args.price (omega arith) (omega arith) in
    let e = neg-ok (c.args.ratio * c.args.price) (omega arith) in
    (e ∙ simp (ne_eqb _ _ c.if-side-eq0.false), omega (arith, ap nat_abs e, abs_neg (pos (c.args.ratio * c.args.price))))
