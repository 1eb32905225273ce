-- `arithmetic::sign_times_price` meets its contract.
use mathlib.Core.Path.{ap, ◌∙◌}
use borrow.Author.Tests.{eq-eqb, ne_eqb}
use native.Mathlib.Omega.{arith}
use lib.IntN.{nat_abs, pos}
use Rattle.rules.specs.Words.{sign_times}
use Rattle.rules.proofs.Integers.{abs_neg}
use Rattle.rules.proofs.Machine.{neg-fits, neg-ok, cast-of}
use Rattle.arithmetic.proofs.sign_times_price.Goals as goal

pub returns-then-side-eq0 : goal.returns-then-side-eq0
unfolding sign_times
returns-then-side-eq0 c = let e = cast-of c.args.price (omega arith) in (e ∙ simp (eq-eqb _ _ c.if-side-eq0.true), omega (arith, ap nat_abs e))

pub overflow_sub-result : goal.overflow_sub-result
overflow_sub-result c = neg-fits c.args.price (omega arith)

pub returns : goal.returns
unfolding sign_times
returns c = let e = neg-ok c.args.price (omega arith) in (e ∙ simp (ne_eqb _ _ c.if-side-eq0.false), omega (arith, ap nat_abs e, abs_neg (pos c.args.price)))
