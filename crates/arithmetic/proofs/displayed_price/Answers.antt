-- `arithmetic::displayed_price` meets its contract.
use mathlib.Core.Path.{sym}
use Prim.Native.Nat.{◌+◌, ◌-◌}
use borrow.Author.Tests.{eq-eqb, ne_eqb}
use native.Mathlib.Omega.{arith}
use native.Mathlib.Nat.{div-add-mod'}
use Rattle.rules.specs.Prices.{displayed_price}
use Rattle.rules.proofs.Machine.{displayed-none}
use Rattle.arithmetic.proofs.displayed_price.Goals as goal

pub returns-then-increment-eq0 : goal.returns-then-increment-eq0
returns-then-increment-eq0 c = let z = c.if-increment-eq0.true in rw z (sym (displayed-none _ _))

pub overflow_mul-result : goal.overflow_mul-result
overflow_mul-result c = record { fits = omega (arith, div-add-mod' c.args.price c.args.increment) }

pub returns-then-side-eq0 : goal.returns-then-side-eq0
unfolding displayed_price
returns-then-side-eq0 c = simp (eq-eqb _ _ c.if-side-eq0.true)

pub overflow_mul-result-2 : goal.overflow_mul-result-2
overflow_mul-result-2 c =
    record { fits = omega (arith, div-add-mod' (c.args.price + (c.args.increment - 1)) c.args.increment) }

pub returns : goal.returns
unfolding displayed_price
returns c = simp (ne_eqb _ _ c.if-side-eq0.false)
