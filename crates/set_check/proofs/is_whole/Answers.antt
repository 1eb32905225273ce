-- `set_check::is_whole` meets its contract.
use mathlib.Core.Path.{ap}
use Prim.Native.Nat.{ℕ}
use lib.Dec.{eqb}
use borrow.Author.Tests.{eq-eqb, ne_eqb}
use Rattle.set_check.specs.Order.{is_whole}
use Rattle.set_check.proofs.is_whole.Goals as goal

pub returns-then-st-eq0 : goal.returns-then-st-eq0
unfolding is_whole
returns-then-st-eq0 c = rw (eq-eqb _ _ c.if-st-eq0.true) (ap (λ (k : ℕ). eqb k 80) c.kind_of.ensures)

pub returns : goal.returns
unfolding is_whole
returns c = rw (ne_eqb _ _ c.if-st-eq0.false)
