-- `refusals::off_increment` meets its contract.
use mathlib.Core.Path.{ap, ◌∙◌}
use mathlib.Core.Bool.{not}
use Prim.Native.Nat.{ℕ, ◌%◌}
use lib.Dec.{eqb}
use Rattle.rules.specs.Refusals.{on_increment, off_increment}
use Rattle.refusals.proofs.off_increment.Goals as goal

pub returns : goal.returns
unfolding off_increment on_increment
returns c = ap (λ (x : ℕ). not (eqb (c.args.o.price % x) 0))
    (c.from.ensures ∙ c.increment_of-increment.ensures.0)
