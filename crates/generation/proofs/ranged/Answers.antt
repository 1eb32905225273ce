-- `generation::ranged` meets its contract.
use native.Mathlib.Omega.{arith}
use Rattle.generation.proofs.PartsLaws.{ranged-far, ranged-low, ranged-high, ranged-in}
use Rattle.generation.proofs.ranged.Goals as goal

pub returns-then-p-gt100254 : goal.returns-then-p-gt100254
returns-then-p-gt100254 c = ranged-far _ _ _ _ _ c.increment_of-increment.ensures.0 c.increment_of-increment.ensures.1 (omega arith) c.if-p-gt100254.true

pub returns-then-displayed-from : goal.returns-then-displayed-from
returns-then-displayed-from c = ranged-low _ _ _ _ _ _ c.displayed_price-displayed.ensures c.increment_of-increment.ensures.0 (omega (arith, c.if-displayed-from.true, c.from.ensures))

pub returns-then-displayed-gt100000 : goal.returns-then-displayed-gt100000
returns-then-displayed-gt100000 c = ranged-high _ _ _ _ _ _ c.displayed_price-displayed.ensures c.increment_of-increment.ensures.0 (omega (arith, c.if-displayed-from.false, c.from.ensures)) c.if-displayed-gt100000.true

pub returns : goal.returns
returns c = ranged-in _ _ _ _ _ _ c.displayed_price-displayed.ensures c.increment_of-increment.ensures.0 (omega (arith, c.if-displayed-from.false, c.from.ensures)) c.if-displayed-gt100000.false
