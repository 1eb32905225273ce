-- `set_parts::put_all_generations` meets its contract.
use native.Mathlib.Omega.{arith}
use Rattle.places.specs.Layout.{venue_of}
use Rattle.places.proofs.Generations.{generations-many}
use Rattle.set_parts.proofs.SetMemoryLaws.{left-next, left-none}
use Rattle.set_parts.proofs.PartsLaws.{generations-next, generations-none}
use Rattle.set_parts.proofs.put_all_generations.Goals as goal

pub loop-s-preserved : goal.loop-s-preserved
loop-s-preserved c = left-next _ _ _ _ _ _ _ _ _ _ c.loop-s.invariant
    (generations-next (venue_of c.args.numbers.now) _ (omega (arith, generations-many c.args.numbers.now))) c.put_generations-pos.ensures

pub returns : goal.returns
returns c = left-none _ _ _ _ _ _ c.loop-s.invariant (generations-none _ _ (omega (arith, generations-many c.args.numbers.now)))
