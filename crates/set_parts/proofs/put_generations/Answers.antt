-- `set_parts::put_generations` meets its contract.
use mathlib.Core.Path.{ap}
use Prim.Native.Nat.{ℕ}
use native.Mathlib.Omega.{arith}
use Rattle.rules.specs.Base.{held}
use Rattle.rules.specs.Generation.{generations_of}
use Rattle.places.specs.Layout.{venue_of}
use Rattle.places.proofs.Generations.{generations-twenty}
use Rattle.sets.specs.Set.{generation_record}
use Rattle.set_parts.specs.Parts.{record_if}
use Rattle.set_parts.proofs.SetMemoryLaws.{adds_same, left-next, left-none}
use Rattle.set_parts.proofs.PartsLaws.{dropped-next, dropped-none}
use Rattle.set_parts.proofs.put_generations.Goals as goal

pub loop-k-preserved : goal.loop-k-preserved
loop-k-preserved c =
    left-next _ _ _ _ _ _ _ _ _ _ c.loop-k.invariant
    (dropped-next (generation_record c.args.s) held (generations_of (venue_of c.args.numbers.now) c.args.s) 0 _
    (omega (arith, generations-twenty c.args.numbers.now c.args.s)))
    (adds_same _ _ _ _ c.put_generation-pos.ensures (ap (λ (n : ℕ). record_if (held n) (generation_record c.args.s n)) c.generation_at-number.ensures))

pub returns : goal.returns
returns c = left-none _ _ _ _ _ _ c.loop-k.invariant
    (dropped-none (generation_record c.args.s) held (generations_of (venue_of c.args.numbers.now) c.args.s) c.loop-k.k
    (omega (arith, generations-twenty c.args.numbers.now c.args.s)))
