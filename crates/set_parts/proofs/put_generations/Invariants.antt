use mathlib.Core.List.{map}
use lib.ListN.{drop}
use Rattle.rules.specs.Base.{held, keep}
use Rattle.rules.specs.Generation.{generations_of}
use Rattle.places.specs.Layout.{venue_of}
use Rattle.sets.specs.Set.{generation_record, joined}
use Rattle.set_parts.proofs.SetMemoryLaws.{Left}
use Rattle.set_parts.proofs.put_generations.Given as goal

abbrev pub invariant-loop-k : goal.invariant-loop-k
invariant-loop-k l = Left (joined (map (generation_record l.s) (keep held (generations_of (venue_of l.numbers) l.s))))
    (joined (map (generation_record l.s) (keep held (drop l.k (generations_of (venue_of l.numbers) l.s))))) l.initial.out l.at l.out l.pos
