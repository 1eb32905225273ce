use lib.ListN.{drop}
use Rattle.places.specs.Layout.{venue_of}
use Rattle.sets.specs.Set.{generation_records, joined}
use Rattle.set_parts.proofs.SetMemoryLaws.{Left}
use Rattle.set_parts.proofs.put_all_generations.Given as goal

abbrev pub invariant-loop-s : goal.invariant-loop-s
invariant-loop-s l = Left (joined (generation_records 0 (venue_of l.numbers).generations)) (joined (generation_records l.s (drop l.s (venue_of l.numbers).generations))) l.initial.out l.at l.out l.pos
