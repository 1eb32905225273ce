use Prim.Native.Nat.{◌-◌}
use Rattle.places.specs.Layout.{upto, listed_in, venue_of}
use Rattle.sets.specs.Set.{series_records, joined}
use Rattle.set_parts.proofs.SetMemoryLaws.{Left}
use Rattle.set_parts.proofs.put_series.Given as goal

abbrev pub invariant-loop-s : goal.invariant-loop-s
invariant-loop-s l = Left (joined (series_records 0 (venue_of l.numbers).series)) (joined (series_records l.s (upto (listed_in l.numbers) l.s (8 - l.s)))) l.initial.out l.at l.out l.pos
