use Prim.Native.Nat.{◌-◌, ◌*◌}
use Rattle.places.specs.Layout.{upto, legging_in, venue_of}
use Rattle.sets.specs.Set.{legging_records, joined}
use Rattle.set_parts.proofs.SetMemoryLaws.{Left}
use Rattle.set_parts.proofs.put_leggings.Given as goal

abbrev pub invariant-loop-s : goal.invariant-loop-s
invariant-loop-s l = Left (joined (legging_records 0 (venue_of l.numbers).legging)) (joined (legging_records l.s (upto (legging_in l.numbers) (2 * l.s) (16 - 2 * l.s)))) l.initial.out l.at l.out l.pos
