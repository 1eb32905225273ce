use mathlib.Core.List.{map}
use Prim.Native.Nat.{◌-◌}
use Rattle.rules.specs.Base.{keep}
use Rattle.rules.specs.Places.{holds_edition}
use Rattle.places.specs.Layout.{upto, edition_in, venue_of}
use Rattle.sets.specs.Set.{edition_record, joined}
use Rattle.set_parts.proofs.SetMemoryLaws.{Left}
use Rattle.set_parts.proofs.put_editions.Given as goal

abbrev pub invariant-loop-i : goal.invariant-loop-i
invariant-loop-i l = Left (joined (map edition_record (keep holds_edition (venue_of l.numbers).editions)))
    (joined (map edition_record (keep holds_edition (upto (edition_in l.numbers) l.i (32 - l.i))))) l.initial.out l.at l.out l.pos
