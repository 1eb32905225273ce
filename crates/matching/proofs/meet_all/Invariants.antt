use Prim.Native.Nat.{◌-◌}
use Rattle.rules.specs.Order.{meet_turn}
use Rattle.matching.proofs.TurnsLaws.{Turning}
use Rattle.matching.proofs.meet_all.Given as goal

abbrev pub invariant-loop : goal.invariant-loop
invariant-loop l = Turning (meet_turn l.i) l.quantity l.initial.numbers l.initial.out l.at l.numbers l.out l.pos (l.quantity - l.counter)
