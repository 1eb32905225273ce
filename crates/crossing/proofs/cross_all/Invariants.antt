use Prim.Native.Nat.{◌-◌}
use Rattle.rules.specs.Effects.{repeat}
use Rattle.removal.proofs.Loops.{Doing}
use Rattle.rules.specs.Words.{complex_at}
use Rattle.rules.specs.Complex.{cross_turn}
use Rattle.places.specs.Layout.{venue_of}
use Rattle.crossing.proofs.cross_all.Given as goal

abbrev pub invariant-loop : goal.invariant-loop
invariant-loop l = Doing (repeat (complex_at (venue_of l.initial.numbers) l.i).quantity (cross_turn l.i) (venue_of l.initial.numbers)) (repeat (l.end - l.counter) (cross_turn l.i)) l.initial.numbers l.initial.out l.at l.numbers l.out l.pos
