use Prim.Native.Nat.{◌-◌}
use Rattle.rules.specs.Effects.{repeat}
use Rattle.rules.specs.Complex.{leg_in_turn}
use Rattle.places.specs.Layout.{venue_of}
use Rattle.removal.proofs.Loops.{Doing}
use Rattle.work.proofs.leg_in_all.Given as goal

abbrev pub invariant-loop-turn : goal.invariant-loop-turn
invariant-loop-turn l = Doing (repeat l.quantity (leg_in_turn l.i) (venue_of l.initial.numbers)) (repeat (l.quantity - l._turn) (leg_in_turn l.i)) l.initial.numbers l.initial.out l.at l.numbers l.out l.pos
