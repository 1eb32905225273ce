use Prim.Native.Nat.{◌+◌, ◌-◌}
use Rattle.rules.specs.Complex.{each_of}
use Rattle.places.specs.Layout.{venue_of}
use Rattle.removal.proofs.Loops.{Doing}
use Rattle.sweeps.specs.Round.{places_from}
use Rattle.sweeps.proofs.at_places.Given as goal

abbrev pub invariant-loop-k : goal.invariant-loop-k
invariant-loop-k g l =
    Doing (each_of (g.T.Task.effect l.task) (places_from l.first l.count) (venue_of l.initial.numbers)) (each_of (g.T.Task.effect l.task) (places_from l.k (l.first + l.count - l.k))) l.initial.numbers l.initial.out l.at l.numbers l.out l.pos
