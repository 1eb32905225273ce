use Rattle.settling.proofs.CausesFound.{stand_from}
use Rattle.places.specs.Layout.{venue_of}
use Rattle.rules.specs.Generation.{others_stand}
use mathlib.Core.Path.{◌≡◌}
use Prim.Native.Nat.{◌≤◌}
use Rattle.settling.proofs.others_stand.Given as goal

abbrev pub invariant-loop-n : goal.invariant-loop-n
invariant-loop-n l = (l.n ≤ 16) × (stand_from l.numbers l.m l.n ≡ others_stand (venue_of l.numbers) l.m 0 (venue_of l.numbers).legging)
