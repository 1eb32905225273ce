use mathlib.Core.Path.{◌≡◌}
use Prim.Native.Nat.{◌+◌, ◌≤◌}
use Rattle.sets.specs.Set.{joined}
use Rattle.set_parts.specs.Parts.{orders_from}
use Rattle.set_parts.proofs.SetMemoryLaws.{Left}
use Rattle.set_parts.proofs.put_orders.Given as goal

abbrev pub invariant-loop-turn : goal.invariant-loop-turn
invariant-loop-turn l =
    Left (joined (orders_from l.numbers l.n l.m 0 0)) (joined (orders_from l.numbers l.n l.m l.i l.j)) l.initial.out l.at l.out l.pos × (l.i ≤ l.n) × (l.j ≤ l.m) × (l.i + l.j ≡ l._turn)
