use Prim.Native.Nat.{◌≤◌, ◌-◌}
use Prim.Native.Nat.{◌≤◌, ◌-◌}
use lib.ListN.{length, drop}
use mathlib.Core.Path.{◌≡◌}
use mathlib.Core.Bool.{true}
use Prim.Native.Nat.{◌≤◌, ◌-◌}
use lib.ListN.{length, drop}
use Rattle.sets.specs.Set.{held_in}
use Rattle.set_check.specs.Order.{none_read, few, looked_at}
use Rattle.set_check.proofs.look.Given as goal

abbrev pub invariant-loop-size : goal.invariant-loop-size
invariant-loop-size l = (l.at ≤ length l.memory) × (few l.st ≡ true) × (looked_at l.st (held_in (drop l.at l.memory)) ≡ looked_at none_read (held_in l.memory))

abbrev pub decreases-loop-size : goal.decreases-loop-size
decreases-loop-size l = length l.memory - l.at
