use mathlib.Core.Path.{◌≡◌}
use Prim.Native.Nat.{◌*◌}
use Rattle.rules.specs.Bytes.{u32_at}
use Rattle.places.specs.Layout.{in_use}
use Rattle.venue_bytes.proofs.GenerationsRow.read.Given as goal

abbrev pub invariant-loop-k : goal.invariant-loop-k
invariant-loop-k l = l.messages ≡ in_use (λ k. u32_at l.row (4 * k)) 0 l.k 20
