use Prim.Native.Nat.{ℕ, ◌≤◌, ◌<◌}
use Rattle.places.specs.Layout.{complex_in}
use Rattle.sweeps.proofs.round_start.Given as goal

abbrev pub invariant-loop-k : goal.invariant-loop-k
invariant-loop-k l = (i : ℕ) → i < l.k → (complex_in l.numbers i).id ≤ l.reached
