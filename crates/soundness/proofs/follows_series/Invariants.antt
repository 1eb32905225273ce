use mathlib.Core.Path.{◌≡◌}
use mathlib.Core.Bool.{Bool}
use Prim.Native.Nat.{ℕ}
use lib.Dec.{ltb}
use lib.ListN.{drop}
use Rattle.rules.specs.Base.{all}
use Rattle.rules.specs.Generation.{generations_of}
use Rattle.places.specs.Layout.{venue_of}
use Rattle.soundness.proofs.follows_series.Given as goal

abbrev earlier : (number : ℕ) → ℕ → Bool
earlier number n = ltb n number

abbrev pub invariant-loop-k : goal.invariant-loop-k
invariant-loop-k l = all (earlier l.number) (drop l.k (generations_of (venue_of l.numbers) l.s)) ≡ all (earlier l.number) (generations_of (venue_of l.numbers) l.s)
