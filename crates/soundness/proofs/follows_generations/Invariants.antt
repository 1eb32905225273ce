use mathlib.Core.Path.{◌≡◌}
use mathlib.Core.Bool.{Bool}
use Prim.Native.Nat.{ℕ}
use lib.Dec.{ltb}
use lib.ListN.{drop}
use Rattle.rules.specs.declared.Generations.{Generations}
use Rattle.rules.specs.Base.{all}
use Rattle.places.specs.Layout.{venue_of}
use Rattle.soundness.proofs.follows_generations.Given as goal

abbrev earlier : (number : ℕ) → Generations → Bool
earlier number g = all (λ n. ltb n number) g.messages

abbrev pub invariant-loop-s : goal.invariant-loop-s
invariant-loop-s l = all (earlier l.number) (drop l.s (venue_of l.numbers).generations) ≡ all (earlier l.number) (venue_of l.numbers).generations
