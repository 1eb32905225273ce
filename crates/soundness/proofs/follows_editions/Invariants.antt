use mathlib.Core.Path.{◌≡◌}
use mathlib.Core.Bool.{Bool}
use Prim.Native.Nat.{ℕ, ◌-◌}
use lib.Dec.{ltb}
use Rattle.rules.specs.declared.Edition.{Edition}
use Rattle.rules.specs.Base.{all}
use Rattle.places.specs.Layout.{upto, edition_in, venue_of}
use Rattle.soundness.proofs.follows_editions.Given as goal

abbrev earlier : (number : ℕ) → Edition → Bool
earlier number e = ltb e.message number

abbrev pub invariant-loop-i : goal.invariant-loop-i
invariant-loop-i l = all (earlier l.number) (upto (edition_in l.numbers) l.i (32 - l.i)) ≡ all (earlier l.number) (venue_of l.numbers).editions
