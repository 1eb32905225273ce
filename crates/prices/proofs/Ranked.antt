-- A candidate beside the first in rank of those after it.
use Rattle.std.specs.Prelude.{Option, Some, None}
use mathlib.Core.Path.{◌≡◌}
use mathlib.Core.Bool.{Bool, true, false}
use Prim.Native.Nat.{ℕ}
use Rattle.rules.specs.Base.{ranked}
use Rattle.prices.specs.Picks.{choice_of}

module _ {A : Type 0} (order : A → A → Bool) (best : Option (ℕ × A)) (n : ℕ) (x : A) where
  pub better-none : best ≡ None → choice_of (Some (n, x)) ≡ ranked order n x (choice_of best)
  unfolding choice_of ranked
  better-none e = rw e

  module _ (i : ℕ) (a : A) (t : Bool) (q : t ≡ order a x) where
    pub better-kept : t ≡ true → best ≡ Some (i, a) → choice_of (Some (i, a)) ≡ ranked order n x (choice_of best)
    unfolding choice_of ranked
    better-kept h e = rw (e, ← q, h)

    pub better-new : t ≡ false → best ≡ Some (i, a) → choice_of (Some (n, x)) ≡ ranked order n x (choice_of best)
    unfolding choice_of ranked
    better-new h e = rw (e, ← q, h)
