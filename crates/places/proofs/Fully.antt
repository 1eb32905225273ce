-- Orders that all show what they should: what keeps them so.
use mathlib.Core.Path.{◌≡◌, refl, ap, ◌∙◌}
use mathlib.Core.Bool.{Bool, true, false, ◌&&◌}
use mathlib.Core.List.{List}
use Prim.Native.Nat.{ℕ, ◌-◌, ◌≤◌, ◌<◌}
use native.Mathlib.Omega.{arith}
use native.Mathlib.Decide.{ℕ_discrete}
use borrow.Author.Tests.{eqb-true, leb-true}
use lib.Dec.{leb}
use lib.ListN.{length, get_or, set}
use lib.Seq.{get_or-set_same, get_or-set_other}
use Rattle.rules.specs.declared.Regular.{Regular}
use Rattle.rules.specs.declared.Venue.{Venue}
use Rattle.rules.specs.Words.{no_regular, within}
use Rattle.rules.specs.Places.{holds_regular, packed, blank_regular}
use Rattle.rules.specs.Refusals.{regular_in_range, on_increment}
use Rattle.rules.specs.Sound.{shows_fully, regulars_sound}
use Rattle.rules.proofs.Tests.{and_l, and_r}
use Rattle.rules.proofs.Closing.{from, packed-at}
use Rattle.rules.proofs.Arranging.{arranged-out, blank-is, blank-free}
use Rattle.places.specs.Layout.{Bounded, Fully}

-- one order anew
pub fully-set : (os : List Regular) (i : ℕ) (x : Regular) → i < length os → shows_fully x ≡ true → Fully os → Fully (set os i x)
fully-set os i x fits h f j = elim (ℕ_discrete j i) [
  | yes e ↦ ap (λ (k : ℕ). shows_fully (get_or (set os i x) k no_regular)) e ∙ ap shows_fully (get_or-set_same os i x no_regular fits) ∙ h
  | no q ↦ ap shows_fully (get_or-set_other os i j x no_regular q) ∙ f j
]

-- gaps closed
pub fully-packed : (os : List Regular) → Fully os → Fully (packed holds_regular no_regular os)
fully-packed os f i = ap shows_fully (packed-at holds_regular no_regular os i) ∙ f (from holds_regular no_regular os i)

-- its reserve is no more than its quantity
pub fully-bounded : (o : Regular) → o.display ≤ o.quantity → shows_fully o ≡ true → Bounded o
unfolding shows_fully
fully-bounded o h z = let e = eqb-true o.reserve (o.quantity - o.display) z in record { display = h; reserve = omega arith }

-- Those of a sound venue ----------------------------------------------------------------------

pub range-bounded : (o : Regular) → regular_in_range o ≡ true → shows_fully o ≡ true → Bounded o
unfolding regular_in_range within
range-bounded o r z = fully-bounded o (leb-true o.display o.quantity (search (and_l, and_r, r) depth 12)) z

pub sound-fully : (v : Venue) → regulars_sound v ≡ true → Fully v.regular
unfolding regulars_sound
sound-fully v h i = go (holds_regular (get_or v.regular i no_regular)) refl
  where
    go : (t : Bool) → holds_regular (get_or v.regular i no_regular) ≡ t → shows_fully (get_or v.regular i no_regular) ≡ true
    go true e = let a = arranged-out no_regular holds_regular _ blank_regular (λ o. o.id) blank-free (unfold blank_regular in refl) 0 v.regular h in
        let o = get_or v.regular i no_regular in
        and_r (regular_in_range o && on_increment v o) (shows_fully o) (and_l (regular_in_range o && on_increment v o && shows_fully o) (leb o.id v.last) (a.asks i e))
    go false e = let a = arranged-out no_regular holds_regular _ blank_regular (λ o. o.id) blank-free (unfold blank_regular in refl) 0 v.regular h in
        let z : shows_fully no_regular ≡ true = unfold shows_fully in refl in
        ap shows_fully (blank-is (get_or v.regular i no_regular) (a.blanks i e)) ∙ z
