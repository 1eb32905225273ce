-- The last id accepted, and what it leaves as it was.
use mathlib.Core.Path.{◌≡◌, sym, ap, subst}
use mathlib.Core.List.{List}
use Prim.Native.Nat.{ℕ}
use Rattle.rules.specs.declared.Venue.{Venue}
use Rattle.rules.specs.Words.{with_last}
use Rattle.places.specs.Layout.{venue_of, Below, SameCounts, Dense}
use Rattle.place_writes.proofs.Closed.{dense_kept}

-- a last id anew leaves the places as they were
pub last-dense : (a b : List ℕ) (x : ℕ) → venue_of b ≡ with_last (venue_of a) x → SameCounts a b → Dense a → Dense b
unfolding with_last
last-dense a b x p q d = dense_kept a b (ap (λ (w : Venue). w.regular) p) (ap (λ (w : Venue). w.complex) p) q d

pub last-below : (a b : List ℕ) (x : ℕ) → venue_of b ≡ with_last (venue_of a) x → {id : ℕ} → Below id (venue_of a).regular → Below id (venue_of b).regular
unfolding with_last
last-below a b x p {id = id} h = subst (λ (w : Venue). Below id w.regular) (sym p) h
