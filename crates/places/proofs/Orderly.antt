-- Orders that all have a price and a shown quantity, and rise in id with their places: what keeps them so.
use mathlib.Core.Path.{◌≡◌, refl}
use mathlib.Core.Bool.{true}
use mathlib.Core.List.{List}
use Prim.Native.Nat.{ℕ, ◌<◌}
use native.Mathlib.Omega.{arith}
use native.Mathlib.Decide.{ℕ_discrete}
use borrow.Author.Tests.{leb-true}
use lib.Dec.{leb}
use lib.ListN.{length, get_or, set}
use lib.Seq.{get_or-set_same, get_or-set_other}
use Rattle.rules.specs.declared.Regular.{Regular}
use Rattle.rules.specs.declared.Venue.{Venue}
use Rattle.rules.specs.Base.{held}
use Rattle.rules.specs.Words.{no_regular, within, is_price}
use Rattle.rules.specs.Places.{holds_regular, packed, blank_regular}
use Rattle.rules.specs.Refusals.{regular_in_range}
use Rattle.rules.specs.Sound.{regulars_sound}
use Rattle.rules.proofs.Tests.{and_l, and_r, pos-held}
use Rattle.rules.proofs.Filling.{Fewer, still-held}
use Rattle.rules.proofs.Closing.{from, packed-at, from-rises}
use Rattle.rules.proofs.Arranging.{arranged-out, blank-free}
use Rattle.places.specs.Layout.{Orderly}

-- no order comes, and none changes but in its quantity and what it shows; each that rests still has a shown quantity
pub orderly-fewer : (a b : List Regular) → Fewer a b →
    ((i : ℕ) → held (get_or a i no_regular).quantity ≡ true → held (get_or b i no_regular).display ≡ true → held (get_or a i no_regular).display ≡ true) → Orderly b → Orderly a
orderly-fewer a b f keeps o = record {
  displays = λ i h. keeps i h (o.displays i (still-held (f.lesser i) h));
  priced = λ i h. rw (f.lesser i).price (o.priced i (still-held (f.lesser i) h));
  rises = λ i j w h k. rw ((f.lesser i).id, (f.lesser j).id) (o.rises i j w (still-held (f.lesser i) h) (still-held (f.lesser j) k));
}

-- gaps closed
pub orderly-packed : (os : List Regular) → Orderly os → Orderly (packed holds_regular no_regular os)
orderly-packed os o = record {
  priced = λ i h. rw (packed-at holds_regular no_regular os i) (o.priced (at i) (rw (packed-at holds_regular no_regular os i) at h));
  displays = λ i h. rw (packed-at holds_regular no_regular os i) (o.displays (at i) (rw (packed-at holds_regular no_regular os i) at h));
  rises = λ i j w h k.
      rw (packed-at holds_regular no_regular os i, packed-at holds_regular no_regular os j)
      (o.rises (at i) (at j) (from-rises holds_regular no_regular os i j w) (rw (packed-at holds_regular no_regular os i) at h) (rw (packed-at holds_regular no_regular os j) at k));
}
  where
    at : ℕ → ℕ
    at = from holds_regular no_regular os

-- an order after all others, with a higher id
module _ (os : List Regular) (n : ℕ) (x : Regular) (fits : n < length os) (priced : held x.price ≡ true) (displays : held x.display ≡ true)
    (above : (i : ℕ) → held (get_or os i no_regular).quantity ≡ true → (i < n) × ((get_or os i no_regular).id < x.id)) (o : Orderly os) where
  here : get_or (set os n x) n no_regular ≡ x
  here = get_or-set_same os n x no_regular fits

  there : (i : ℕ) → (i ≡ n → ⊥) → get_or (set os n x) i no_regular ≡ get_or os i no_regular
  there i h = get_or-set_other os n i x no_regular h

  price-of : (i : ℕ) → Dec (i ≡ n) → held (get_or (set os n x) i no_regular).quantity ≡ true → held (get_or (set os n x) i no_regular).price ≡ true
  price-of i (yes e) h = rw (e, here) priced
  price-of i (no e) h = rw (there i e) (o.priced i (rw (there i e) at h))

  display-of : (i : ℕ) → Dec (i ≡ n) → held (get_or (set os n x) i no_regular).quantity ≡ true → held (get_or (set os n x) i no_regular).display ≡ true
  display-of i (yes e) h = rw (e, here) displays
  display-of i (no e) h = rw (there i e) (o.displays i (rw (there i e) at h))

  rise : (i j : ℕ) → Dec (i ≡ n) → Dec (j ≡ n) → i < j → held (get_or (set os n x) i no_regular).quantity ≡ true →
      held (get_or (set os n x) j no_regular).quantity ≡ true → (get_or (set os n x) i no_regular).id < (get_or (set os n x) j no_regular).id
  rise i j (yes e) (yes f) w h k = absurd (omega arith)
  rise i j (yes e) (no f) w h k = absurd (let z = (above j (rw (there j f) at k)).0 in omega arith)
  rise i j (no e) (yes f) w h k = rw (there i e, f, here) (above i (rw (there i e) at h)).1
  rise i j (no e) (no f) w h k = rw (there i e, there j f) (o.rises i j w (rw (there i e) at h) (rw (there j f) at k))

  pub orderly-put : Orderly (set os n x)
  orderly-put = record {
    priced = λ i. price-of i (ℕ_discrete i n);
    displays = λ i. display-of i (ℕ_discrete i n);
    rises = λ i j. rise i j (ℕ_discrete i n) (ℕ_discrete j n);
  }

-- an order in range has a price
pub range-priced : (o : Regular) → regular_in_range o ≡ true → held o.price ≡ true
unfolding regular_in_range is_price within
range-priced o h =
    let z : leb 1 o.price ≡ true = search (and_l, and_r, h) in
    let y = leb-true 1 o.price z in
    pos-held o.price (omega arith)

-- and a shown quantity
pub range-display : (o : Regular) → regular_in_range o ≡ true → held o.display ≡ true
unfolding regular_in_range within
range-display o h =
    let z : leb 1 o.display ≡ true = search (and_l, and_r, h) depth 12 in
    let y = leb-true 1 o.display z in
    pos-held o.display (omega arith)

-- those of a sound venue
pub sound-orderly : (v : Venue) → regulars_sound v ≡ true → Orderly v.regular
unfolding regulars_sound
sound-orderly v h =
    let a = arranged-out no_regular holds_regular _ blank_regular (λ o. o.id) blank-free (unfold blank_regular in refl) 0 v.regular h in
    record {
      priced = λ i q. range-priced (get_or v.regular i no_regular) (and_l _ _ (and_l _ _ (and_l _ _ (a.asks i q))));
      displays = λ i q. range-display (get_or v.regular i no_regular) (and_l _ _ (and_l _ _ (and_l _ _ (a.asks i q))));
      rises = a.rises;
    }
