-- A venue whose places are sound can be loaded; and what the two parts of the check say of the whole.
use mathlib.Core.Path.{◌≡◌, refl, sym, ap, ◌∙◌}
use mathlib.Core.Bool.{Bool, true, false, ◌&&◌, true≢false}
use mathlib.Core.List.{List, []}
use Prim.Native.Nat.{ℕ, ◌<◌}
use native.Mathlib.Omega.{arith}
use borrow.Author.Tests.{le-leb}
use lib.Dec.{leb}
use lib.ListN.{get_or}
use Rattle.rules.specs.declared.Regular.{Regular}
use Rattle.rules.specs.declared.Venue.{Venue}
use Rattle.rules.specs.Base.{held, all}
use Rattle.rules.specs.Words.{no_regular, no_complex, with_regular, with_complex}
use Rattle.rules.specs.Places.{holds_regular, holds_complex, blank_regular, blank_complex, arranged, packed, close_gaps}
use Rattle.rules.specs.Refusals.{regular_in_range, on_increment}
use Rattle.rules.specs.Sound.{apart, listed_in_range, leggings_sound, shows_fully, regulars_sound, complexes_sound, ids_distinct, editions_sound, generations_sound, sound}
use Rattle.rules.proofs.Tests.{and_l, and_r}
use Rattle.rules.proofs.Closing.{packed-free}
use Rattle.rules.proofs.Arranging.{arranged-out, blank-is, blank-free, blank-free_c, closed_same}
use Rattle.rules.proofs.Editions.{Stepped, dated-steps}
use Rattle.places.proofs.Orderly.{range-priced, range-display}
use Rattle.places.proofs.Fully.{range-bounded}
use Rattle.venue_numbers.proofs.Loaded.{regular-side, complex-sides, editions-dated}
use Rattle.places.specs.Layout.{Fully, Loadable, Loaded, venue_of}
use Rattle.sound_places.specs.Checked.{asked_regular, regulars_from, kept_sound, places_sound}
use Rattle.soundness.specs.Checked.{priced_on, on_increments, eight, orders_sound, Checked}
use Rattle.sound_places.proofs.Passes.{arranged-split, and_assoc}

-- Loading -------------------------------------------------------------------------------------

-- what is asked of a regular order
asked-out : (last : ℕ) (o : Regular) → asked_regular last o ≡ true → (regular_in_range o ≡ true) × (shows_fully o ≡ true)
asked-out last o z =
    let y = and_l (regular_in_range o && shows_fully o) (leb o.id last) z in
    (and_l (regular_in_range o) (shows_fully o) y, and_r (regular_in_range o) (shows_fully o) y)

-- of each held regular order
abbrev EachHeld : Venue → (Regular → Type 0) → Type 0
EachHeld v P = (i : ℕ) → held (get_or v.regular i no_regular).quantity ≡ true → P (get_or v.regular i no_regular)

-- every order shows what it should, where each held one does
orders-show : (v : Venue) → EachHeld v (λ o. shows_fully o ≡ true) →
    ((i : ℕ) → held (get_or v.regular i no_regular).quantity ≡ false → blank_regular (get_or v.regular i no_regular) ≡ true) → Fully v.regular
orders-show v asked blank i = go (held (get_or v.regular i no_regular).quantity) refl
  where
    go : (t : Bool) → held (get_or v.regular i no_regular).quantity ≡ t → shows_fully (get_or v.regular i no_regular) ≡ true
    go true h = asked i h
    go false h = rw (blank-is _ (blank i h)) (unfold shows_fully in refl)

complexes-packed : (v : Venue) → complexes_sound v ≡ true → packed holds_complex no_complex v.complex ≡ v.complex
unfolding complexes_sound regulars_sound arranged close_gaps with_regular with_complex
complexes-packed v c = ap (λ (w : Venue). w.complex) (closed_same (with_regular v []) refl c)

books-load : (v : Venue) → regulars_from v.last 0 v.regular ≡ true → complexes_sound v ≡ true → Stepped v → Loadable v
unfolding regulars_from complexes_sound
books-load v r c steps =
    let a = arranged-out no_regular holds_regular _ blank_regular (λ o. o.id) blank-free (unfold blank_regular in refl) 0 v.regular r in
    let b = arranged-out no_complex holds_complex _ blank_complex (λ c. c.id) blank-free_c (unfold blank_complex in refl) 0 v.complex c in
    let ranged : EachHeld v (λ o. regular_in_range o ≡ true) = λ i h. (asked-out v.last (get_or v.regular i no_regular) (a.asks i h)).0 in
    let shows : EachHeld v (λ o. shows_fully o ≡ true) = λ i h. (asked-out v.last (get_or v.regular i no_regular) (a.asks i h)).1 in
    record {
      regulars = record { dense = a.dense; blank = λ i h. blank-is _ (a.blanks i h); asked = λ i h. (regular-side _ (ranged i h), range-bounded _ (ranged i h) (shows i h)) };
      complexes = record { dense = b.dense; blank = rw (complexes-packed v c) at (packed-free holds_complex no_complex v.complex); asked = λ i h. complex-sides _ _ (b.asks i h) };
      orders = record { priced = λ i h. range-priced _ (ranged i h); displays = λ i h. range-display _ (ranged i h); rises = a.rises };
      shows = orders-show v shows a.blanks;
      increments = steps;
    }

pub places-load : (v : Venue) → places_sound v ≡ true → Loadable v
unfolding places_sound
places-load v h =
    let r : regulars_from v.last 0 v.regular ≡ true = search (and_l, and_r, h) in
    let c : complexes_sound v ≡ true = search (and_l, and_r, h) in
    let k : kept_sound v ≡ true = search (and_l, and_r, h) in
    let e : editions_sound v ≡ true = unfold kept_sound in (search (and_l, and_r, k)) in
    books-load v r c (dated-steps v (editions-dated v e))

-- The whole -----------------------------------------------------------------------------------

last-in : (b : List ℕ) → get_or b 778 0 < 4294967296 → leb (venue_of b).last 4294967295 ≡ true
unfolding venue_of
last-in b h = le-leb (get_or b 778 0) 4294967295 (omega arith)

orders-of : (v : Venue) → leb v.last 4294967295 ≡ true →
    (on_increments v && ids_distinct v && all (apart v) eight && leggings_sound v 0 v.legging) ≡ orders_sound v
unfolding orders_sound
orders-of v e = rw e

-- the last id of a slice is in range
pub orders-are : (b : List ℕ) → get_or b 778 0 < 4294967296 →
    (on_increments (venue_of b) && ids_distinct (venue_of b) && all (apart (venue_of b)) eight && leggings_sound (venue_of b) 0 (venue_of b).legging) ≡ orders_sound (venue_of b)
orders-are b h = orders-of (venue_of b) (last-in b h)

-- the increments apart from the rest of what is asked of a regular order
second-last : (a b c d : Bool) → (a && b && c && d) ≡ (a && c && d && b)
second-last true true true true = refl
second-last true true true false = refl
second-last true true false d = refl
second-last true false true true = refl
second-last true false true false = refl
second-last true false false d = refl
second-last false b c d = refl

regulars-are : (v : Venue) → regulars_sound v ≡ (regulars_from v.last 0 v.regular && on_increments v)
unfolding regulars_sound regulars_from on_increments priced_on
regulars-are v =
    arranged-split holds_regular (asked_regular v.last) (on_increment v) (λ o. regular_in_range o && on_increment v o && shows_fully o && leb o.id v.last) blank_regular (λ o. o.id) blank-free
    (λ o. second-last (regular_in_range o) (on_increment v o) (shows_fully o) (leb o.id v.last)) 0 v.regular

regroup : (r i c s k l d a g : Bool) → ((r && i) && c && s && k && l && d && a && g) ≡ ((r && c && s && k) && (l && i && d && a && g))
regroup true true c s k l d a g = with-prices (c && s && k) l
  where
    with-prices : (p l : Bool) → (p && l && d && a && g) ≡ (p && (l && true && d && a && g))
    with-prices true true = refl
    with-prices true false = refl
    with-prices false l = refl
regroup true false c s k l d a g = without (c && s && k) l
  where
    without : (p l : Bool) → false ≡ (p && (l && false && d && a && g))
    without true true = refl
    without true false = refl
    without false l = refl
regroup false i c s k l d a g = refl

sound-is : (v : Venue) → sound v ≡ (places_sound v && orders_sound v)
unfolding sound places_sound kept_sound orders_sound
sound-is v =
    let r = regulars_from v.last 0 v.regular && on_increments v in
    ap (λ (t : Bool). t && complexes_sound v && all listed_in_range v.series && editions_sound v && generations_sound v && leb v.reached v.last
    && leb v.last 4294967295 && ids_distinct v && all (apart v) eight && leggings_sound v 0 v.legging) (regulars-are v)
    ∙ ap (λ (t : Bool). t && leb v.last 4294967295 && ids_distinct v && all (apart v) eight && leggings_sound v 0 v.legging)
    (and_assoc (r && complexes_sound v && all listed_in_range v.series) (editions_sound v) (generations_sound v) (leb v.reached v.last))
    ∙ regroup (regulars_from v.last 0 v.regular) (on_increments v) (complexes_sound v) (all listed_in_range v.series) (kept_sound v)
    (leb v.last 4294967295) (ids_distinct v) (all (apart v) eight) (leggings_sound v 0 v.legging)

pub checked-not : (v : Venue) (b : List ℕ) → places_sound v ≡ false → Checked v false b
checked-not v b h = record { answer = sym (sound-is v ∙ rw h); loaded = λ e. absurd (true≢false (sym e)) }

pub checked : (v : Venue) (r : Bool) (b : List ℕ) → places_sound v ≡ true → Loaded v b → r ≡ orders_sound (venue_of b) → Checked v r b
checked v r b h m e = record {
  answer = e ∙ ap orders_sound m.venue ∙ sym (sound-is v ∙ rw h);
  loaded = λ q. m;
}
