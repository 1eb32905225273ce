-- What a message that is not refused has passed.
use mathlib.Core.Path.{◌≡◌, refl}
use mathlib.Core.Bool.{true, false, ◌&&◌}
use mathlib.Core.List.{List}
use Prim.Native.Nat.{ℕ, ◌<◌}
use native.Mathlib.Omega.{arith}
use lib.ListN.{get_or}
use borrow.Author.Tests.{leb-false, leb-true}
use Rattle.rules.specs.declared.Regular.{Regular}
use Rattle.rules.specs.declared.Complex.{Complex}
use Rattle.rules.specs.declared.Venue.{Venue}
use Rattle.rules.specs.declared.Message.{Message}
use Rattle.rules.specs.declared.Message.TheVariants.{Order, TwoLeg, Increment, Percent}
use Rattle.rules.specs.Words.{no_regular}
use Rattle.rules.specs.Settings.{free_edition}
use Rattle.rules.specs.Trading.{free_regular, free_complex}
use Rattle.rules.specs.Places.{holds_regular, blank_regular}
use Rattle.rules.specs.Refusals.{regular_in_range, on_increment, no_edition_left, id_too_low, full, refusal_of}
use Rattle.rules.specs.Sound.{shows_fully, regulars_sound, sound}
use Rattle.rules.proofs.Tests.{and_l, and_r}
use Rattle.rules.proofs.Arranging.{arranged-out, blank-free}
use Rattle.rules.proofs.RefusalsLaws.{refusal_of-by}
use Rattle.places.specs.Layout.{regulars_used, complexes_used, venue_of, Below, Dense}
use Rattle.place_writes.proofs.Closed.{dense-regular, dense-complex}

record Passes (v : Venue) (m : Message) : Type 0 where
  place : no_edition_left v m ≡ false
  fresh : id_too_low v m ≡ false
  room : full v m ≡ false

passed : (v : Venue) (m : Message) → refusal_of v m ≡ 0 → Passes v m
passed v m = refusal_of-by (λ x. x ≡ 0 → Passes v m) v m
    (λ h. absurd (omega arith)) (λ h. absurd (omega arith)) (λ h. absurd (omega arith)) (λ h. absurd (omega arith))
    (λ h. absurd (omega arith)) (λ h. absurd (omega arith)) (λ h. absurd (omega arith)) (λ h. absurd (omega arith))
    (λ _ _ _ z a _ c _ _. record { place = z; fresh = a; room = c })

module _ (b : List ℕ) (d : Dense b) where
  pub order-room : (o : Regular) → refusal_of (venue_of b) (Order o) ≡ 0 → regulars_used b < 128
  unfolding full
  order-room o e =
      let h = leb-false 128 (free_regular (venue_of b)) (passed (venue_of b) (Order o) e).room in
      let f = dense-regular b d in
      omega arith

  pub complex-room : (c : Complex) → refusal_of (venue_of b) (TwoLeg c) ≡ 0 → complexes_used b < 32
  unfolding full
  complex-room c e =
      let h = leb-false 32 (free_complex (venue_of b)) (passed (venue_of b) (TwoLeg c) e).room in
      let f = dense-complex b d in
      omega arith

-- a place is left for its edition
pub increment-place : (v : Venue) (s x e : ℕ) → refusal_of v (Increment s x e) ≡ 0 → free_edition v < 32
unfolding no_edition_left
increment-place v s x e h = leb-false 32 (free_edition v) (passed v (Increment s x e) h).place

pub percent-place : (v : Venue) (x e : ℕ) → refusal_of v (Percent x e) ≡ 0 → free_edition v < 32
unfolding no_edition_left
percent-place v x e h = leb-false 32 (free_edition v) (passed v (Percent x e) h).place

-- the ids that rest are below that of an order that is not refused
module _ (v : Venue) (o : Regular) (e : refusal_of v (Order o) ≡ 0) where
  order-last : v.last < o.id
  unfolding id_too_low
  order-last = leb-false o.id v.last (passed v (Order o) e).fresh

  regulars-below : regulars_sound v ≡ true → Below o.id v.regular
  unfolding regulars_sound
  regulars-below h =
      let a = arranged-out no_regular holds_regular _ blank_regular (λ o. o.id) blank-free (unfold blank_regular in refl) 0 v.regular h in
      λ i q. let z = leb-true (get_or v.regular i no_regular).id v.last
      (and_r (regular_in_range (get_or v.regular i no_regular) && on_increment v (get_or v.regular i no_regular) && shows_fully
      (get_or v.regular i no_regular)) _ (a.asks i q)) in let w = order-last in omega arith

  pub order_below : sound v ≡ true → Below o.id v.regular
  unfolding sound
  order_below h = regulars-below (search (and_l, and_r, h) depth 12)
