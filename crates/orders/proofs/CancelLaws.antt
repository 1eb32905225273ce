-- The order that a cancel names.
use Rattle.std.specs.Prelude.{if◌then◌else◌, Some, None}
use mathlib.Core.Path.{◌≡◌, refl, sym, ap, ◌∙◌}
use mathlib.Core.Bool.{Bool, true, false, false≢true}
use mathlib.Core.List.{List}
use Prim.Native.Nat.{ℕ, ◌<◌}
use native.Mathlib.Omega.{arith}
use native.Mathlib.Decide.{dec_lt}
use lib.ListN.{get_or}
use Rattle.rules.specs.declared.Venue.{Venue}
use Rattle.rules.specs.Words.{no_regular, no_complex, regular_at, complex_at, is_regular_of, is_complex_of}
use Rattle.rules.specs.Complex.{cancel_regular, cancel_complex, regular_place, complex_place, rests_regular, rests_complex}
use Rattle.places.specs.Layout.{in_use, regulars_used, complexes_used, regular_in, complex_in, venue_of}
use Rattle.places.proofs.Tables.{used-free}
use Rattle.book.specs.Picks.{regular_found, complex_found}
use Rattle.book.proofs.FirstPlace.{regular-free, complex-free}
use Rattle.orders.specs.Effects.{withdrawn}

-- what is found, and what is not
found_at : (t : Bool) (p i : ℕ) → Some i ≡ (if t then Some p else None) → (t ≡ true) × (p ≡ i)
found_at true p i e = (refl, (cc))
found_at false p i e = let z : ◌≡◌ {A = ℕ} 0 1 = cc in absurd (omega arith)

found-not : (t : Bool) (p : ℕ) → None ≡ (if t then Some p else None) → t ≡ false
found-not true p e = let z : ◌≡◌ {A = ℕ} 0 1 = cc in absurd (omega arith)
found-not false p e = refl

-- what passes a test that no free place passes stands at a place in use
passes-used : {A : Type 0} (f : A → Bool) (none : A) (g : ℕ → A) (n all i : ℕ) → f none ≡ false → f (get_or (in_use g none n all) i none) ≡ true → i < n
passes-used f none g n all i off e =
    elim (dec_lt i n) [
      | yes h ↦ h
      | no h ↦ absurd (false≢true (sym off ∙ ap f (sym (used-free g none n all i (omega arith))) ∙ e))
    ]

module _ (b : List ℕ) (id : ℕ) where
  pub regular-found : (i : ℕ) → Some i ≡ regular_found (venue_of b) id → (rests_regular (venue_of b) id ≡ true) × (regular_place (venue_of b) id ≡ i)
  unfolding regular_found
  regular-found i e = found_at (rests_regular (venue_of b) id) (regular_place (venue_of b) id) i e

  pub regular-used : (i : ℕ) → Some i ≡ regular_found (venue_of b) id → i < regulars_used b
  unfolding rests_regular regular_at venue_of
  regular-used i e =
      let r = regular-found i e in
      passes-used (is_regular_of id) no_regular (regular_in b) (regulars_used b) 128 i (regular-free id)
      (ap (λ (k : ℕ). is_regular_of id (get_or (venue_of b).regular k no_regular)) (sym r.1) ∙ r.0)

  pub regular-not : None ≡ regular_found (venue_of b) id → rests_regular (venue_of b) id ≡ false
  unfolding regular_found
  regular-not e = found-not (rests_regular (venue_of b) id) (regular_place (venue_of b) id) e

  pub complex-found : (i : ℕ) → Some i ≡ complex_found (venue_of b) id → (rests_complex (venue_of b) id ≡ true) × (complex_place (venue_of b) id ≡ i)
  unfolding complex_found
  complex-found i e = found_at (rests_complex (venue_of b) id) (complex_place (venue_of b) id) i e

  pub complex-used : (i : ℕ) → Some i ≡ complex_found (venue_of b) id → i < complexes_used b
  unfolding rests_complex complex_at venue_of
  complex-used i e =
      let r = complex-found i e in
      passes-used (is_complex_of id) no_complex (complex_in b) (complexes_used b) 32 i (complex-free id)
      (ap (λ (k : ℕ). is_complex_of id (get_or (venue_of b).complex k no_complex)) (sym r.1) ∙ r.0)

  pub complex-not : None ≡ complex_found (venue_of b) id → rests_complex (venue_of b) id ≡ false
  unfolding complex_found
  complex-not e = found-not (rests_complex (venue_of b) id) (complex_place (venue_of b) id) e

-- a cancel, up to its settling
module _ (id : ℕ) (v : Venue) where
  pub withdraw-regular : (i : ℕ) → (rests_regular v id ≡ true) × (regular_place v id ≡ i) → cancel_regular i v ≡ withdrawn id v
  unfolding withdrawn
  withdraw-regular i r = rw r.0 (ap (λ (k : ℕ). cancel_regular k v) (sym r.1))

  pub withdraw-other : rests_regular v id ≡ false → cancel_complex (complex_place v id) v ≡ withdrawn id v
  unfolding withdrawn
  withdraw-other e = rw e
