-- Generation: the new legging order passes its own test, and each other passes as it did.
use Rattle.std.specs.Prelude.{if◌then◌else◌}
use mathlib.Core.Path.{◌≡◌, refl}
use mathlib.Core.Bool.{Bool, true, false, not, ◌&&◌, ◌||◌, false≢true}
use mathlib.Core.Logic.{◌≢◌, inl}
use mathlib.Core.List.{List, [], ◌∷◌}
use Prim.Native.Nat.{ℕ, zero, suc, ◌+◌, ◌-◌, ◌/◌, ◌%◌, ◌≤◌, ◌<◌}
use native.Mathlib.Omega.{arith}
use lib.Dec.{eqb, eqb-suc-zero}
use native.Mathlib.Decide.{ℕ_discrete}
use lib.IntN.{ℤ, pos, negsuc, neg_ℤ, ◌+ℤ◌, neg_ℤ-neg_ℤ, -ℤ-+ℤ_cancel}
use lib.Signed.{le_z}
use lib.ListN.{length, get_or, set}
use lib.Seq.{get_or-set_other, get_or-set_same}
use native.Mathlib.Nat.{min-le_right, div-eq_of_lt, zero-mul, add-zero, add-suc, suc-add, zero-add}
use borrow.Author.Tests.{le-leb, leb-true, ne_eqb}
use Rattle.rules.specs.declared.Complex.{Complex}
use Rattle.rules.specs.declared.Legging.{Legging}
use Rattle.rules.specs.declared.Venue.{Venue}
use Rattle.rules.specs.declared.Verdict.{Verdict}
use Rattle.rules.specs.declared.Verdict.TheVariants.{Stands, Fails}
use Rattle.rules.specs.declared.Cause.TheVariants.{Replaced}
use Rattle.rules.proofs.Tests.{and_l, and_r, or_r, if-same}
use Rattle.rules.proofs.Cases.{if-by}
use Rattle.rules.proofs.Settling.{SameOrGone, Thinned, free-stands, verdict-kept}
use Rattle.rules.proofs.Verdicts.{Passes, passing}
use Rattle.rules.specs.Base.{held}
use Rattle.rules.specs.Words.{within, buy, opposite, sign_times, no_legging, one_to_one, place_of, legging_at, status_of, with_generations, with_legging}
use Rattle.rules.specs.Settings.{figure_now, increment, percent}
use Rattle.rules.specs.Effects.{◌⟫◌, report, nothing}
use Rattle.rules.specs.Prices.{best_regular, best_size, clear_price, best_own, displayed_price, market_best, away, taken1, taken2, in_band}
use Rattle.rules.specs.Removal.{stay, stayers, remove, fail_if}
use Rattle.rules.specs.Standing.{other_leg, find_complex, parent_of, both_open, displayed_no_worse, pairs, verdict, other_clear, other_size, stands}
use Rattle.rules.specs.Generation.{counted, generations_of, under_ceiling, reaches_any, gives_way, as_price, leg_price, new_legging, placed, makes, make, others_stand, generate_leg}

-- Numbers -------------------------------------------------------------------------------------

pub sign-times-twice : (d : ℕ) (z : ℤ) → sign_times d (sign_times d z) ≡ z
unfolding sign_times
sign-times-twice d z = go (eqb d buy)
  where
    go : (b : Bool) → (if b then (if b then z else neg_ℤ z) else neg_ℤ (if b then z else neg_ℤ z)) ≡ z
    go true = refl
    go false = neg_ℤ-neg_ℤ z

pub price-back : (z : ℤ) → held (as_price z) ≡ true → pos (as_price z) ≡ z
unfolding as_price
price-back (pos n) h = refl
price-back (negsuc n) h = absurd (false≢true h)

pub le_z-refl : (z : ℤ) → le_z z z ≡ true
le_z-refl (pos n) = le-leb n n (omega arith)
le_z-refl (negsuc n) = le-leb n n (omega arith)

-- a price of 0 is shown as 0, which is below the increment
zero-displayed : (i d : ℕ) → 0 < i → displayed_price i d 0 ≡ 0
unfolding displayed_price
zero-displayed i d h =
    if-by (λ x. x ≡ 0) (eqb d buy) (λ _. rw (below 0 i (omega arith), zero-mul))
    (λ _. rw (below (0 + (i - 1)) i (omega arith), zero-mul))
  where
    below : (a b : ℕ) → a < b → a / b ≡ 0
    below a b l = div-eq_of_lt l

pub zero-out : (i d p : ℕ) → 0 < i → within i 100000 (displayed_price i d p) ≡ true → held p ≡ true
unfolding within
zero-out i d zero k h = let z = leb-true i 0 (and_l _ _ (rw (zero-displayed i d k) at h)) in absurd (omega arith)
zero-out i d (suc p) k h = rw eqb-suc-zero

-- at its own price, a leg nets to N with the other leg's clear price
leg-nets : (v : Venue) (c : Complex) (s d : ℕ) → held (leg_price v c s d) ≡ true →
    sign_times d (pos (leg_price v c s d)) +ℤ sign_times (other_leg c s).side (pos (other_clear v c s)) ≡ c.limit
unfolding leg_price
leg-nets v c s d h = rw (price-back _ h, sign-times-twice, -ℤ-+ℤ_cancel)

-- Places --------------------------------------------------------------------------------------

pub place-series : (s d : ℕ) → d < 2 → place_of s d / 2 ≡ s
unfolding place_of
place-series s d h = omega arith

pub place-side : (s d : ℕ) → d < 2 → place_of s d % 2 ≡ d
unfolding place_of
place-side s d h = omega arith

place-apart : (s t d e : ℕ) → d < 2 → e < 2 → s ≢ t → place_of t e ≢ place_of s d
unfolding place_of
place-apart s t d e h k ne = omega arith

-- What a legging order at place n leaves as it was --------------------------------------------

module _ (n : ℕ) (l : Legging) (v : Venue) where
  clear-elsewhere : (s d : ℕ) → place_of s d ≢ n → clear_price (placed n l v) s d ≡ clear_price v s d
  unfolding clear_price legging_at placed with_legging best_regular
  clear-elsewhere s d ne = rw (get_or-set_other v.legging n (place_of s d) l no_legging ne)

  pairs-elsewhere : (c : Complex) (s d p k : ℕ) → place_of (other_leg c s).series (opposite (other_leg c s).side) ≢ n →
      pairs (placed n l v) c s d p k ≡ pairs v c s d p k
  unfolding pairs other_clear other_size best_size best_regular placed with_legging
  pairs-elsewhere c s d p k ne = rw (clear-elsewhere _ _ ne)

-- The conditions of generation, by name -------------------------------------------------------

pub record Makes (number : ℕ) (v : Venue) (c : Complex) (s d : ℕ) : Type 0 where
  pub even : one_to_one c ≡ true
  pub opens : both_open v c ≡ true
  pub band : in_band v c c.limit ≡ true
  pub clear : held (other_clear v c s) ≡ true
  pub range : within (increment v s) 100000 (displayed_price (increment v s) d (leg_price v c s d)) ≡ true
  pub displayed : displayed_no_worse v s d (leg_price v c s d) ≡ true
  pub inside : not (reaches_any d (leg_price v c s d) (best_own v s (opposite d))) ≡ true
  pub outside : not (reaches_any d (leg_price v c s d) (away v s (opposite d))) ≡ true
  pub way : gives_way v c d (leg_price v c s d) (legging_at v s d) ≡ true
  pub ceiling : under_ceiling number (generations_of v s) ≡ true
  pub others : others_stand (placed (place_of s d) (new_legging v c s d) v) (place_of s d) 0 (set v.legging (place_of s d) (new_legging v c s d)) ≡ true

pub made : {number : ℕ} {v : Venue} {c : Complex} {s d : ℕ} → makes number v c s d ≡ true → Makes number v c s d
unfolding makes placed with_legging
made m = search (and_l, and_r, m) depth 12

-- The new legging order passes its own test ---------------------------------------------------

module _ (v : Venue) (c : Complex) (s d : ℕ) where
  -- the order that the leg makes, and the venue with it
  abbrev pub new : Legging
  new = new_legging v c s d

  abbrev pub after : Venue
  after = placed (place_of s d) new v

  -- k contracts of the other leg can be had, at a net of N
  new-pairs : {number : ℕ} → 0 < increment v s → Makes number v c s d → pairs v c s d new.price new.quantity ≡ true
  unfolding pairs new_legging
  new-pairs k m =
      rw (m.clear, leg-nets v c s d (zero-out (increment v s) d _ k m.range), le_z-refl, le-leb _ _ (min-le_right c.quantity (other_size v c s)))

  new-passes : {number : ℕ} → 0 < increment v s → d < 2 → opposite (other_leg c s).side < 2 → s ≢ (other_leg c s).series → Makes number v c s d → Passes after c s d new
  unfolding displayed_no_worse increment percent figure_now best_regular placed with_legging new_legging in_band taken1 taken2 market_best away both_open status_of
  new-passes k d2 e2 ne m = record {
    displayed = m.displayed;
    pair = rw (pairs-elsewhere (place_of s d) new v, place-apart s _ d _ d2 e2 ne) (new-pairs k m);
    band = m.band;
    opens = m.opens;
  }

-- The venue after generation ------------------------------------------------------------------

-- removing at place m alone and then writing there is writing there
stayers-id : (f : ℕ → Legging → Verdict) (n : ℕ) (ls : List Legging) → ((k : ℕ) (l : Legging) → n ≤ k → f k l ≡ Stands) → stayers f n ls ≡ ls
unfolding stayers stay
stayers-id f n [] h = refl
stayers-id f n (l ∷ ls) h = rw (h n l (omega arith), stayers-id f (suc n) ls (λ k l' q. h k l' (omega arith)))

only : ℕ → ℕ → Legging → Verdict
only m n l = fail_if (eqb n m) Replaced

only-other : (m n : ℕ) (l : Legging) → n ≢ m → only m n l ≡ Stands
unfolding only fail_if
only-other m n l ne = rw (ne_eqb n m ne)

set-stayers : (m n i : ℕ) (ls : List Legging) (x : Legging) → m ≡ n + i → set (stayers (only m) n ls) i x ≡ set ls i x
unfolding stayers stay
set-stayers m n i [] x e = refl
set-stayers m n zero (l ∷ ls) x e = rw (stayers-id (only m) (suc n) ls (λ k l' q. only-other m k l' (λ y. omega arith)))
set-stayers m n (suc i) (l ∷ ls) x e = rw (only-other m n l (λ y. omega arith), set-stayers m (suc n) i ls x (omega arith))

pub make-venue : (number : ℕ) (v : Venue) (c : Complex) (s d : ℕ) → (make number c s d v).venue ≡ counted number s (after v c s d)
unfolding make remove placed counted generations_of with_legging with_generations ◌⟫◌ report only
make-venue number v c s d = rw (set-stayers (place_of s d) 0 (place_of s d) v.legging (new_legging v c s d) (omega arith))

-- every legging order of w passes its test
unfoldable pub AllStand : Venue → Type 0
AllStand w = (i : ℕ) → verdict w i (get_or w.legging i no_legging) ≡ Stands

pub is-stands : (x : Verdict) → stands x ≡ true → x ≡ Stands
unfolding stands
is-stands Stands h = refl
is-stands (Fails c) h = absurd (false≢true h)

-- the ceiling's count moves no test
counted-stands : (number s : ℕ) (w : Venue) → AllStand w → AllStand (counted number s w)
unfolding AllStand
counted-stands number s w a i = verdict-kept (thins number s w) i _ (unfold counted with_generations in (a i))
  where
    thins : (number s : ℕ) (w : Venue) → Thinned w (counted number s w)
    thins number s w = unfold counted with_generations in (record { regular = refl; complex = refl; series = refl; editions = refl; legging = λ i. unfold SameOrGone in (inl refl) })

others-stand : (w : Venue) (m n : ℕ) (ls : List Legging) (i : ℕ) → others_stand w m n ls ≡ true → n + i ≢ m →
    verdict w (n + i) (get_or ls i no_legging) ≡ Stands
unfolding others_stand
others-stand w m n [] i h ne = free-stands w (n + i) no_legging refl
others-stand w m n (l ∷ ls) zero h ne =
    rw add-zero (is-stands _ (or_r (eqb n m) _ (ne_eqb n m (λ y. omega arith)) (and_l _ (others_stand w m (suc n) ls) h)))
others-stand w m n (l ∷ ls) (suc i) h ne =
    rw (add-suc, ← suc-add) (others-stand w m (suc n) ls i (and_r (eqb n m || stands (verdict w n l)) _ h) (λ y. omega arith))

-- Generation keeps every legging order standing -----------------------------------------------

module _ (v : Venue) (c : Complex) (s d : ℕ) (step : 0 < increment v s)
    (d2 : d < 2) (e2 : opposite (other_leg c s).side < 2) (ne : s ≢ (other_leg c s).series)
    (own : find_complex c.id v.complex ≡ c) (fits : place_of s d < length v.legging) where
  new-stands : {number : ℕ} → Makes number v c s d → verdict (after v c s d) (place_of s d) (new v c s d) ≡ Stands
  unfolding verdict parent_of placed with_legging new_legging
  new-stands m =
      rw (own, place-series s d d2, place-side s d d2, passing (new-passes v c s d step d2 e2 ne m), if-same)

  after-stands : {number : ℕ} → Makes number v c s d → AllStand (after v c s d)
  unfolding AllStand placed with_legging
  after-stands m i = go (ℕ_discrete i (place_of s d))
    where
      go : Dec (i ≡ place_of s d) → verdict (after v c s d) i (get_or (after v c s d).legging i no_legging) ≡ Stands
      go (yes e) = rw (e, get_or-set_same) (new-stands m)
      go (no f) = rw zero-add at (others-stand (after v c s d) (place_of s d) 0 (after v c s d).legging i m.others (λ y. f (omega arith)))

  pub generate-stands : (number : ℕ) → AllStand v → AllStand (generate_leg number c s d v).venue
  unfolding generate_leg nothing
  generate-stands number a = go (held c.quantity && makes number v c s d) refl
    where
      go : (b : Bool) → (held c.quantity && makes number v c s d) ≡ b → AllStand (if b then make number c s d v else nothing v).venue
      go true e = rw make-venue (counted-stands number s _ (after-stands (made (and_r (held c.quantity) (makes number v c s d) e))))
      go false e = a
