-- What a store into the numbers does to the venue that they stand for: numbers that agree outside of one place make venues that differ there only.
use Rattle.std.specs.Prelude.{if◌then◌else◌}
use mathlib.Core.Path.{◌≡◌, refl, sym, ap, ◌∙◌}
use mathlib.Core.Bool.{Bool}
use mathlib.Core.Logic.{◌≢◌, ◌⊎◌, inl, inr}
use mathlib.Core.List.{List}
use Prim.Native.Nat.{ℕ, ◌+◌, ◌*◌, ◌≤◌, ◌<◌, min}
use native.Mathlib.Omega.{arith}
use native.Mathlib.Decide.{dec_lt}
use borrow.Author.Tests.{lt-ltb, le-ltb}
use lib.Dec.{ltb}
use lib.ListN.{length, get_or, set, get_or-eq_default}
use lib.Seq.{get_or-set_other}
use Rattle.rules.specs.Base.{held}
use Rattle.rules.specs.declared.Regular.{Regular}
use Rattle.rules.specs.declared.Venue.{Venue}
use Rattle.rules.specs.Words.{no_regular, no_complex, no_legging, not_listed, no_edition, regular_at, complex_at, with_regular, with_complex, with_legging}
use Rattle.rules.specs.Words.{with_series, with_editions, with_last, place_of, legging_at, listed_at}
use Rattle.rules.specs.Places.{holds_regular}
use Rattle.places.specs.Layout.{size, upto, in_use, regulars_used, complexes_used, regular_in, complex_in, legging_in, listed_in, edition_in, generations_in, venue_of}
use Rattle.places.specs.Offsets.{complex_id_at, complex_legs_at, complex_ratios_at, complex_class_at, complex_limit_at, complex_quantity_at, complex_next_at}
use Rattle.places.specs.Offsets.{legging_parent_at, legging_price_at, legging_quantity_at, legging_next_at, series_status_at, series_bid_at, series_offer_at}
use Rattle.places.specs.Offsets.{series_next_at, regulars_used_at, complexes_used_at, last_id_at, level_price_at, edition_number_at, edition_message_at}
use Rattle.places.specs.Offsets.{edition_figure_at, edition_value_at, edition_next_at, figures_at, regular_reserve_at, regular_display_at}
use Rattle.places.specs.Offsets.{regular_reserve_next_at, show_again_at, generation_messages_at, generation_next_at, id_reached_at}
use Rattle.rules.specs.declared.Legging.{Legging}
use Rattle.rules.specs.declared.Listed.{Listed}
use native.Mathlib.Nat.{zero-add}
use Rattle.places.proofs.Tables.{upto-length, upto-at, upto-same, upto-set, used-same, used-set, used-at, used-free, used-length}

-- a and b have the same numbers but for those from low to below high
pub record Outside (low high : ℕ) (a b : List ℕ) : Type 0 where
  pub same : (k : ℕ) → (k < low) ⊎ (high ≤ k) → get_or b k 0 ≡ get_or a k 0

pub stored : (l : List ℕ) (i x : ℕ) → Outside i (i + 1) l (set l i x)
stored l i x = record { same = λ k h. get_or-set_other l i k x 0 (λ e. go k h e) }
  where
    go : (k : ℕ) → (k < i) ⊎ (i + 1 ≤ k) → k ≡ i → ⊥
    go k (inl p) e = omega arith
    go k (inr p) e = omega arith

pub wider : {low high l h : ℕ} {a b : List ℕ} → l ≤ low → high ≤ h → Outside low high a b → Outside l h a b
wider {low = low} {high = high} {l = l} {h = h} p q o = record { same = λ k w. o.same k (go k w) }
  where
    go : (k : ℕ) → (k < l) ⊎ (h ≤ k) → (k < low) ⊎ (high ≤ k)
    go k (inl r) = inl (omega arith)
    go k (inr r) = inr (omega arith)

pub joined : {low high : ℕ} {a b c : List ℕ} → Outside low high a b → Outside low high b c → Outside low high a c
joined o p = record { same = λ k h. p.same k h ∙ o.same k h }

pub unmoved : {low high : ℕ} {a : List ℕ} → Outside low high a a
unmoved = record { same = λ k h. refl }

-- Each part, by its fields --------------------------------------------------------------------

regular-fields : (a b : List ℕ) (i : ℕ) → ((k : ℕ) → 4 * i ≤ k → k < 4 * i + 4 → get_or b k 0 ≡ get_or a k 0) →
    ((k : ℕ) → 2 * i + regular_reserve_at ≤ k → k < 2 * i + regular_reserve_next_at → get_or b k 0 ≡ get_or a k 0) → regular_in a i ≡ regular_in b i
unfolding regular_in
regular-fields a b i p q =
    rw (
      p (4 * i) (omega arith) (omega arith),
      p (4 * i + 1) (omega arith) (omega arith),
      p (4 * i + 2) (omega arith) (omega arith),
      p (4 * i + 3) (omega arith) (omega arith),
      q (2 * i + regular_reserve_at) (omega arith) (omega arith),
      q (2 * i + regular_display_at) (omega arith) (omega arith),
    )

complex-fields : (a b : List ℕ) (i : ℕ) → get_or b (6 * i + complex_id_at) 0 ≡ get_or a (6 * i + complex_id_at) 0 → get_or b (6 * i + complex_legs_at) 0 ≡ get_or a (6 * i + complex_legs_at) 0 →
    get_or b (6 * i + complex_ratios_at) 0 ≡ get_or a (6 * i + complex_ratios_at) 0 → get_or b (6 * i + complex_class_at) 0 ≡ get_or a (6 * i + complex_class_at) 0 →
    get_or b (6 * i + complex_limit_at) 0 ≡ get_or a (6 * i + complex_limit_at) 0 →
    get_or b (6 * i + complex_quantity_at) 0 ≡ get_or a (6 * i + complex_quantity_at) 0 → complex_in a i ≡ complex_in b i
unfolding complex_in
complex-fields a b i p q r s t u = rw (p, q, r, s, t, u)

legging-fields : (a b : List ℕ) (i : ℕ) → get_or b (3 * i + legging_parent_at) 0 ≡ get_or a (3 * i + legging_parent_at) 0 → get_or b (3 * i + legging_price_at) 0 ≡ get_or a (3 * i + legging_price_at) 0 →
    get_or b (3 * i + legging_quantity_at) 0 ≡ get_or a (3 * i + legging_quantity_at) 0 → legging_in a i ≡ legging_in b i
unfolding legging_in
legging-fields a b i p q r = rw (p, q, r)

listed-fields : (a b : List ℕ) (i : ℕ) → get_or b (3 * i + series_status_at) 0 ≡ get_or a (3 * i + series_status_at) 0 → get_or b (3 * i + series_bid_at) 0 ≡ get_or a (3 * i + series_bid_at) 0 →
    get_or b (3 * i + series_offer_at) 0 ≡ get_or a (3 * i + series_offer_at) 0 → listed_in a i ≡ listed_in b i
unfolding listed_in
listed-fields a b i p q r = rw (p, q, r)

edition-fields : (a b : List ℕ) (i : ℕ) → get_or b (4 * i + edition_number_at) 0 ≡ get_or a (4 * i + edition_number_at) 0 → get_or b (4 * i + edition_message_at) 0 ≡ get_or a (4 * i + edition_message_at) 0 →
    get_or b (4 * i + edition_figure_at) 0 ≡ get_or a (4 * i + edition_figure_at) 0 → get_or b (4 * i + edition_value_at) 0 ≡ get_or a (4 * i + edition_value_at) 0 → edition_in a i ≡ edition_in b i
unfolding edition_in
edition-fields a b i p q r s = rw (p, q, r, s)

generations-fields : (a b : List ℕ) (s : ℕ) → ((k : ℕ) → 20 * s + generation_messages_at ≤ k → k < 20 * s + generation_next_at → get_or b k 0 ≡ get_or a k 0) → generations_in a s ≡ generations_in b s
unfolding generations_in
generations-fields a b s h = rw (upto-same (λ k. get_or a k 0) (λ k. get_or b k 0) (20 * s + generation_messages_at) 20 (λ k p q. sym (h k p (omega arith)))) refl

-- Places that the store does not reach --------------------------------------------------------

module _ {low high : ℕ} {a b : List ℕ} (o : Outside low high a b) where
  span-kept : (l h : ℕ) → (h ≤ low) ⊎ (high ≤ l) → (k : ℕ) → l ≤ k → k < h → get_or b k 0 ≡ get_or a k 0
  span-kept l h (inl w) k p q = o.same k (inl (omega arith))
  span-kept l h (inr w) k p q = o.same k (inr (omega arith))

  -- neither its row nor that of what it shows
  pub regular-kept : (i : ℕ) → (4 * i + 4 ≤ low) ⊎ (high ≤ 4 * i) → (2 * i + regular_reserve_next_at ≤ low) ⊎ (high ≤ 2 * i + regular_reserve_at) → regular_in a i ≡ regular_in b i
  regular-kept i h w = regular-fields a b i (span-kept (4 * i) (4 * i + 4) h) (span-kept (2 * i + regular_reserve_at) (2 * i + regular_reserve_next_at) w)

  -- a place is held by its quantity alone
  pub holds_kept : (i : ℕ) → (4 * i + 4 ≤ low) ⊎ (high ≤ 4 * i) → holds_regular (regular_in a i) ≡ holds_regular (regular_in b i)
  unfolding regular_in
  holds_kept i h = ap held (sym (span-kept (4 * i) (4 * i + 4) h (4 * i + 3) (omega arith) (omega arith)))

  pub complex-kept : (i : ℕ) → (6 * i + complex_next_at ≤ low) ⊎ (high ≤ 6 * i + complex_id_at) → complex_in a i ≡ complex_in b i
  complex-kept i (inl h) = complex-fields a b i (o.same (6 * i + complex_id_at) (inl (omega arith))) (o.same (6 * i + complex_legs_at) (inl (omega arith)))
      (o.same (6 * i + complex_ratios_at) (inl (omega arith))) (o.same (6 * i + complex_class_at) (inl (omega arith)))
      (o.same (6 * i + complex_limit_at) (inl (omega arith))) (o.same (6 * i + complex_quantity_at) (inl (omega arith)))
  complex-kept i (inr h) = complex-fields a b i (o.same (6 * i + complex_id_at) (inr (omega arith))) (o.same (6 * i + complex_legs_at) (inr (omega arith)))
      (o.same (6 * i + complex_ratios_at) (inr (omega arith))) (o.same (6 * i + complex_class_at) (inr (omega arith)))
      (o.same (6 * i + complex_limit_at) (inr (omega arith))) (o.same (6 * i + complex_quantity_at) (inr (omega arith)))

  pub legging-kept : (i : ℕ) → (3 * i + legging_next_at ≤ low) ⊎ (high ≤ 3 * i + legging_parent_at) → legging_in a i ≡ legging_in b i
  legging-kept i (inl h) = legging-fields a b i (o.same (3 * i + legging_parent_at) (inl (omega arith)))
      (o.same (3 * i + legging_price_at) (inl (omega arith))) (o.same (3 * i + legging_quantity_at) (inl (omega arith)))
  legging-kept i (inr h) = legging-fields a b i (o.same (3 * i + legging_parent_at) (inr (omega arith)))
      (o.same (3 * i + legging_price_at) (inr (omega arith))) (o.same (3 * i + legging_quantity_at) (inr (omega arith)))

  pub listed_kept : (i : ℕ) → (3 * i + series_next_at ≤ low) ⊎ (high ≤ 3 * i + series_status_at) → listed_in a i ≡ listed_in b i
  listed_kept i (inl h) = listed-fields a b i (o.same (3 * i + series_status_at) (inl (omega arith)))
      (o.same (3 * i + series_bid_at) (inl (omega arith))) (o.same (3 * i + series_offer_at) (inl (omega arith)))
  listed_kept i (inr h) = listed-fields a b i (o.same (3 * i + series_status_at) (inr (omega arith)))
      (o.same (3 * i + series_bid_at) (inr (omega arith))) (o.same (3 * i + series_offer_at) (inr (omega arith)))

  pub edition-kept : (i : ℕ) → (4 * i + edition_next_at ≤ low) ⊎ (high ≤ 4 * i + edition_number_at) → edition_in a i ≡ edition_in b i
  edition-kept i (inl h) = edition-fields a b i (o.same (4 * i + edition_number_at) (inl (omega arith))) (o.same (4 * i + edition_message_at) (inl (omega arith)))
      (o.same (4 * i + edition_figure_at) (inl (omega arith))) (o.same (4 * i + edition_value_at) (inl (omega arith)))
  edition-kept i (inr h) = edition-fields a b i (o.same (4 * i + edition_number_at) (inr (omega arith))) (o.same (4 * i + edition_message_at) (inr (omega arith)))
      (o.same (4 * i + edition_figure_at) (inr (omega arith))) (o.same (4 * i + edition_value_at) (inr (omega arith)))

  pub generation-kept : (s : ℕ) → (20 * s + generation_next_at ≤ low) ⊎ (high ≤ 20 * s + generation_messages_at) → generations_in a s ≡ generations_in b s
  generation-kept s h = generations-fields a b s (span-kept (20 * s + generation_messages_at) (20 * s + generation_next_at) h)

-- The counts and whole parts ------------------------------------------------------------------

pub regulars-few : (b : List ℕ) → regulars_used b ≤ 128
unfolding regulars_used
regulars-few b = omega arith

pub regulars-many : (b : List ℕ) → length (venue_of b).regular ≡ 128
unfolding venue_of
regulars-many b = used-length (regular_in b) no_regular (regulars_used b) 128 (regulars-few b)

pub complexes-few : (b : List ℕ) → complexes_used b ≤ 32
unfolding complexes_used
complexes-few b = omega arith

-- what rests at a place in use
pub regular-at : (b : List ℕ) (i : ℕ) → i < regulars_used b → regular_at (venue_of b) i ≡ regular_in b i
unfolding regular_at venue_of
regular-at b i h = used-at (regular_in b) no_regular (regulars_used b) 128 i h

pub complex-at : (b : List ℕ) (i : ℕ) → i < complexes_used b → complex_at (venue_of b) i ≡ complex_in b i
unfolding complex_at venue_of
complex-at b i h = used-at (complex_in b) no_complex (complexes_used b) 32 i h

pub legging-at : (b : List ℕ) (n : ℕ) → n < 16 → get_or (venue_of b).legging n no_legging ≡ legging_in b n
unfolding venue_of
legging-at b n h = upto-at (legging_in b) no_legging 0 16 n h ∙ ap (legging_in b) (omega arith)

pub leggings-length : (b : List ℕ) → length (venue_of b).legging ≡ 16
unfolding venue_of
leggings-length b = upto-length (legging_in b) 0 16

pub legging-read : (b : List ℕ) (s d n : ℕ) (l : Legging) → s < 8 → d < 2 → n ≡ place_of s d → l ≡ legging_in b n → l ≡ legging_at (venue_of b) s d
unfolding legging_at venue_of place_of
legging-read b s d n l hs hd en el =
    el ∙ ap (legging_in b) en ∙ sym (upto-at (legging_in b) no_legging 0 16 (2 * s + d) (omega arith) ∙ ap (legging_in b) (zero-add (2 * s + d)))

pub listed-read : (b : List ℕ) (s : ℕ) (x : Listed) → s < 8 → x ≡ listed_in b s → x ≡ listed_at (venue_of b) s
unfolding venue_of
listed-read b s x h e = e ∙ sym (upto-at (listed_in b) not_listed 0 8 s h ∙ ap (listed_in b) (zero-add s))

pub regular-past : (b : List ℕ) (i : ℕ) → regulars_used b ≤ i → regular_at (venue_of b) i ≡ no_regular
unfolding regular_at venue_of
regular-past b i h = used-free (regular_in b) no_regular (regulars_used b) 128 i h

pub complex-past : (b : List ℕ) (i : ℕ) → complexes_used b ≤ i → complex_at (venue_of b) i ≡ no_complex
unfolding complex_at venue_of
complex-past b i h = used-free (complex_in b) no_complex (complexes_used b) 32 i h

-- a store before the rows of what orders show, or past them
past-rows : {low high : ℕ} (j : ℕ) → j < 128 → (show_again_at ≤ low) ⊎ (high ≤ regular_reserve_at) → (2 * j + regular_reserve_next_at ≤ low) ⊎ (high ≤ 2 * j + regular_reserve_at)
past-rows j q (inl h) = inl (omega arith)
past-rows j q (inr h) = inr (omega arith)

module _ {low high : ℕ} {a b : List ℕ} (o : Outside low high a b) where
  pub count_kept : (regulars_used_at < low) ⊎ (high ≤ regulars_used_at) → regulars_used b ≡ regulars_used a
  unfolding regulars_used
  count_kept h = ap (λ (x : ℕ). min x 128) (o.same regulars_used_at h)

  pub count-kept2 : (complexes_used_at < low) ⊎ (high ≤ complexes_used_at) → complexes_used b ≡ complexes_used a
  unfolding complexes_used
  count-kept2 h = ap (λ (x : ℕ). min x 32) (o.same complexes_used_at h)

  pub regulars-kept : complex_id_at ≤ low → (show_again_at ≤ low) ⊎ (high ≤ regular_reserve_at) → (regulars_used_at < low) ⊎ (high ≤ regulars_used_at) → (venue_of b).regular ≡ (venue_of a).regular
  unfolding venue_of
  regulars-kept h w k =
      rw (count_kept k) (used-same (regular_in b) (regular_in a) no_regular (regulars_used a) 128
      (λ j q. let z = regulars-few a in sym (regular-kept o j (inl (omega arith)) (past-rows j (omega arith) w))))

  pub complexes-kept : (high ≤ complex_id_at) ⊎ (legging_parent_at ≤ low) → (complexes_used_at < low) ⊎ (high ≤ complexes_used_at) → (venue_of b).complex ≡ (venue_of a).complex
  unfolding venue_of
  complexes-kept h k =
      rw (count-kept2 k) (used-same (complex_in b) (complex_in a) no_complex (complexes_used a) 32 (λ j q. let z = complexes-few a in sym (complex-kept o j (go j (omega arith) h))))
    where
      go : (j : ℕ) → j < 32 → (high ≤ complex_id_at) ⊎ (legging_parent_at ≤ low) → (6 * j + complex_next_at ≤ low) ⊎ (high ≤ 6 * j + complex_id_at)
      go j q (inl x) = inr (omega arith)
      go j q (inr x) = inl (omega arith)

  pub leggings-kept : (high ≤ legging_parent_at) ⊎ (series_status_at ≤ low) → (venue_of b).legging ≡ (venue_of a).legging
  unfolding venue_of
  leggings-kept h = upto-same (legging_in b) (legging_in a) 0 16 (λ j p q. sym (legging-kept o j (go j (omega arith) h)))
    where
      go : (j : ℕ) → j < 16 → (high ≤ legging_parent_at) ⊎ (series_status_at ≤ low) → (3 * j + legging_next_at ≤ low) ⊎ (high ≤ 3 * j + legging_parent_at)
      go j q (inl x) = inr (omega arith)
      go j q (inr x) = inl (omega arith)

  pub series-kept : (high ≤ series_status_at) ⊎ (regulars_used_at ≤ low) → (venue_of b).series ≡ (venue_of a).series
  unfolding venue_of
  series-kept h = upto-same (listed_in b) (listed_in a) 0 8 (λ j p q. sym (listed_kept o j (go j (omega arith) h)))
    where
      go : (j : ℕ) → j < 8 → (high ≤ series_status_at) ⊎ (regulars_used_at ≤ low) → (3 * j + series_next_at ≤ low) ⊎ (high ≤ 3 * j + series_status_at)
      go j q (inl x) = inr (omega arith)
      go j q (inr x) = inl (omega arith)

  pub editions-kept : (high ≤ edition_number_at) ⊎ (figures_at ≤ low) → (venue_of b).editions ≡ (venue_of a).editions
  unfolding venue_of
  editions-kept h = upto-same (edition_in b) (edition_in a) 0 32 (λ j p q. sym (edition-kept o j (go j (omega arith) h)))
    where
      go : (j : ℕ) → j < 32 → (high ≤ edition_number_at) ⊎ (figures_at ≤ low) → (4 * j + edition_next_at ≤ low) ⊎ (high ≤ 4 * j + edition_number_at)
      go j q (inl x) = inr (omega arith)
      go j q (inr x) = inl (omega arith)

  pub generations-kept : (high ≤ generation_messages_at) ⊎ (id_reached_at ≤ low) → (venue_of b).generations ≡ (venue_of a).generations
  unfolding venue_of
  generations-kept h = upto-same (generations_in b) (generations_in a) 0 8 (λ s p q. sym (generation-kept o s (go s (omega arith) h)))
    where
      go : (s : ℕ) → s < 8 → (high ≤ generation_messages_at) ⊎ (id_reached_at ≤ low) → (20 * s + generation_next_at ≤ low) ⊎ (high ≤ 20 * s + generation_messages_at)
      go s q (inl x) = inr (omega arith)
      go s q (inr x) = inl (omega arith)

  pub last-kept : (last_id_at < low) ⊎ (high ≤ last_id_at) → (venue_of b).last ≡ (venue_of a).last
  unfolding venue_of
  last-kept h = o.same last_id_at h

  pub reached-kept : (id_reached_at < low) ⊎ (high ≤ id_reached_at) → (venue_of b).reached ≡ (venue_of a).reached
  unfolding venue_of
  reached-kept h = o.same id_reached_at h

-- One place anew ------------------------------------------------------------------------------

-- venues with the same parts are the same
pub venue-is : (v w : Venue) → v.regular ≡ w.regular → v.complex ≡ w.complex → v.legging ≡ w.legging → v.series ≡ w.series →
    v.editions ≡ w.editions → v.generations ≡ w.generations → v.last ≡ w.last →
    v.reached ≡ w.reached → v ≡ w
venue-is v w p q r s e g t k = rw (p, q, r, s, e, g, t, k)

-- a row of a regular place, and the row of what it shows
module _ {i : ℕ} {a m b : List ℕ} (o : Outside (4 * i) (4 * i + 4) a m) (p : Outside (2 * i + regular_reserve_at) (2 * i + regular_reserve_next_at) m b) where
  near : (j : ℕ) → j ≢ i → (4 * j + 4 ≤ 4 * i) ⊎ (4 * i + 4 ≤ 4 * j)
  near j n = elim (dec_lt j i) [ yes q ↦ inl (omega arith) | no q ↦ inr (omega arith) ]

  near-row : (j : ℕ) → j ≢ i → (2 * j + regular_reserve_next_at ≤ 2 * i + regular_reserve_at) ⊎ (2 * i + regular_reserve_next_at ≤ 2 * j + regular_reserve_at)
  near-row j n = elim (dec_lt j i) [ yes q ↦ inl (omega arith) | no q ↦ inr (omega arith) ]

  pub other-kept : i < 128 → (j : ℕ) → j < 128 → j ≢ i → regular_in a j ≡ regular_in b j
  other-kept h j w n = regular-kept o j (near j n) (inr (omega arith)) ∙ regular-kept p j (inl (omega arith)) (near-row j n)

  rest-kept : i < 128 → (l : List Regular) → (venue_of b).regular ≡ l → venue_of b ≡ with_regular (venue_of a) l
  unfolding with_regular
  rest-kept h l e =
      venue-is (venue_of b) (with_regular (venue_of a) l)
      e
      (complexes-kept p (inr (omega arith)) (inl (omega arith)) ∙ complexes-kept o (inl (omega arith)) (inr (omega arith)))
      (leggings-kept p (inr (omega arith)) ∙ leggings-kept o (inl (omega arith)))
      (series-kept p (inr (omega arith)) ∙ series-kept o (inl (omega arith)))
      (editions-kept p (inr (omega arith)) ∙ editions-kept o (inl (omega arith)))
      (generations-kept p (inl (omega arith)) ∙ generations-kept o (inl (omega arith)))
      (last-kept p (inl (omega arith)) ∙ last-kept o (inr (omega arith)))
      (reached-kept p (inr (omega arith)) ∙ reached-kept o (inr (omega arith)))

  as_many : i < 128 → regulars_used b ≡ regulars_used a
  as_many h = count_kept p (inl (omega arith)) ∙ count_kept o (inr (omega arith))

  pub regular-set : i < regulars_used a → venue_of b ≡ with_regular (venue_of a) (set (venue_of a).regular i (regular_in b i))
  regular-set h = let z = regulars-few a in rest-kept (omega arith) (set (venue_of a).regular i (regular_in b i)) (part (as_many (omega arith)))
    where
      part : regulars_used b ≡ regulars_used a → (venue_of b).regular ≡ set (venue_of a).regular i (regular_in b i)
      part e = let z = regulars-few a in unfold venue_of in
          rw e (used-set (regular_in a) (regular_in b) no_regular i (regulars_used a) 128 h (regulars-few a)
          (λ j q n. other-kept (omega arith) j (omega arith) n))

  -- of a place that is not in use it changes nothing
  pub regular-unused : i < 128 → regulars_used a ≤ i → venue_of b ≡ venue_of a
  unfolding with_regular
  regular-unused h m = rest-kept h (venue_of a).regular (part (as_many h))
    where
      part : regulars_used b ≡ regulars_used a → (venue_of b).regular ≡ (venue_of a).regular
      part e = unfold venue_of in rw e (used-same (regular_in b) (regular_in a) no_regular (regulars_used a) 128 (λ j q. sym (other-kept h j (omega arith) (λ x. omega arith))))

module _ {i : ℕ} {a b : List ℕ} where
  pub complex-set : Outside (6 * i + complex_id_at) (6 * i + complex_next_at) a b → i < complexes_used a → venue_of b ≡ with_complex (venue_of a) (set (venue_of a).complex i (complex_in b i))
  unfolding with_complex
  complex-set o h =
      let z = complexes-few a in
      venue-is (venue_of b) (with_complex (venue_of a) (set (venue_of a).complex i (complex_in b i)))
      (regulars-kept o (omega arith) (inr (omega arith)) (inr (omega arith)))
      (part (count-kept2 o (inr (omega arith))))
      (leggings-kept o (inl (omega arith)))
      (series-kept o (inl (omega arith)))
      (editions-kept o (inl (omega arith)))
      (generations-kept o (inl (omega arith)))
      (last-kept o (inr (omega arith)))
      (reached-kept o (inr (omega arith)))
    where
      near : (j : ℕ) → j ≢ i → (6 * j + complex_next_at ≤ 6 * i + complex_id_at) ⊎ (6 * i + complex_next_at ≤ 6 * j + complex_id_at)
      near j n = elim (dec_lt j i) [ yes q ↦ inl (omega arith) | no q ↦ inr (omega arith) ]

      part : complexes_used b ≡ complexes_used a → (venue_of b).complex ≡ set (venue_of a).complex i (complex_in b i)
      part e = unfold venue_of in rw e (used-set (complex_in a) (complex_in b) no_complex i (complexes_used a) 32 h (complexes-few a) (λ j q n. complex-kept o j (near j n)))

  pub legging-set : Outside (3 * i + legging_parent_at) (3 * i + legging_next_at) a b → i < 16 → venue_of b ≡ with_legging (venue_of a) (set (venue_of a).legging i (legging_in b i))
  unfolding with_legging
  legging-set o h =
      venue-is (venue_of b) (with_legging (venue_of a) (set (venue_of a).legging i (legging_in b i)))
      (regulars-kept o (omega arith) (inr (omega arith)) (inr (omega arith)))
      (complexes-kept o (inr (omega arith)) (inr (omega arith)))
      part
      (series-kept o (inl (omega arith)))
      (editions-kept o (inl (omega arith)))
      (generations-kept o (inl (omega arith)))
      (last-kept o (inr (omega arith)))
      (reached-kept o (inr (omega arith)))
    where
      near : (j : ℕ) → j ≢ i → (3 * j + legging_next_at ≤ 3 * i + legging_parent_at) ⊎ (3 * i + legging_next_at ≤ 3 * j + legging_parent_at)
      near j n = elim (dec_lt j i) [ yes q ↦ inl (omega arith) | no q ↦ inr (omega arith) ]

      part : (venue_of b).legging ≡ set (venue_of a).legging i (legging_in b i)
      part = unfold venue_of in (upto-set (legging_in a) (legging_in b) no_legging i 16 h (λ j q n. legging-kept o j (near j n)))

  pub listed-set : Outside (3 * i + series_status_at) (3 * i + series_next_at) a b → i < 8 → venue_of b ≡ with_series (venue_of a) (set (venue_of a).series i (listed_in b i))
  unfolding with_series
  listed-set o h =
      venue-is (venue_of b) (with_series (venue_of a) (set (venue_of a).series i (listed_in b i)))
      (regulars-kept o (omega arith) (inr (omega arith)) (inr (omega arith)))
      (complexes-kept o (inr (omega arith)) (inr (omega arith)))
      (leggings-kept o (inr (omega arith)))
      part
      (editions-kept o (inl (omega arith)))
      (generations-kept o (inl (omega arith)))
      (last-kept o (inr (omega arith)))
      (reached-kept o (inr (omega arith)))
    where
      near : (j : ℕ) → j ≢ i → (3 * j + series_next_at ≤ 3 * i + series_status_at) ⊎ (3 * i + series_next_at ≤ 3 * j + series_status_at)
      near j n = elim (dec_lt j i) [ yes q ↦ inl (omega arith) | no q ↦ inr (omega arith) ]

      part : (venue_of b).series ≡ set (venue_of a).series i (listed_in b i)
      part = unfold venue_of in (upto-set (listed_in a) (listed_in b) not_listed i 8 h (λ j q n. listed_kept o j (near j n)))

  pub edition-set : Outside (4 * i + edition_number_at) (4 * i + edition_next_at) a b → i < 32 → venue_of b ≡ with_editions (venue_of a) (set (venue_of a).editions i (edition_in b i))
  unfolding with_editions
  edition-set o h =
      venue-is (venue_of b) (with_editions (venue_of a) (set (venue_of a).editions i (edition_in b i)))
      (regulars-kept o (omega arith) (inr (omega arith)) (inl (omega arith)))
      (complexes-kept o (inr (omega arith)) (inl (omega arith)))
      (leggings-kept o (inr (omega arith)))
      (series-kept o (inr (omega arith)))
      part
      (generations-kept o (inl (omega arith)))
      (last-kept o (inl (omega arith)))
      (reached-kept o (inr (omega arith)))
    where
      near : (j : ℕ) → j ≢ i → (4 * j + edition_next_at ≤ 4 * i + edition_number_at) ⊎ (4 * i + edition_next_at ≤ 4 * j + edition_number_at)
      near j n = elim (dec_lt j i) [ yes q ↦ inl (omega arith) | no q ↦ inr (omega arith) ]

      part : (venue_of b).editions ≡ set (venue_of a).editions i (edition_in b i)
      part = unfold venue_of in (upto-set (edition_in a) (edition_in b) no_edition i 32 h (λ j q n. edition-kept o j (near j n)))

module _ {a b : List ℕ} where
  pub last_set : Outside last_id_at level_price_at a b → venue_of b ≡ with_last (venue_of a) (get_or b last_id_at 0)
  unfolding with_last
  last_set o =
      venue-is (venue_of b) (with_last (venue_of a) (get_or b last_id_at 0))
      (regulars-kept o (omega arith) (inr (omega arith)) (inl (omega arith)))
      (complexes-kept o (inr (omega arith)) (inl (omega arith)))
      (leggings-kept o (inr (omega arith)))
      (series-kept o (inr (omega arith)))
      (editions-kept o (inl (omega arith)))
      (generations-kept o (inl (omega arith)))
      (unfold venue_of in refl)
      (reached-kept o (inr (omega arith)))

  -- a store into a place that is not in use changes nothing
  pub complex-unused : (i : ℕ) → Outside (6 * i + complex_id_at) (6 * i + complex_next_at) a b → i < 32 → complexes_used a ≤ i → venue_of b ≡ venue_of a
  complex-unused i o h m =
      venue-is (venue_of b) (venue_of a)
      (regulars-kept o (omega arith) (inr (omega arith)) (inr (omega arith)))
      (part (count-kept2 o (inr (omega arith))))
      (leggings-kept o (inl (omega arith)))
      (series-kept o (inl (omega arith)))
      (editions-kept o (inl (omega arith)))
      (generations-kept o (inl (omega arith)))
      (last-kept o (inr (omega arith)))
      (reached-kept o (inr (omega arith)))
    where
      part : complexes_used b ≡ complexes_used a → (venue_of b).complex ≡ (venue_of a).complex
      part e = unfold venue_of in rw e (used-same (complex_in b) (complex_in a) no_complex (complexes_used a) 32 (λ j q. sym (complex-kept o j (inl (omega arith)))))

  -- another count of places in use
  pub regulars-counted : Outside regulars_used_at complexes_used_at a b → venue_of b ≡ with_regular (venue_of a) (in_use (regular_in a) no_regular (regulars_used b) 128)
  unfolding with_regular
  regulars-counted o =
      venue-is (venue_of b) (with_regular (venue_of a) (in_use (regular_in a) no_regular (regulars_used b) 128))
      part
      (complexes-kept o (inr (omega arith)) (inr (omega arith)))
      (leggings-kept o (inr (omega arith)))
      (series-kept o (inr (omega arith)))
      (editions-kept o (inl (omega arith)))
      (generations-kept o (inl (omega arith)))
      (last-kept o (inr (omega arith)))
      (reached-kept o (inr (omega arith)))
    where
      part : (venue_of b).regular ≡ in_use (regular_in a) no_regular (regulars_used b) 128
      part = unfold venue_of in (used-same (regular_in b) (regular_in a) no_regular (regulars_used b) 128 (λ j q. let z = regulars-few b in sym (regular-kept o j (inl (omega arith)) (inr (omega arith)))))

  pub complexes-counted : Outside complexes_used_at last_id_at a b → venue_of b ≡ with_complex (venue_of a) (in_use (complex_in a) no_complex (complexes_used b) 32)
  unfolding with_complex
  complexes-counted o =
      venue-is (venue_of b) (with_complex (venue_of a) (in_use (complex_in a) no_complex (complexes_used b) 32))
      (regulars-kept o (omega arith) (inr (omega arith)) (inl (omega arith)))
      part
      (leggings-kept o (inr (omega arith)))
      (series-kept o (inr (omega arith)))
      (editions-kept o (inl (omega arith)))
      (generations-kept o (inl (omega arith)))
      (last-kept o (inr (omega arith)))
      (reached-kept o (inr (omega arith)))
    where
      part : (venue_of b).complex ≡ in_use (complex_in a) no_complex (complexes_used b) 32
      part = unfold venue_of in (used-same (complex_in b) (complex_in a) no_complex (complexes_used b) 32 (λ j q. let z = complexes-few b in sym (complex-kept o j (inl (omega arith)))))

-- Many regular places -------------------------------------------------------------------------

-- a and b have the same numbers but for those of the regular places from i to below j
pub record OutsideRows (i j : ℕ) (a b : List ℕ) : Type 0 where
  pub same : (k : ℕ) → (k < 4 * i) ⊎ (4 * j ≤ k) → (k < 2 * i + regular_reserve_at) ⊎ (2 * j + regular_reserve_at ≤ k) → get_or b k 0 ≡ get_or a k 0

pub rows_agree : (a b : List ℕ) (i j k : ℕ) → j ≤ 128 → k < 128 → OutsideRows i j a b → (k < i) ⊎ (j ≤ k) → regular_in a k ≡ regular_in b k
rows_agree a b i j k most few o h = regular-fields a b k (λ n p q. o.same n (one n p q h) (inl (omega arith))) (λ n p q. o.same n (inr (omega arith)) (two n p q h))
  where
    one : (n : ℕ) → 4 * k ≤ n → n < 4 * k + 4 → (k < i) ⊎ (j ≤ k) → (n < 4 * i) ⊎ (4 * j ≤ n)
    one n p q (inl w) = inl (omega arith)
    one n p q (inr w) = inr (omega arith)

    two : (n : ℕ) → 2 * k + regular_reserve_at ≤ n → n < 2 * k + regular_reserve_next_at → (k < i) ⊎ (j ≤ k) → (n < 2 * i + regular_reserve_at) ⊎ (2 * j + regular_reserve_at ≤ n)
    two n p q (inl w) = inl (omega arith)
    two n p q (inr w) = inr (omega arith)

-- such a change in two steps: the rows, and then those of what orders show
pub record Halves (a b : List ℕ) : Type 0 where
  pub mid : List ℕ
  pub first : Outside 0 complex_id_at a mid
  pub second : Outside regular_reserve_at show_again_at mid b

module _ (a b : List ℕ) (n : length a ≡ size) (m : length b ≡ size) where
  at : ℕ → ℕ
  at k = if ltb k complex_id_at then get_or b k 0 else get_or a k 0

  between : List ℕ
  between = upto at 0 size

  below : (k : ℕ) → k < complex_id_at → get_or between k 0 ≡ get_or b k 0
  unfolding between at
  below k h =
      let e : 0 + k ≡ k = omega arith in
      upto-at at 0 0 size k (omega arith) ∙ ap at e ∙ ap (λ (t : Bool). if t then get_or b k 0 else get_or a k 0) (lt-ltb k complex_id_at h)

  above : (k : ℕ) → complex_id_at ≤ k → get_or between k 0 ≡ get_or a k 0
  unfolding between at
  above k h = elim (dec_lt k size) [
    | yes w ↦ (let e : 0 + k ≡ k = omega arith in upto-at at 0 0 size k w ∙ ap at e ∙ ap (λ (t : Bool). if t then get_or b k 0 else get_or a k 0) (le-ltb k complex_id_at h))
    | no w ↦ get_or-eq_default (upto at 0 size) 0 {n = k} (omega (arith, upto-length at 0 size)) ∙ sym (get_or-eq_default a 0 {n = k} (omega arith))
  ]

  pub halves : (i j : ℕ) → j ≤ 128 → OutsideRows i j a b → Halves a b
  halves i j most o = record { mid = between; first = record { same = one }; second = record { same = λ k. two k (dec_lt k complex_id_at) } }
    where
      one : (k : ℕ) → (k < 0) ⊎ (complex_id_at ≤ k) → get_or between k 0 ≡ get_or a k 0
      one k (inl h) = absurd (omega arith)
      one k (inr h) = above k h

      two : (k : ℕ) → Dec (k < complex_id_at) → (k < regular_reserve_at) ⊎ (show_again_at ≤ k) → get_or b k 0 ≡ get_or between k 0
      two k (yes w) h = sym (below k w)
      two k (no w) (inl h) = o.same k (inr (omega arith)) (inl (omega arith)) ∙ sym (above k (omega arith))
      two k (no w) (inr h) = o.same k (inr (omega arith)) (inr (omega arith)) ∙ sym (above k (omega arith))
