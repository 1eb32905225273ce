-- What closing the gaps does to the venue, and that a dense book's first free place is the one after those in use.
use mathlib.Core.Path.{◌≡◌, refl, sym, ap, subst, ◌∙◌}
use mathlib.Core.Bool.{true, false}
use mathlib.Core.Logic.{◌⊎◌, inl, inr}
use mathlib.Core.List.{List}
use Prim.Native.Nat.{ℕ, ◌+◌, ◌*◌, ◌≤◌, ◌<◌}
use native.Mathlib.Omega.{arith}
use lib.IntN.{ℤ, pos, nat_abs, ◌-ℤ◌, -ℤ-+ℤ_cancel}
use lib.ListN.{length, set, get_or}
use lib.Seq.{sets, get_or-set_same}
use Rattle.rules.specs.declared.Regular.{Regular}
use Rattle.rules.specs.declared.Complex.{Complex}
use Rattle.rules.specs.declared.Venue.{Venue}
use Rattle.rules.specs.Words.{no_regular, no_complex, regular_at, complex_at, with_regular, with_complex}
use Rattle.rules.specs.Trading.{free_regular, free_complex}
use Rattle.rules.specs.Prices.{best_regular, best_size}
use Rattle.rules.specs.Base.{keep}
use Rattle.rules.specs.Places.{holds_regular, holds_complex, close_gaps}
use Rattle.rules.proofs.Closing.{best-closed, size-closed}
use Rattle.places.specs.Layout.{size, in_use, regulars_used, complexes_used, regular_in, complex_in, venue_of, regular_put, complex_row, limit_number, ComplexBounded}
use Rattle.places.specs.Layout.{level_of, level_in, Fully, Figured, Orderly, Right, SameCounts, Filled, Dense, close_regulars, close_complexes}
use Rattle.places.specs.Layout.{regulars_held, complexes_held, RegularsClosed, ComplexesClosed, GapsClosed}
use Rattle.places.specs.Offsets.{complex_id_at, complex_limit_at, legging_parent_at, regulars_used_at, complexes_used_at, regulars_known_at, complexes_known_at}
use Rattle.places.specs.Offsets.{legging_mask_at, regular_reserve_at, regular_reserve_next_at, show_again_at}
use Rattle.places.proofs.Parts.{Outside, OutsideRows, Halves, halves, stored, wider, regulars-few, complexes-few, regular-at, complex-at, rows_agree}
use Rattle.places.proofs.Parts.{holds_kept, complex-kept, count_kept, count-kept2, regulars-kept, complexes-kept, leggings-kept, series-kept}
use Rattle.places.proofs.Parts.{editions-kept, generations-kept, last-kept, reached-kept, venue-is, regulars-counted, complexes-counted}
use Rattle.places.proofs.Beside.{RegularsMarked, ComplexesMarked, LeggingMarked, ShowsMarked, none-shows-again-as, levels-kept, regulars-marked}
use Rattle.places.proofs.Beside.{complexes-marked, legging-marked, figures-marked, shows-marked, beside-venue, right-on, right_kept}
use Rattle.places.proofs.Orderly.{orderly-packed}
use Rattle.places.proofs.Fully.{fully-packed}
use Rattle.place_writes.specs.Moving.{Rows, Moving, complex_put, OutsideComplexes}
use Rattle.place_writes.proofs.Stores.{row-outside, reserve-outside, put-length, regular-back, complex-back, counted, counted2}
use Rattle.place_writes.proofs.Gaps.{closing-start, closed-count, closed-part, free-place, rows-between, moving-start, moving-skip, moving-keep}

-- Rows ----------------------------------------------------------------------------------------

abbrev low_complex : ℕ → ℕ
low_complex i = 6 * i + complex_id_at

complex-wide : (i : ℕ) (c : Complex) → 6 * i + complex_id_at + length (complex_row c) ≡ 6 * (i + 1) + complex_id_at
unfolding complex_row
complex-wide i c = omega arith

complex-agree : (a b : List ℕ) (l h i : ℕ) → Outside l h a b → (6 * (i + 1) + complex_id_at ≤ l) ⊎ (h ≤ 6 * i + complex_id_at) → complex_in a i ≡ complex_in b i
complex-agree a b l h i o (inl w) = complex-kept o i (inl (omega arith))
complex-agree a b l h i o (inr w) = complex-kept o i (inr w)

pub regular-rows : Rows 128 regular_in regular_put OutsideRows
regular-rows = record {
  long = put-length;
  none = λ i j a. record { same = λ k h w. refl };
  wide = λ i j k l a b p q o. record { same = λ n h w. o.same n (one i j k l n p q h) (two i j k l n p q w) };
  join = λ i j a b c o p. record { same = λ k h w. p.same k h w ∙ o.same k h w };
  wrote = λ a i x. record { same = λ k h w. (reserve-outside a i x).same k (up-two i k w) ∙ (row-outside a i x).same k (up-four i k h) };
  agree = rows_agree;
}
  where
    one : (i j k l n : ℕ) → k ≤ i → j ≤ l → (n < 4 * k) ⊎ (4 * l ≤ n) → (n < 4 * i) ⊎ (4 * j ≤ n)
    one i j k l n p q (inl h) = inl (omega arith)
    one i j k l n p q (inr h) = inr (omega arith)

    two : (i j k l n : ℕ) → k ≤ i → j ≤ l → (n < 2 * k + regular_reserve_at) ⊎ (2 * l + regular_reserve_at ≤ n) → (n < 2 * i + regular_reserve_at) ⊎ (2 * j + regular_reserve_at ≤ n)
    two i j k l n p q (inl h) = inl (omega arith)
    two i j k l n p q (inr h) = inr (omega arith)

    up-four : (i k : ℕ) → (k < 4 * i) ⊎ (4 * (i + 1) ≤ k) → (k < 4 * i) ⊎ (4 * i + 4 ≤ k)
    up-four i k (inl h) = inl h
    up-four i k (inr h) = inr (omega arith)

    up-two : (i k : ℕ) → (k < 2 * i + regular_reserve_at) ⊎ (2 * (i + 1) + regular_reserve_at ≤ k) → (k < 2 * i + regular_reserve_at) ⊎ (2 * i + regular_reserve_next_at ≤ k)
    up-two i k (inl h) = inl h
    up-two i k (inr h) = inr (omega arith)

pub complex-rows : Rows 32 complex_in complex_put OutsideComplexes
complex-rows = rows-between 32 low_complex complex_in complex_row (λ i j h. omega arith) complex-wide complex-agree

-- what is read may be written
pub regular-again : (a c : List ℕ) (i k : ℕ) → length a ≡ size → i < 128 → regular_in (regular_put a i (regular_in c k)) i ≡ regular_in c k
regular-again a c i k e h =
    regular-back a i (regular_in c k) e h (unfold regular_in in omega arith) (unfold regular_in in omega arith)
    (record { display = unfold regular_in in omega arith; reserve = unfold regular_in in omega arith })

complex-keeps : (c : List ℕ) (k : ℕ) → ComplexBounded (complex_in c k)
unfolding complex_in limit_number
complex-keeps c k = record {
  class = omega arith;
  limit = ap (λ (z : ℤ). pos (nat_abs z) -ℤ pos 2147483648) (-ℤ-+ℤ_cancel (pos (get_or c (6 * k + complex_limit_at) 0)) (pos 2147483648));
  ratio1 = omega arith;
  ratio2 = omega arith;
}

pub complex-again : (a c : List ℕ) (i k : ℕ) → length a ≡ size → i < 32 → complex_in (sets a (6 * i + complex_id_at) (complex_row (complex_in c k))) i ≡ complex_in c k
complex-again a c i k e h =
    complex-back a i (complex_in c k) e h (unfold complex_in in omega arith) (unfold complex_in in omega arith) (unfold complex_in in omega arith) (unfold complex_in in omega arith) (complex-keeps c k)

-- The loops -----------------------------------------------------------------------------------

abbrev pub MovingRegulars : (a b : List ℕ) (n i j : ℕ) → Type 0
MovingRegulars = Moving holds_regular regular_in OutsideRows

abbrev pub MovingComplexes : (a b : List ℕ) (n i j : ℕ) → Type 0
MovingComplexes = Moving holds_complex complex_in OutsideComplexes

pub regulars-start : (a : List ℕ) (n r : ℕ) → length a ≡ size → r ≤ n → Filled holds_regular (regular_in a) r → MovingRegulars a a n r r
regulars-start = moving-start holds_regular 128 regular_in regular_put OutsideRows regular-rows regular-again

pub complexes-start : (a : List ℕ) (n r : ℕ) → length a ≡ size → r ≤ n → Filled holds_complex (complex_in a) r → MovingComplexes a a n r r
complexes-start = moving-start holds_complex 32 complex_in complex_put OutsideComplexes complex-rows complex-again

pub regulars-skip : (a b : List ℕ) (n i j : ℕ) → MovingRegulars a b n i j → n ≤ 128 → i < n → (o : Regular) → o ≡ regular_in b i → holds_regular o ≡ false → MovingRegulars a b n (i + 1) j
regulars-skip = moving-skip holds_regular 128 regular_in regular_put OutsideRows regular-rows regular-again

pub complexes-skip : (a b : List ℕ) (n i j : ℕ) → MovingComplexes a b n i j → n ≤ 32 → i < n → (o : Complex) → o ≡ complex_in b i → holds_complex o ≡ false → MovingComplexes a b n (i + 1) j
complexes-skip = moving-skip holds_complex 32 complex_in complex_put OutsideComplexes complex-rows complex-again

pub regulars-keep : (a b : List ℕ) (n i j : ℕ) → MovingRegulars a b n i j → n ≤ 128 → i < n → (o : Regular) → o ≡ regular_in b i →
    (b' : List ℕ) → holds_regular o ≡ true → b' ≡ regular_put b j o → MovingRegulars a b' n (i + 1) (j + 1)
regulars-keep = moving-keep holds_regular 128 regular_in regular_put OutsideRows regular-rows regular-again

pub complexes-keep : (a b : List ℕ) (n i j : ℕ) → MovingComplexes a b n i j → n ≤ 32 → i < n → (o : Complex) → o ≡ complex_in b i →
    (b' : List ℕ) → holds_complex o ≡ true → b' ≡ complex_put b j o → MovingComplexes a b' n (i + 1) (j + 1)
complexes-keep = moving-keep holds_complex 32 complex_in complex_put OutsideComplexes complex-rows complex-again

-- The venue -----------------------------------------------------------------------------------

others-regular : (a b : List ℕ) (l : List Regular) → Halves a b → with_regular (venue_of b) l ≡ with_regular (venue_of a) l
unfolding with_regular
others-regular a b l o =
    venue-is (with_regular (venue_of b) l) (with_regular (venue_of a) l) refl
    (complexes-kept o.second (inr (omega arith)) (inl (omega arith)) ∙ complexes-kept o.first (inl (omega arith)) (inr (omega arith)))
    (leggings-kept o.second (inr (omega arith)) ∙ leggings-kept o.first (inl (omega arith)))
    (series-kept o.second (inr (omega arith)) ∙ series-kept o.first (inl (omega arith)))
    (editions-kept o.second (inr (omega arith)) ∙ editions-kept o.first (inl (omega arith)))
    (generations-kept o.second (inl (omega arith)) ∙ generations-kept o.first (inl (omega arith)))
    (last-kept o.second (inl (omega arith)) ∙ last-kept o.first (inr (omega arith)))
    (reached-kept o.second (inr (omega arith)) ∙ reached-kept o.first (inr (omega arith)))

others-complex : (a b : List ℕ) (l : List Complex) → Outside complex_id_at legging_parent_at a b → with_complex (venue_of b) l ≡ with_complex (venue_of a) l
unfolding with_complex
others-complex a b l o =
    venue-is (with_complex (venue_of b) l) (with_complex (venue_of a) l) (regulars-kept o (omega arith) (inr (omega arith)) (inr (omega arith))) refl
    (leggings-kept o (inl (omega arith))) (series-kept o (inl (omega arith))) (editions-kept o (inl (omega arith)))
    (generations-kept o (inl (omega arith))) (last-kept o (inr (omega arith))) (reached-kept o (inr (omega arith)))

-- closing gaps leaves the levels of the orders as they are
level-is : (s d : ℕ) (v : Venue) → level_of s d v.regular ≡ record { price = best_regular v s d; size = best_size v s d }
unfolding level_of best_regular best_size
level-is s d v = refl

level-closed : (s d : ℕ) (v : Venue) → level_of s d (close_gaps v).regular ≡ level_of s d v.regular
level-closed s d v = level-is s d (close_gaps v) ∙ rw (best-closed v s d, size-closed v s d) (sym (level-is s d v))

level-packed : (s d : ℕ) (v : Venue) → level_of s d (close_regulars v).regular ≡ level_of s d v.regular
unfolding close_regulars close_gaps with_regular with_complex
level-packed s d v = level-closed s d v

-- gaps are closed; then all places in use become known to be held
regulars-known : (a b : List ℕ) (j : ℕ) → venue_of b ≡ close_regulars (venue_of a) → regulars_used b ≡ regulars_held a → complexes_used b ≡ complexes_used a →
    Filled holds_regular (regular_in b) (regulars_used b) → ((n : ℕ) → n < 16 → level_in b n ≡ level_in a n) → (ComplexesMarked a → ComplexesMarked b) →
    (LeggingMarked a → LeggingMarked b) → (Figured a → Figured b) → get_or b show_again_at 0 ≡ get_or a show_again_at 0 → RegularsClosed a (set b regulars_known_at j)
regulars-known a b j same used others full levels marks legs figs mark = record {
  venue = venue;
  counts = record {
    regulars = count_kept o (inl (omega arith)) ∙ used;
    complexes = count-kept2 o (inl (omega arith)) ∙ others;
    right = right-on a (set b regulars_known_at j) (λ n w. levels-kept o (inl (omega arith)) n w ∙ levels n w)
        (λ s d. ap (λ (v : Venue). level_of s d v.regular) venue ∙ level-packed s d (venue_of a))
        (λ h. subst (λ (v : Venue). Orderly v.regular) (sym venue) (unfold close_regulars with_regular in orderly-packed (venue_of a).regular h))
        (λ m. record {
          regulars = λ k w. filled k (omega arith);
          complexes = complexes-marked o (inr (omega arith)) (inl (omega arith)) (inr (omega arith)) (marks m.complexes);
          legging = legging-marked o (inr (omega arith)) (inr (omega arith)) (legs m.legging);
          figures = figures-marked o (inl (omega arith)) (figs m.figures);
          shows = shows m.shows;
        });
  };
  filled = filled;
}
  where
    o : Outside regulars_known_at complexes_known_at b (set b regulars_known_at j)
    o = stored b regulars_known_at j

    venue : venue_of (set b regulars_known_at j) ≡ close_regulars (venue_of a)
    venue = beside-venue o (omega arith) (inl (omega arith)) (inr (omega arith)) (omega arith) ∙ same

    shows : ShowsMarked a → ShowsMarked (set b regulars_known_at j)
    shows m z = subst (λ (v : Venue). Fully v.regular) (sym venue)
        (unfold close_regulars with_regular in fully-packed (venue_of a).regular (m (none-shows-again-as a (set b regulars_known_at j) (o.same show_again_at (inr (omega arith)) ∙ mark) z)))

    filled : Filled holds_regular (regular_in (set b regulars_known_at j)) (regulars_used (set b regulars_known_at j))
    filled k w =
        let z = regulars-few b in
        let e = count_kept o (inl (omega arith)) in
        sym (holds_kept o k (inl (omega arith))) ∙ full k (omega arith)

complexes-known : (a b : List ℕ) (j : ℕ) → venue_of b ≡ close_complexes (venue_of a) → complexes_used b ≡ complexes_held a → regulars_used b ≡ regulars_used a →
    Filled holds_complex (complex_in b) (complexes_used b) → ((n : ℕ) → n < 16 → level_in b n ≡ level_in a n) → (RegularsMarked a → RegularsMarked b) →
    (LeggingMarked a → LeggingMarked b) → (Figured a → Figured b) → (ShowsMarked a → ShowsMarked b) → ComplexesClosed a (set b complexes_known_at j)
complexes-known a b j same used others full levels marks legs figs shows = record {
  venue = venue;
  counts = record {
    complexes = count-kept2 o (inl (omega arith)) ∙ used;
    regulars = count_kept o (inl (omega arith)) ∙ others;
    right = right_kept a (set b complexes_known_at j) (λ n w. levels-kept o (inl (omega arith)) n w ∙ levels n w)
        (ap (λ (v : Venue). v.regular) venue ∙ (unfold close_complexes with_complex in refl))
        (λ m. record {
          regulars = regulars-marked o (omega arith) (inl (omega arith)) (inl (omega arith)) (marks m.regulars);
          complexes = λ k w. filled k (omega arith);
          legging = legging-marked o (inr (omega arith)) (inr (omega arith)) (legs m.legging);
          figures = figures-marked o (inl (omega arith)) (figs m.figures);
          shows = shows-marked o (omega arith) (omega arith) (inl (omega arith)) (shows m.shows);
        });
  };
  filled = filled;
}
  where
    o : Outside complexes_known_at legging_mask_at b (set b complexes_known_at j)
    o = stored b complexes_known_at j

    venue : venue_of (set b complexes_known_at j) ≡ close_complexes (venue_of a)
    venue = beside-venue o (omega arith) (inl (omega arith)) (inr (omega arith)) (omega arith) ∙ same

    filled : Filled holds_complex (complex_in (set b complexes_known_at j)) (complexes_used (set b complexes_known_at j))
    filled k w =
        let z = complexes-few b in
        let e = count-kept2 o (inl (omega arith)) in
        ap holds_complex (sym (complex-kept o k (inl (omega arith)))) ∙ full k (omega arith)

-- no gap
regulars-same : (a : List ℕ) (j : ℕ) → Filled holds_regular (regular_in a) (regulars_used a) → RegularsClosed a (set a regulars_known_at j)
unfolding close_regulars with_regular venue_of
regulars-same a j full =
    let n = regulars_used a in
    let p = closing-start holds_regular n (regular_in a) n (omega arith) full in
    regulars-known a a j
    (venue-is (venue_of a) (close_regulars (venue_of a)) (closed-part holds_regular no_regular refl n 128 (regular_in a) (regular_in a) n p (regulars-few a)) refl refl refl refl refl refl refl)
    (sym (closed-count holds_regular no_regular refl n 128 (regular_in a) (regular_in a) n p (regulars-few a))) refl full (λ k w. refl) (λ m. m) (λ m. m) (λ m. m) refl

complexes-same : (a : List ℕ) (j : ℕ) → Filled holds_complex (complex_in a) (complexes_used a) → ComplexesClosed a (set a complexes_known_at j)
unfolding close_complexes with_complex venue_of
complexes-same a j full =
    let n = complexes_used a in
    let p = closing-start holds_complex n (complex_in a) n (omega arith) full in
    complexes-known a a j
    (venue-is (venue_of a) (close_complexes (venue_of a)) refl (closed-part holds_complex no_complex refl n 32 (complex_in a) (complex_in a) n p (complexes-few a)) refl refl refl refl refl refl)
    (sym (closed-count holds_complex no_complex refl n 32 (complex_in a) (complex_in a) n p (complexes-few a))) refl full (λ k w. refl) (λ m. m) (λ m. m) (λ m. m) (λ m. m)

-- the book becomes l, of which j places are in use
pub record RegularsSet (a : List ℕ) (l : List Regular) (j : ℕ) (c : List ℕ) : Type 0 where
  pub venue : venue_of c ≡ with_regular (venue_of a) l
  pub regulars : regulars_used c ≡ j
  pub complexes : complexes_used c ≡ complexes_used a
  pub filled : Filled holds_regular (regular_in c) (regulars_used c)

pub regulars-set : (a b : List ℕ) (l : List Regular) (j : ℕ) → length b ≡ size → j ≤ 128 → Halves a b →
    in_use (regular_in b) no_regular j 128 ≡ l → Filled holds_regular (regular_in b) j → RegularsSet a l j (set b regulars_used_at j)
regulars-set a b l j long few near part full = record {
  venue = regulars-counted (stored b regulars_used_at j)
      ∙ ap (λ (k : ℕ). with_regular (venue_of b) (in_use (regular_in b) no_regular k 128)) used
      ∙ ap (λ (x : List Regular). with_regular (venue_of b) x) part
      ∙ others-regular a b l near;
  regulars = used;
  complexes = count-kept2 (stored b regulars_used_at j) (inr (omega arith)) ∙ count-kept2 near.second (inl (omega arith)) ∙ count-kept2 near.first (inr (omega arith));
  filled = λ k w. sym (holds_kept (stored b regulars_used_at j) k (inl (let z = regulars-few (set b regulars_used_at j) in omega arith))) ∙ full k (let e = used in omega arith);
}
  where
    used : regulars_used (set b regulars_used_at j) ≡ j
    used = counted (set b regulars_used_at j) j (get_or-set_same b regulars_used_at j 0 (omega arith)) few

regulars-closed : (a b : List ℕ) (j : ℕ) → length a ≡ size → MovingRegulars a b (regulars_used a) (regulars_used a) j → RegularsClosed a (set (set b regulars_used_at j) regulars_known_at j)
unfolding close_regulars venue_of
regulars-closed a b j long m =
    let few = regulars-few a in
    let fewer = m.places.fewer in
    let near = halves a b long m.long 0 (regulars_used a) few m.outside in
    let p = near.first in
    let q = near.second in
    let o = stored b regulars_used_at j in
    let s = regulars-set a b _ j m.long (omega arith) near
    (closed-part holds_regular no_regular refl (regulars_used a) 128 (regular_in a) (regular_in b) j m.places few) m.places.full in
    regulars-known a (set b regulars_used_at j) j s.venue
    (s.regulars ∙ sym (closed-count holds_regular no_regular refl (regulars_used a) 128 (regular_in a) (regular_in b) j m.places few)) s.complexes s.filled
    (λ n w. levels-kept o (inr (omega arith)) n w ∙ levels-kept q (inl (omega arith)) n w ∙ levels-kept p (inr (omega arith)) n w)
    (λ x. complexes-marked o (inr (omega arith)) (inr (omega arith)) (inr (omega arith))
    (complexes-marked q (inr (omega arith)) (inl (omega arith)) (inl (omega arith)) (complexes-marked p (inl (omega arith)) (inr (omega arith)) (inr (omega arith)) x)))
    (λ x. legging-marked o (inr (omega arith)) (inr (omega arith)) (legging-marked q (inr (omega arith)) (inl (omega arith)) (legging-marked p (inl (omega arith)) (inr (omega arith)) x)))
    (λ x. figures-marked o (inl (omega arith)) (figures-marked q (inr (omega arith)) (figures-marked p (inl (omega arith)) x)))
    (o.same show_again_at (inr (omega arith)) ∙ q.same show_again_at (inr (omega arith)) ∙ p.same show_again_at (inr (omega arith)))

-- the book becomes l, of which j places are in use
pub record ComplexesSet (a : List ℕ) (l : List Complex) (j : ℕ) (c : List ℕ) : Type 0 where
  pub venue : venue_of c ≡ with_complex (venue_of a) l
  pub complexes : complexes_used c ≡ j
  pub regulars : regulars_used c ≡ regulars_used a
  pub filled : Filled holds_complex (complex_in c) (complexes_used c)

pub complexes-set : (a b : List ℕ) (l : List Complex) (j : ℕ) → length b ≡ size → j ≤ 32 → Outside complex_id_at legging_parent_at a b →
    in_use (complex_in b) no_complex j 32 ≡ l → Filled holds_complex (complex_in b) j → ComplexesSet a l j (set b complexes_used_at j)
complexes-set a b l j long few near part full = record {
  venue = complexes-counted (stored b complexes_used_at j)
      ∙ ap (λ (k : ℕ). with_complex (venue_of b) (in_use (complex_in b) no_complex k 32)) used
      ∙ ap (λ (x : List Complex). with_complex (venue_of b) x) part
      ∙ others-complex a b l near;
  complexes = used;
  regulars = count_kept (stored b complexes_used_at j) (inl (omega arith)) ∙ count_kept near (inr (omega arith));
  filled = λ k w. ap holds_complex (sym (complex-kept (stored b complexes_used_at j) k (inl (let z = complexes-few (set b complexes_used_at j) in omega arith)))) ∙ full k (let e = used in omega arith);
}
  where
    used : complexes_used (set b complexes_used_at j) ≡ j
    used = counted2 (set b complexes_used_at j) j (get_or-set_same b complexes_used_at j 0 (omega arith)) few

complexes-closed : (a b : List ℕ) (j : ℕ) → MovingComplexes a b (complexes_used a) (complexes_used a) j → ComplexesClosed a (set (set b complexes_used_at j) complexes_known_at j)
unfolding close_complexes venue_of
complexes-closed a b j m =
    let few = complexes-few a in
    let fewer = m.places.fewer in
    let near : Outside complex_id_at legging_parent_at a b = wider (omega arith) (omega arith) m.outside in
    let o = stored b complexes_used_at j in
    let s = complexes-set a b _ j m.long (omega arith) near
    (closed-part holds_complex no_complex refl (complexes_used a) 32 (complex_in a) (complex_in b) j m.places few) m.places.full in
    complexes-known a (set b complexes_used_at j) j s.venue
    (s.complexes ∙ sym (closed-count holds_complex no_complex refl (complexes_used a) 32 (complex_in a) (complex_in b) j m.places few)) s.regulars s.filled
    (λ n w. levels-kept o (inr (omega arith)) n w ∙ levels-kept near (inr (omega arith)) n w)
    (λ x. regulars-marked o (omega arith) (inl (omega arith)) (inr (omega arith)) (regulars-marked near (omega arith) (inr (omega arith)) (inr (omega arith)) x))
    (λ x. legging-marked o (inr (omega arith)) (inr (omega arith)) (legging-marked near (inl (omega arith)) (inr (omega arith)) x))
    (λ x. figures-marked o (inl (omega arith)) (figures-marked near (inl (omega arith)) x))
    (λ x. shows-marked o (omega arith) (omega arith) (inl (omega arith)) (shows-marked near (omega arith) (omega arith) (inr (omega arith)) x))

pub regulars-whole : (a : List ℕ) (n r : ℕ) → n ≡ regulars_used a → r ≡ n → Filled holds_regular (regular_in a) r → RegularsClosed a (set a regulars_known_at n)
regulars-whole a n r e h full = regulars-same a n (λ k w. full k (omega arith))

pub regulars-end : (a b : List ℕ) (n i j : ℕ) → length a ≡ size → n ≡ regulars_used a → n ≤ i → MovingRegulars a b n i j → RegularsClosed a (set (set b regulars_used_at j) regulars_known_at j)
regulars-end a b n i j long e h m =
    let q = m.places.read in
    let z : i ≡ n = omega arith in
    regulars-closed a b j long (rw (z, e) at m)

pub complexes-whole : (a : List ℕ) (n r : ℕ) → n ≡ complexes_used a → r ≡ n → Filled holds_complex (complex_in a) r → ComplexesClosed a (set a complexes_known_at n)
complexes-whole a n r e h full = complexes-same a n (λ k w. full k (omega arith))

pub complexes-end : (a b : List ℕ) (n i j : ℕ) → n ≡ complexes_used a → n ≤ i → MovingComplexes a b n i j → ComplexesClosed a (set (set b complexes_used_at j) complexes_known_at j)
complexes-end a b n i j e h m =
    let q = m.places.read in
    let z : i ≡ n = omega arith in
    complexes-closed a b j (rw (z, e) at m)

-- Both books ----------------------------------------------------------------------------------

same_at : (a b : List ℕ) → (venue_of b).regular ≡ (venue_of a).regular → (k : ℕ) → regular_at (venue_of b) k ≡ regular_at (venue_of a) k
unfolding regular_at
same_at a b p k = ap (λ (l : List Regular). get_or l k no_regular) p

-- held places stay held where the book is the same
pub regulars-filled : (a b : List ℕ) → (venue_of b).regular ≡ (venue_of a).regular → regulars_used b ≡ regulars_used a →
    Filled holds_regular (regular_in a) (regulars_used a) → Filled holds_regular (regular_in b) (regulars_used b)
regulars-filled a b p e full = λ k w. ap holds_regular (sym (regular-at b k w) ∙ same_at a b p k ∙ regular-at a k (omega arith)) ∙ full k (omega arith)

complex-same : (a b : List ℕ) → (venue_of b).complex ≡ (venue_of a).complex → (k : ℕ) → complex_at (venue_of b) k ≡ complex_at (venue_of a) k
unfolding complex_at
complex-same a b p k = ap (λ (l : List Complex). get_or l k no_complex) p

pub complexes-filled : (a b : List ℕ) → (venue_of b).complex ≡ (venue_of a).complex → complexes_used b ≡ complexes_used a →
    Filled holds_complex (complex_in a) (complexes_used a) → Filled holds_complex (complex_in b) (complexes_used b)
complexes-filled a b p e full = λ k w. ap holds_complex (sym (complex-at b k w) ∙ complex-same a b p k ∙ complex-at a k (omega arith)) ∙ full k (omega arith)

-- what changes neither book leaves it dense
pub dense_kept : (a b : List ℕ) → (venue_of b).regular ≡ (venue_of a).regular → (venue_of b).complex ≡ (venue_of a).complex → SameCounts a b → Dense a → Dense b
dense_kept a b p q n d = record {
  regulars = regulars-filled a b p n.regulars d.regulars;
  complexes = complexes-filled a b q n.complexes d.complexes;
  right = n.right d.right;
}

pub both-closed : (a b c : List ℕ) → Right a → RegularsClosed a b → ComplexesClosed b c → GapsClosed a c
unfolding close_gaps close_regulars close_complexes with_regular with_complex
both-closed a b c k r s = record {
  venue = s.venue ∙ ap close_complexes r.venue;
  counts = record {
    regulars = s.counts.regulars ∙ r.counts.regulars;
    complexes = s.counts.complexes ∙ ap (λ (v : Venue). length (keep holds_complex v.complex)) r.venue;
    right = λ h. s.counts.right (r.counts.right h);
  };
  dense = record {
    regulars = regulars-filled b c (ap (λ (v : Venue). v.regular) s.venue) s.counts.regulars r.filled;
    complexes = s.filled;
    right = s.counts.right (r.counts.right k);
  };
}

-- a dense book's first free place
pub dense-regular : (b : List ℕ) → Dense b → free_regular (venue_of b) ≡ regulars_used b
unfolding free_regular venue_of
dense-regular b d = free-place holds_regular no_regular refl (regular_in b) (regulars_used b) 128 d.regulars

pub dense-complex : (b : List ℕ) → Dense b → free_complex (venue_of b) ≡ complexes_used b
unfolding free_complex venue_of
dense-complex b d = free-place holds_complex no_complex refl (complex_in b) (complexes_used b) 32 d.complexes
