-- Each store of the code, as what it does to the venue.
use mathlib.Core.Path.{◌≡◌, refl, sym, ap, ap₂, subst, ◌∙◌}
use mathlib.Core.List.{List, [], ◌∷◌}
use Prim.Native.Nat.{ℕ, zero, suc, ◌+◌, ◌-◌, ◌*◌, ◌≤◌, ◌<◌, ◌/◌, ◌%◌, ◌^◌, min}
use native.Mathlib.Omega.{arith}
use native.Mathlib.Decide.{dec_lt}
use native.Mathlib.Nat.{add-zero}
use mathlib.Core.Bool.{true, not}
use mathlib.Core.Logic.{◌⊎◌, inl, inr}
use borrow.Author.Tests.{ne_eqb}
use lib.ListN.{length, get_or, set, length-set}
use lib.Seq.{sets, get_or-set_same, get_or-set_other}
use Rattle.rules.specs.declared.Regular.{Regular}
use Rattle.rules.specs.declared.Complex.{Complex}
use Rattle.rules.specs.declared.Legging.{Legging}
use Rattle.rules.specs.declared.Listed.{Listed}
use Rattle.rules.specs.declared.Edition.{Edition}
use Rattle.rules.specs.declared.Venue.{Venue}
use Rattle.rules.specs.Base.{held}
use Rattle.rules.specs.Words.{place_of, no_regular, no_complex, regular_at, with_regular, with_complex, with_legging, with_series, with_last}
use Rattle.rules.specs.Trading.{less_regular, less_complex, fill_regular, fill_complex, put_regular, put_complex}
use Rattle.rules.specs.Generation.{placed}
use Rattle.rules.specs.Places.{holds_regular, holds_complex}
use Rattle.rules.specs.Sound.{shows_fully}
use Rattle.rules.specs.Step.{mask}
use Rattle.rules.proofs.Showing.{less-fully, filled-fully}
use Rattle.places.specs.declared.Level.{Level}
use Rattle.places.specs.Layout.{size, in_use, regulars_used, complexes_used, regular_in, complex_in, legging_in, listed_in, edition_in, venue_of, regular_row}
use Rattle.places.specs.Layout.{reserve_row, regular_put, Bounded, edition_row, legs_key, ratios_number, limit_number, complex_row, ComplexBounded, bit_of, level_in}
use Rattle.places.specs.Layout.{Fully, Marked, Beside, SameBeside, LevelPut, Counts, SameCounts}
use Rattle.places.specs.Offsets.{complex_id_at, complex_legs_at, complex_ratios_at, complex_class_at, complex_limit_at, complex_quantity_at, complex_next_at}
use Rattle.places.specs.Offsets.{legging_parent_at, legging_price_at, legging_quantity_at, legging_next_at, series_status_at, series_bid_at, series_offer_at}
use Rattle.places.specs.Offsets.{regulars_used_at, complexes_used_at, last_id_at, level_price_at, level_low_at, level_high_at, level_next_at, regulars_known_at}
use Rattle.places.specs.Offsets.{complexes_known_at, legging_mask_at, edition_number_at, edition_message_at, edition_figure_at, edition_value_at}
use Rattle.places.specs.Offsets.{regular_reserve_at, regular_display_at, regular_reserve_next_at, show_again_at, generation_messages_at}
use Rattle.places.proofs.Tables.{used-more}
use Rattle.places.proofs.Parts.{Outside, stored, wider, joined, unmoved, regulars-few, regulars-many, complexes-few, regular-kept, other-kept}
use Rattle.places.proofs.Parts.{complex-kept, regulars-kept, regular-at, complex-at, regular-set, complex-set, legging-set, listed-set, last_set}
use Rattle.places.proofs.Parts.{regular-unused, complex-unused, regulars-counted, complexes-counted, count_kept, count-kept2}
use Rattle.places.proofs.Masks.{mask-put}
use Rattle.places.proofs.Fully.{fully-set, fully-bounded}
use Rattle.places.proofs.Beside.{ShowsMarked, none-shows-again-as, shows-not, level-kept, levels-kept, regulars-marked, complexes-marked, legging-marked}
use Rattle.places.proofs.Beside.{figures-marked, shows-marked, regulars-lowered, complexes-lowered, regular-holds, complex-holds, beside-venue}
use Rattle.places.proofs.Beside.{right_kept}

-- A fill --------------------------------------------------------------------------------------

-- what is left cuts the same
cut : (x q k : ℕ) → min x (q - k) ≡ min (min x q) (q - k)
cut x q k = omega arith

less-in : (a : List ℕ) (i k : ℕ) → length a ≡ size → i < 128 → regular_in (set a (4 * i + 3) (get_or a (4 * i + 3) 0 - k)) i ≡ less_regular k (regular_in a i)
unfolding regular_in less_regular
less-in a i k n h =
    let q = get_or a (4 * i + 3) 0 in
    rw (
      get_or-set_same a (4 * i + 3) (q - k) 0 (omega arith),
      get_or-set_other a (4 * i + 3) (4 * i) (q - k) 0 (λ e. omega arith),
      get_or-set_other a (4 * i + 3) (4 * i + 1) (q - k) 0 (λ e. omega arith),
      get_or-set_other a (4 * i + 3) (4 * i + 2) (q - k) 0 (λ e. omega arith),
      get_or-set_other a (4 * i + 3) (2 * i + regular_reserve_at) (q - k) 0 (λ e. omega arith),
      get_or-set_other a (4 * i + 3) (2 * i + regular_display_at) (q - k) 0 (λ e. omega arith),
      cut (get_or a (2 * i + regular_reserve_at) 0) q k,
      cut (get_or a (2 * i + regular_display_at) 0) q k,
    ) refl

filled-venue : (a : List ℕ) (i k : ℕ) → length a ≡ size → i < regulars_used a →
    venue_of (set a (4 * i + 3) (get_or a (4 * i + 3) 0 - k)) ≡ fill_regular i k (venue_of a)
unfolding fill_regular
filled-venue a i k n h =
    let z = regulars-few a in
    regular-set (wider (omega arith) (omega arith) (stored a (4 * i + 3) (get_or a (4 * i + 3) 0 - k))) unmoved h
    ∙ ap (λ (o : Regular). with_regular (venue_of a) (set (venue_of a).regular i o)) (less-in a i k n (omega arith) ∙ ap (less_regular k) (sym (regular-at a i h)))

-- an order that is not filled whole stays
left-holds : (q k : ℕ) → k < q → held (q - k) ≡ true
left-holds q k h = ap not (ne_eqb (q - k) 0 (λ e. omega arith))

less-holds : (a : List ℕ) (i k : ℕ) → length a ≡ size → i < 128 → k < get_or a (4 * i + 3) 0 → holds_regular (regular_in (set a (4 * i + 3) (get_or a (4 * i + 3) 0 - k)) i) ≡ true
less-holds a i k n h lt = ap holds_regular (less-in a i k n h) ∙ (unfold regular_in less_regular in left-holds (get_or a (4 * i + 3) 0) k lt)

-- a number that is lowered
abbrev lowered : List ℕ → (at i : ℕ) → List ℕ
lowered l at i = set l at (min (get_or l at 0) i)

module _ (a : List ℕ) (i k r : ℕ) (n : length a ≡ size) (h : i < regulars_used a) (e : r ≡ get_or a (4 * i + 3) 0 - k) where
  few : i < 128
  few = let z = regulars-few a in omega arith

  abbrev left : List ℕ
  left = set a (4 * i + 3) (get_or a (4 * i + 3) 0 - k)

  o : Outside (4 * i) (4 * i + 4) a left
  o = wider (omega arith) (omega arith) (stored a (4 * i + 3) (get_or a (4 * i + 3) 0 - k))

  left-venue : venue_of left ≡ fill_regular i k (venue_of a)
  left-venue = filled-venue a i k n h

  left-long : length left ≡ size
  left-long = length-set a (4 * i + 3) (get_or a (4 * i + 3) 0 - k) ∙ n

  -- all show what they should, if this order then does
  left-fully : shows_fully (less_regular k (regular_in a i)) ≡ true → Fully (venue_of a).regular → Fully (venue_of left).regular
  unfolding fill_regular with_regular
  left-fully p f = subst (λ (v : Venue). Fully v.regular) (sym left-venue)
      (fully-set (venue_of a).regular i (less_regular k (regular_at (venue_of a) i)) (omega (arith, regulars-many a, few)) (ap (λ (x : Regular). shows_fully (less_regular k x)) (regular-at a i h) ∙ p) f)

  was-fully : Fully (venue_of a).regular → shows_fully (regular_in a i) ≡ true
  unfolding regular_at
  was-fully f = sym (ap shows_fully (regular-at a i h)) ∙ f i

  left-shows : (Fully (venue_of a).regular → shows_fully (less_regular k (regular_in a i)) ≡ true) → ShowsMarked a → ShowsMarked left
  left-shows p m z = let f = m (none-shows-again-as a left (o.same show_again_at (inr (omega (arith, few)))) z) in left-fully (p f) f

  left-rest : ShowsMarked left → k < get_or a (4 * i + 3) 0 → Marked a → Marked left
  left-rest s lt m = record {
    regulars = regular-holds a left i h o (less-holds a i k n few lt) m.regulars;
    complexes = complexes-marked o (inl (omega (arith, few))) (inr (omega (arith, few))) (inr (omega (arith, few))) m.complexes;
    legging = legging-marked o (inl (omega (arith, few))) (inr (omega (arith, few))) m.legging;
    figures = figures-marked o (inl (omega (arith, few))) m.figures;
    shows = s;
  }

  no-reserve : get_or (set a (4 * i + 3) r) (2 * i + regular_reserve_at) 0 ≡ 0 → (regular_in a i).reserve ≡ 0
  unfolding regular_in
  no-reserve none = let z : get_or a (2 * i + regular_reserve_at) 0 ≡ 0 = sym (get_or-set_other a (4 * i + 3) (2 * i + regular_reserve_at) r 0 (λ x. omega (arith, few))) ∙ none in omega arith

  -- without reserve it shows what it should
  pub regular-stays : k < get_or a (4 * i + 3) 0 → get_or (set a (4 * i + 3) r) (2 * i + regular_reserve_at) 0 ≡ 0 →
      (venue_of (set a (4 * i + 3) r) ≡ fill_regular i k (venue_of a)) × SameBeside a (set a (4 * i + 3) r)
  regular-stays lt none = rw e (
    left-venue,
    record {
      regulars = count_kept o (inr (omega (arith, few)));
      complexes = count-kept2 o (inr (omega (arith, few)));
      levels = levels-kept o (inr (omega (arith, few)));
      marked = λ m. left-rest (left-shows (λ f. less-fully k (regular_in a i) (no-reserve none) (was-fully f)) m.shows) lt m;
    },
  )

  -- with reserve it is marked
  pub regular-hides : k < get_or a (4 * i + 3) 0 → (venue_of (set (set a (4 * i + 3) r) show_again_at 1) ≡ fill_regular i k (venue_of a)) × SameBeside a (set (set a (4 * i + 3) r) show_again_at 1)
  regular-hides lt = rw e (
    beside-venue p (omega arith) (inr (omega arith)) (inl (omega arith)) (omega arith) ∙ left-venue,
    record {
      regulars = count_kept p (inl (omega arith)) ∙ count_kept o (inr (omega (arith, few)));
      complexes = count-kept2 p (inl (omega arith)) ∙ count-kept2 o (inr (omega (arith, few)));
      levels = λ m w. levels-kept p (inl (omega arith)) m w ∙ levels-kept o (inr (omega (arith, few))) m w;
      marked = λ m. record {
        regulars = regulars-marked p (omega arith) (inl (omega arith)) (inl (omega arith)) (regular-holds a left i h o (less-holds a i k n few lt) m.regulars);
        complexes = complexes-marked p (inr (omega arith)) (inl (omega arith)) (inl (omega arith))
            (complexes-marked o (inl (omega (arith, few))) (inr (omega (arith, few))) (inr (omega (arith, few))) m.complexes);
        legging = legging-marked p (inr (omega arith)) (inl (omega arith)) (legging-marked o (inl (omega (arith, few))) (inr (omega (arith, few))) m.legging);
        figures = figures-marked p (inr (omega arith)) (figures-marked o (inl (omega (arith, few))) m.figures);
        shows = shows-not (set left show_again_at 1) (get_or-set_same left show_again_at 1 0 (omega (arith, left-long)));
      };
    },
  )
    where
      p : Outside show_again_at generation_messages_at left (set left show_again_at 1)
      p = stored left show_again_at 1

  pub regular-leaves : get_or a (4 * i + 3) 0 ≤ k → (c : List ℕ) → c ≡ lowered (set a (4 * i + 3) r) regulars_known_at i → (venue_of c ≡ fill_regular i k (venue_of a)) × SameBeside a c
  regular-leaves le c f = rw (f, e) (
    beside-venue p (omega arith) (inl (omega arith)) (inr (omega arith)) (omega arith) ∙ left-venue,
    record {
      regulars = count_kept p (inl (omega arith)) ∙ count_kept o (inr (omega (arith, few)));
      complexes = count-kept2 p (inl (omega arith)) ∙ count-kept2 o (inr (omega (arith, few)));
      levels = λ m w. levels-kept p (inl (omega arith)) m w ∙ levels-kept o (inr (omega (arith, few))) m w;
      marked = λ m. record {
        regulars = regulars-lowered a (lowered left regulars_known_at i) i (omega arith)
            (get_or-set_same left regulars_known_at (min (get_or left regulars_known_at 0) i) 0 (omega (arith, left-long)) ∙ ap (λ (x : ℕ). min x i) (o.same regulars_known_at (inr (omega (arith, few)))))
            (λ j w. regular-kept o j (inl (omega arith)) (inr (omega (arith, few))) ∙ regular-kept p j (inl (omega (arith, few))) (inr (omega arith))) m.regulars;
        complexes = complexes-marked p (inr (omega arith)) (inl (omega arith)) (inr (omega arith))
            (complexes-marked o (inl (omega (arith, few))) (inr (omega (arith, few))) (inr (omega (arith, few))) m.complexes);
        legging = legging-marked p (inr (omega arith)) (inr (omega arith)) (legging-marked o (inl (omega (arith, few))) (inr (omega (arith, few))) m.legging);
        figures = figures-marked p (inl (omega arith)) (figures-marked o (inl (omega (arith, few))) m.figures);
        shows = shows-marked p (omega arith) (omega arith) (inl (omega arith)) (left-shows (λ _. filled-fully k (regular_in a i) (unfold regular_in in le)) m.shows);
      };
    },
  )
    where
      p : Outside regulars_known_at complexes_known_at left (lowered left regulars_known_at i)
      p = stored left regulars_known_at (min (get_or left regulars_known_at 0) i)

less-in_c : (a : List ℕ) (i k : ℕ) → 6 * i + complex_quantity_at < length a → complex_in (set a (6 * i + complex_quantity_at) (get_or a (6 * i + complex_quantity_at) 0 - k)) i ≡ less_complex k (complex_in a i)
unfolding complex_in less_complex
less-in_c a i k h =
    rw (
      get_or-set_same a (6 * i + complex_quantity_at) (get_or a (6 * i + complex_quantity_at) 0 - k) 0 h,
      get_or-set_other a (6 * i + complex_quantity_at) (6 * i + complex_id_at) (get_or a (6 * i + complex_quantity_at) 0 - k) 0 (λ e. omega arith),
      get_or-set_other a (6 * i + complex_quantity_at) (6 * i + complex_legs_at) (get_or a (6 * i + complex_quantity_at) 0 - k) 0 (λ e. omega arith),
      get_or-set_other a (6 * i + complex_quantity_at) (6 * i + complex_ratios_at) (get_or a (6 * i + complex_quantity_at) 0 - k) 0 (λ e. omega arith),
      get_or-set_other a (6 * i + complex_quantity_at) (6 * i + complex_class_at) (get_or a (6 * i + complex_quantity_at) 0 - k) 0 (λ e. omega arith),
      get_or-set_other a (6 * i + complex_quantity_at) (6 * i + complex_limit_at) (get_or a (6 * i + complex_quantity_at) 0 - k) 0 (λ e. omega arith),
    ) refl

filled-venue2 : (a : List ℕ) (i k : ℕ) → length a ≡ size → i < complexes_used a →
    venue_of (set a (6 * i + complex_quantity_at) (get_or a (6 * i + complex_quantity_at) 0 - k)) ≡ fill_complex i k (venue_of a)
unfolding fill_complex
filled-venue2 a i k n h =
    let z = complexes-few a in
    complex-set (wider (omega arith) (omega arith) (stored a (6 * i + complex_quantity_at) (get_or a (6 * i + complex_quantity_at) 0 - k))) h
    ∙ ap (λ (o : Complex). with_complex (venue_of a) (set (venue_of a).complex i o)) (less-in_c a i k (omega arith) ∙ ap (less_complex k) (sym (complex-at a i h)))

less-holds2 : (a : List ℕ) (i k : ℕ) → 6 * i + complex_quantity_at < length a → k < get_or a (6 * i + complex_quantity_at) 0 → holds_complex
    (complex_in (set a (6 * i + complex_quantity_at) (get_or a (6 * i + complex_quantity_at) 0 - k)) i) ≡ true
less-holds2 a i k h lt = ap holds_complex (less-in_c a i k h) ∙ (unfold complex_in less_complex in left-holds (get_or a (6 * i + complex_quantity_at) 0) k lt)

module _ (a : List ℕ) (i k r : ℕ) (n : length a ≡ size) (h : i < complexes_used a) (e : r ≡ get_or a (6 * i + complex_quantity_at) 0 - k) where
  pub complex-stays : k < get_or a (6 * i + complex_quantity_at) 0 → (venue_of (set a (6 * i + complex_quantity_at) r) ≡ fill_complex i k (venue_of a)) × SameCounts a (set a (6 * i + complex_quantity_at) r)
  complex-stays lt =
      let z = complexes-few a in
      let q = get_or a (6 * i + complex_quantity_at) 0 - k in
      let o = stored a (6 * i + complex_quantity_at) q in
      rw e (
        filled-venue2 a i k n h,
        record {
          regulars = count_kept o (inr (omega arith));
          complexes = count-kept2 o (inr (omega arith));
          right = right_kept a (set a (6 * i + complex_quantity_at) q) (levels-kept o (inr (omega arith)))
              (regulars-kept o (omega arith) (inr (omega arith)) (inr (omega arith)))
              (λ m. record {
                regulars = regulars-marked o (omega arith) (inr (omega arith)) (inr (omega arith)) m.regulars;
                complexes = complex-holds a (set a (6 * i + complex_quantity_at) q) i h (wider (omega arith) (omega arith) o) (less-holds2 a i k (omega arith) lt) m.complexes;
                legging = legging-marked o (inl (omega arith)) (inr (omega arith)) m.legging;
                figures = figures-marked o (inl (omega arith)) m.figures;
                shows = shows-marked o (omega arith) (omega arith) (inr (omega arith)) m.shows;
              });
        },
      )

  pub complex-leaves : (c : List ℕ) → c ≡ lowered (set a (6 * i + complex_quantity_at) r) complexes_known_at i → (venue_of c ≡ fill_complex i k (venue_of a)) × SameCounts a c
  complex-leaves c f =
      let z = complexes-few a in
      let b = set a (6 * i + complex_quantity_at) (get_or a (6 * i + complex_quantity_at) 0 - k) in
      let o = stored a (6 * i + complex_quantity_at) (get_or a (6 * i + complex_quantity_at) 0 - k) in
      let p = stored b complexes_known_at (min (get_or b complexes_known_at 0) i) in
      rw (f, e) (
        beside-venue p (omega arith) (inl (omega arith)) (inr (omega arith)) (omega arith) ∙ filled-venue2 a i k n h,
        record {
          regulars = count_kept p (inl (omega arith)) ∙ count_kept o (inr (omega arith));
          complexes = count-kept2 p (inl (omega arith)) ∙ count-kept2 o (inr (omega arith));
          right = right_kept a (lowered b complexes_known_at i) (λ m w. levels-kept p (inl (omega arith)) m w ∙ levels-kept o (inr (omega arith)) m w)
              (regulars-kept p (omega arith) (inr (omega arith)) (inl (omega arith)) ∙ regulars-kept o (omega arith) (inr (omega arith)) (inr (omega arith)))
              (λ m. record {
                regulars = regulars-marked p (omega arith) (inl (omega arith)) (inl (omega arith)) (regulars-marked o (omega arith) (inr (omega arith)) (inr (omega arith)) m.regulars);
                complexes = complexes-lowered a (lowered b complexes_known_at i) i (omega arith)
                    (get_or-set_same b complexes_known_at (min (get_or b complexes_known_at 0) i) 0 (omega (arith, length-set a (6 * i + complex_quantity_at) (get_or a (6 * i + complex_quantity_at) 0 - k)))
                    ∙ ap (λ (x : ℕ). min x i) (o.same complexes_known_at (inr (omega arith))))
                    (λ j w. complex-kept o j (inl (omega arith)) ∙ complex-kept p j (inl (omega arith))) m.complexes;
                legging = legging-marked p (inr (omega arith)) (inr (omega arith)) (legging-marked o (inl (omega arith)) (inr (omega arith)) m.legging);
                figures = figures-marked p (inl (omega arith)) (figures-marked o (inl (omega arith)) m.figures);
                shows = shows-marked p (omega arith) (omega arith) (inl (omega arith)) (shows-marked o (omega arith) (omega arith) (inr (omega arith)) m.shows);
              });
        },
      )

-- Several numbers in a row --------------------------------------------------------------------

pub sets-outside : (l : List ℕ) (i : ℕ) (xs : List ℕ) → Outside i (i + length xs) l (sets l i xs)
sets-outside l i [] = record { same = λ k h. refl }
sets-outside l i (x ∷ xs) =
    joined (wider (omega arith) (omega arith) (stored l i x)) (wider (omega arith) (omega arith) (sets-outside (set l i x) (suc i) xs))

pub sets-length : (l : List ℕ) (i : ℕ) (xs : List ℕ) → length (sets l i xs) ≡ length l
sets-length l i [] = refl
sets-length l i (x ∷ xs) = sets-length (set l i x) (suc i) xs ∙ length-set l i x

pub sets-at : (l : List ℕ) (i : ℕ) (xs : List ℕ) (j : ℕ) → j < length xs → i + length xs ≤ length l → get_or (sets l i xs) (i + j) 0 ≡ get_or xs j 0
sets-at l i [] j h m = absurd (omega arith)
sets-at l i (x ∷ xs) zero h m =
    (sets-outside (set l i x) (suc i) xs).same (i + 0) (inl (omega arith)) ∙ ap (λ (k : ℕ). get_or (set l i x) k 0) (add-zero i) ∙ get_or-set_same l i x 0 (omega arith)
sets-at l i (x ∷ xs) (suc j) h m =
    let e : i + suc j ≡ suc i + j = omega arith in
    ap (λ (k : ℕ). get_or (sets (set l i x) (suc i) xs) k 0) e ∙ sets-at (set l i x) (suc i) xs j (omega arith) (omega (arith, length-set l i x))

-- the j-th of a row
row-at : (l : List ℕ) (i k : ℕ) (xs : List ℕ) (j : ℕ) → k ≡ i + j → j < length xs → i + length xs ≤ length l → get_or (sets l i xs) k 0 ≡ get_or xs j 0
row-at l i k xs j e h m = ap (λ (n : ℕ). get_or (sets l i xs) n 0) e ∙ sets-at l i xs j h m

-- what is written at a regular place reads back as the order
module _ (a : List ℕ) (i : ℕ) (o : Regular) where
  abbrev wrote : List ℕ
  wrote = sets a (4 * i) (regular_row o)

  pub row-outside : Outside (4 * i) (4 * i + 4) a wrote
  unfolding regular_row
  row-outside = sets-outside a (4 * i) (o.id ∷ place_of o.series o.side ∷ o.price ∷ o.quantity ∷ [])

  pub reserve-outside : Outside (2 * i + regular_reserve_at) (2 * i + regular_reserve_next_at) wrote (regular_put a i o)
  unfolding reserve_row
  reserve-outside = wider (omega arith) (omega arith) (sets-outside wrote (2 * i + regular_reserve_at) (o.reserve ∷ o.display ∷ []))

  pub put-length : length (regular_put a i o) ≡ length a
  put-length = sets-length wrote (2 * i + regular_reserve_at) (reserve_row o) ∙ sets-length a (4 * i) (regular_row o)

  pub regular-back : length a ≡ size → i < 128 → o.series < 8 → o.side < 2 → Bounded o → regular_in (regular_put a i o) i ≡ o
  unfolding regular_in regular_row reserve_row place_of
  regular-back n h s d w =
      let xs : List ℕ = o.id ∷ (2 * o.series + o.side) ∷ o.price ∷ o.quantity ∷ [] in
      let ys : List ℕ = o.reserve ∷ o.display ∷ [] in
      let m : length (sets a (4 * i) xs) ≡ size = sets-length a (4 * i) xs ∙ n in
      let p = sets-outside (sets a (4 * i) xs) (2 * i + regular_reserve_at) ys in
      let e0 : get_or (sets (sets a (4 * i) xs) (2 * i + regular_reserve_at) ys) (4 * i) 0 ≡ o.id = p.same (4 * i) (inl (omega arith)) ∙ row-at a
      (4 * i) (4 * i) xs 0 (omega arith) (omega arith) (omega arith) in
      let e1 : get_or (sets (sets a (4 * i) xs) (2 * i + regular_reserve_at) ys) (4 * i + 1) 0 ≡ 2 * o.series + o.side = p.same (4 * i + 1) (inl (omega arith))
      ∙ row-at a (4 * i) (4 * i + 1) xs 1 refl (omega arith) (omega arith) in
      let e2 : get_or (sets (sets a (4 * i) xs) (2 * i + regular_reserve_at) ys) (4 * i + 2) 0 ≡ o.price = p.same (4 * i + 2) (inl (omega arith)) ∙ row-at a (4 * i)
      (4 * i + 2) xs 2 refl (omega arith) (omega arith) in
      let e3 : get_or (sets (sets a (4 * i) xs) (2 * i + regular_reserve_at) ys) (4 * i + 3) 0 ≡ o.quantity = p.same (4 * i + 3) (inl (omega arith)) ∙ row-at a
      (4 * i) (4 * i + 3) xs 3 refl (omega arith) (omega arith) in
      let e4 : get_or (sets (sets a (4 * i) xs) (2 * i + regular_reserve_at) ys) (2 * i + regular_reserve_at) 0 ≡ o.reserve = row-at (sets a (4 * i) xs)
      (2 * i + regular_reserve_at) (2 * i + regular_reserve_at) ys 0 (omega arith) (omega arith) (omega arith) in
      let e5 : get_or (sets (sets a (4 * i) xs) (2 * i + regular_reserve_at) ys) (2 * i + regular_display_at) 0 ≡ o.display = row-at (sets a (4 * i) xs)
      (2 * i + regular_reserve_at) (2 * i + regular_display_at) ys 1 (omega arith) (omega arith) (omega arith) in
      let f : (2 * o.series + o.side) % 16 / 2 ≡ o.series = omega arith in
      let g : (2 * o.series + o.side) % 2 ≡ o.side = omega arith in
      let x : min o.reserve o.quantity ≡ o.reserve = omega (arith, w.reserve) in
      let y : min o.display o.quantity ≡ o.display = omega (arith, w.display) in
      rw (e0, e1, e2, e3, e4, e5, f, g, x, y) refl

-- the count, read
pub counted : (b : List ℕ) (k : ℕ) → get_or b regulars_used_at 0 ≡ k → k ≤ 128 → regulars_used b ≡ k
unfolding regulars_used
counted b k e h = rw e (omega arith)

whole_part : (b : List ℕ) → in_use (regular_in b) no_regular (regulars_used b) 128 ≡ (venue_of b).regular
unfolding venue_of
whole_part b = refl

count-is : (a b : List ℕ) → length a ≡ size → length b ≡ size → regulars_used a < 128 → regulars_used (set b regulars_used_at (regulars_used a + 1)) ≡ suc (regulars_used a)
count-is a b n m h =
    counted (set b regulars_used_at (regulars_used a + 1)) (regulars_used a + 1) (get_or-set_same b regulars_used_at (regulars_used a + 1) 0 (omega arith)) (omega arith) ∙ omega arith

-- the venue's regular orders, where the places in use are as many
part : (a b : List ℕ) → regulars_used b ≡ regulars_used a → venue_of b ≡ venue_of a → in_use (regular_in b) no_regular (regulars_used a) 128 ≡ (venue_of a).regular
part a b e f = ap (λ (k : ℕ). in_use (regular_in b) no_regular k 128) (sym e) ∙ whole_part b ∙ ap (λ (v : Venue). v.regular) f

module _ (a : List ℕ) (o : Regular) (n : length a ≡ size) (h : regulars_used a < 128) where
  abbrev next : ℕ
  next = regulars_used a

  abbrev more : List ℕ
  more = set (regular_put a next o) regulars_used_at (next + 1)

  put-long : length (regular_put a next o) ≡ size
  put-long = put-length a next o ∙ n

  put_same : venue_of (regular_put a next o) ≡ venue_of a
  put_same = regular-unused (row-outside a next o) (reserve-outside a next o) h (omega arith)

  put-used : regulars_used (regular_put a next o) ≡ next
  put-used = count_kept (reserve-outside a next o) (inl (omega arith)) ∙ count_kept (row-outside a next o) (inr (omega arith))

  more-used : regulars_used more ≡ suc next
  more-used = count-is a (regular_put a next o) n put-long h

  added-venue : o.series < 8 → o.side < 2 → Bounded o → venue_of more ≡ put_regular next o (venue_of a)
  unfolding put_regular
  added-venue s d w =
      regulars-counted (stored b regulars_used_at (next + 1))
      ∙ ap (λ (v : Venue). with_regular v (in_use (regular_in b) no_regular (regulars_used more) 128)) put_same
      ∙ ap (λ (l : List Regular). with_regular (venue_of a) l) all
    where
      b : List ℕ
      b = regular_put a next o

      all : in_use (regular_in b) no_regular (regulars_used more) 128 ≡ set (venue_of a).regular next o
      all =
          ap (λ (k : ℕ). in_use (regular_in b) no_regular k 128) more-used
          ∙ used-more (regular_in b) no_regular next 128 h
          ∙ ap₂ (λ (l : List Regular) (x : Regular). set l next x) (part a b put-used put_same) (regular-back a next o n h s d w)

  added-shows : venue_of more ≡ put_regular next o (venue_of a) → shows_fully o ≡ true → ShowsMarked a → ShowsMarked more
  unfolding put_regular with_regular
  added-shows e z m u = subst (λ (v : Venue). Fully v.regular) (sym e)
      (fully-set (venue_of a).regular next o (omega (arith, regulars-many a)) z (m (none-shows-again-as a more same u)))
    where
      same : get_or more show_again_at 0 ≡ get_or a show_again_at 0
      same = (stored (regular_put a next o) regulars_used_at (next + 1)).same show_again_at (inr (omega arith)) ∙ (reserve-outside a next o).same show_again_at
          (inr (omega arith)) ∙ (row-outside a next o).same show_again_at (inr (omega arith))

-- an order written after those in use, and counted
pub added-regular : (a b c : List ℕ) (n : ℕ) (o : Regular) → length a ≡ size → regulars_used a < 128 → o.series < 8 → o.side < 2 → o.display ≤ o.quantity → shows_fully o ≡ true →
    n ≡ regulars_used a → b ≡ regular_put a n o → c ≡ lowered (set b regulars_used_at (n + 1)) regulars_known_at n →
    (venue_of c ≡ put_regular (regulars_used a) o (venue_of a)) × Beside (suc (regulars_used a)) (complexes_used a) a c
added-regular a b c n o m h s d w z p q r = rw (r, q, p) (
  beside-venue mark (omega arith) (inl (omega arith)) (inr (omega arith)) (omega arith) ∙ venue,
  record {
    regulars = count_kept mark (inl (omega arith)) ∙ more-used a o m h;
    complexes = count-kept2 mark (inl (omega arith)) ∙ count-kept2 count (inr (omega arith)) ∙ count-kept2 reserve (inl (omega arith)) ∙ count-kept2 row (inr (omega arith));
    levels = λ x w. levels-kept mark (inl (omega arith)) x w ∙ levels-kept count (inr (omega arith)) x w ∙ levels-kept reserve (inl (omega arith)) x w ∙ levels-kept row (inr (omega arith)) x w;
    marked = λ x. record {
      regulars = regulars-lowered a (lowered (more a o m h) regulars_known_at i) i (omega arith)
          (get_or-set_same (more a o m h) regulars_known_at (min (get_or (more a o m h) regulars_known_at 0) i) 0 (omega (arith, length-set (regular_put a i o) regulars_used_at (i + 1), put-long a o m h))
          ∙ ap (λ (y : ℕ). min y i) (count.same regulars_known_at (inr (omega arith)) ∙ reserve.same regulars_known_at (inl (omega arith)) ∙ row.same regulars_known_at (inr (omega arith))))
          (λ k w. other-kept row reserve h k (omega arith) (λ e. omega arith) ∙ regular-kept count k (inl (omega arith)) (inr (omega arith))
          ∙ regular-kept mark k (inl (omega arith)) (inr (omega arith))) x.regulars;
      complexes = complexes-marked mark (inr (omega arith)) (inl (omega arith)) (inr (omega arith))
          (complexes-marked count (inr (omega arith)) (inr (omega arith)) (inr (omega arith))
          (complexes-marked reserve (inr (omega arith)) (inl (omega arith)) (inl (omega arith))
          (complexes-marked row (inl (omega arith)) (inr (omega arith)) (inr (omega arith)) x.complexes)));
      legging = legging-marked mark (inr (omega arith)) (inr (omega arith))
          (legging-marked count (inr (omega arith)) (inr (omega arith))
          (legging-marked reserve (inr (omega arith)) (inl (omega arith)) (legging-marked row (inl (omega arith)) (inr (omega arith)) x.legging)));
      figures = figures-marked mark (inl (omega arith))
          (figures-marked count (inl (omega arith)) (figures-marked reserve (inr (omega arith)) (figures-marked row (inl (omega arith)) x.figures)));
      shows = shows-marked mark (omega arith) (omega arith) (inl (omega arith)) (added-shows a o m h venue z x.shows);
    };
  },
)
  where
    i : ℕ
    i = regulars_used a

    venue : venue_of (more a o m h) ≡ put_regular i o (venue_of a)
    venue = added-venue a o m h s d (fully-bounded o w z)

    row : Outside (4 * i) (4 * i + 4) a (sets a (4 * i) (regular_row o))
    row = row-outside a i o

    reserve : Outside (2 * i + regular_reserve_at) (2 * i + regular_reserve_next_at) (sets a (4 * i) (regular_row o)) (regular_put a i o)
    reserve = reserve-outside a i o

    count : Outside regulars_used_at complexes_used_at (regular_put a i o) (more a o m h)
    count = stored (regular_put a i o) regulars_used_at (i + 1)

    mark : Outside regulars_known_at complexes_known_at (more a o m h) (lowered (more a o m h) regulars_known_at i)
    mark = stored (more a o m h) regulars_known_at (min (get_or (more a o m h) regulars_known_at 0) i)

-- A complex order -----------------------------------------------------------------------------

pub complex-back : (a : List ℕ) (i : ℕ) (c : Complex) → length a ≡ size → i < 32 → c.series1 < 8 → c.side1 < 2 → c.series2 < 8 → c.side2 < 2 → ComplexBounded c →
    complex_in (sets a (6 * i + complex_id_at) (complex_row c)) i ≡ c
unfolding complex_in complex_row legs_key ratios_number place_of
complex-back a i c n h s1 d1 s2 d2 k =
    let legs = 16 * (2 * c.series1 + c.side1) + (2 * c.series2 + c.side2) in
    let ratios = 256 * c.ratio1 + c.ratio2 in
    let xs : List ℕ = c.id ∷ legs ∷ ratios ∷ c.class ∷ limit_number c.limit ∷ c.quantity ∷ [] in
    let w = k.class in
    let w1 = k.ratio1 in
    let w2 = k.ratio2 in
    let e0 : get_or (sets a (6 * i + complex_id_at) xs) (6 * i + complex_id_at) 0 ≡ c.id = row-at a (6 * i + complex_id_at) (6 * i + complex_id_at) xs 0 (omega arith) (omega arith) (omega arith) in
    let e1 : get_or (sets a (6 * i + complex_id_at) xs) (6 * i + complex_legs_at) 0 ≡ legs = row-at a (6 * i + complex_id_at) (6 * i + complex_legs_at) xs 1 (omega arith) (omega arith) (omega arith) in
    let e2 : get_or (sets a (6 * i + complex_id_at) xs) (6 * i + complex_ratios_at) 0 ≡ ratios = row-at a (6 * i + complex_id_at) (6 * i + complex_ratios_at) xs 2 (omega arith) (omega arith) (omega arith) in
    let e3 : get_or (sets a (6 * i + complex_id_at) xs) (6 * i + complex_class_at) 0 ≡ c.class = row-at a (6 * i + complex_id_at) (6 * i + complex_class_at) xs 3 (omega arith) (omega arith) (omega arith) in
    let e4 : get_or (sets a (6 * i + complex_id_at) xs) (6 * i + complex_limit_at) 0 ≡ limit_number c.limit = row-at a (6 * i + complex_id_at)
    (6 * i + complex_limit_at) xs 4 (omega arith) (omega arith) (omega arith) in
    let e5 : get_or (sets a (6 * i + complex_id_at) xs) (6 * i + complex_quantity_at) 0 ≡ c.quantity = row-at a (6 * i + complex_id_at)
    (6 * i + complex_quantity_at) xs 5 (omega arith) (omega arith) (omega arith) in
    let f1 : legs % 256 / 32 ≡ c.series1 = omega arith in
    let g1 : legs / 16 % 2 ≡ c.side1 = omega arith in
    let f2 : legs % 16 / 2 ≡ c.series2 = omega arith in
    let g2 : legs % 2 ≡ c.side2 = omega arith in
    let f3 : c.class % 256 ≡ c.class = omega arith in
    let r1 : ratios / 256 % 256 ≡ c.ratio1 = omega arith in
    let r2 : ratios % 256 ≡ c.ratio2 = omega arith in
    rw (e0, e1, e2, e3, e4, e5, f1, g1, f2, g2, f3, r1, r2, k.limit) refl

pub counted2 : (b : List ℕ) (k : ℕ) → get_or b complexes_used_at 0 ≡ k → k ≤ 32 → complexes_used b ≡ k
unfolding complexes_used
counted2 b k e h = rw e (omega arith)

whole-part2 : (b : List ℕ) → in_use (complex_in b) no_complex (complexes_used b) 32 ≡ (venue_of b).complex
unfolding venue_of
whole-part2 b = refl

wide-row2 : (a : List ℕ) (i : ℕ) (c : Complex) → Outside (6 * i + complex_id_at) (6 * i + complex_next_at) a (sets a (6 * i + complex_id_at) (complex_row c))
unfolding complex_row
wide-row2 a i c =
    wider (omega arith) (omega arith) (sets-outside a (6 * i + complex_id_at) (c.id ∷ legs_key c ∷ ratios_number c ∷ c.class ∷ limit_number c.limit ∷ c.quantity ∷ []))

count-is2 : (a b : List ℕ) → length a ≡ size → length b ≡ size → complexes_used a < 32 → complexes_used (set b complexes_used_at (complexes_used a + 1)) ≡ suc (complexes_used a)
count-is2 a b n m h =
    counted2 (set b complexes_used_at (complexes_used a + 1)) (complexes_used a + 1) (get_or-set_same b complexes_used_at (complexes_used a + 1) 0 (omega arith)) (omega arith) ∙ omega arith

part2 : (a b : List ℕ) → complexes_used b ≡ complexes_used a → venue_of b ≡ venue_of a → in_use (complex_in b) no_complex (complexes_used a) 32 ≡ (venue_of a).complex
part2 a b e f = ap (λ (k : ℕ). in_use (complex_in b) no_complex k 32) (sym e) ∙ whole-part2 b ∙ ap (λ (v : Venue). v.complex) f

added-venue2 : (a : List ℕ) (o : Complex) → length a ≡ size → complexes_used a < 32 →
    o.series1 < 8 → o.side1 < 2 → o.series2 < 8 → o.side2 < 2 → ComplexBounded o →
    venue_of (set (sets a (6 * complexes_used a + complex_id_at) (complex_row o)) complexes_used_at (complexes_used a + 1)) ≡ put_complex (complexes_used a) o (venue_of a)
unfolding put_complex
added-venue2 a o n h s1 d1 s2 d2 k =
    complexes-counted (stored b complexes_used_at (complexes_used a + 1))
    ∙ ap (λ (v : Venue). with_complex v (in_use (complex_in b) no_complex (complexes_used c) 32)) same
    ∙ ap (λ (l : List Complex). with_complex (venue_of a) l) more
  where
    b : List ℕ
    b = sets a (6 * complexes_used a + complex_id_at) (complex_row o)

    c : List ℕ
    c = set b complexes_used_at (complexes_used a + 1)

    row : Outside (6 * complexes_used a + complex_id_at) (6 * complexes_used a + complex_next_at) a b
    row = wide-row2 a (complexes_used a) o

    same : venue_of b ≡ venue_of a
    same = complex-unused (complexes_used a) row h (omega arith)

    more-used : complexes_used c ≡ suc (complexes_used a)
    more-used = count-is2 a b n (sets-length a (6 * complexes_used a + complex_id_at) (complex_row o) ∙ n) h

    used-b : complexes_used b ≡ complexes_used a
    used-b = count-kept2 row (inr (omega arith))

    more : in_use (complex_in b) no_complex (complexes_used c) 32 ≡ set (venue_of a).complex (complexes_used a) o
    more =
        ap (λ (k : ℕ). in_use (complex_in b) no_complex k 32) more-used
        ∙ used-more (complex_in b) no_complex (complexes_used a) 32 h
        ∙ ap₂ (λ (l : List Complex) (x : Complex). set l (complexes_used a) x) (part2 a b used-b same) (complex-back a (complexes_used a) o n h s1 d1 s2 d2 k)

pub added-complex : (a b c : List ℕ) (n : ℕ) (o : Complex) → length a ≡ size → complexes_used a < 32 →
    o.series1 < 8 → o.side1 < 2 → o.series2 < 8 → o.side2 < 2 → ComplexBounded o →
    n ≡ complexes_used a → b ≡ sets a (6 * n + complex_id_at) (complex_row o) → c ≡ lowered (set b complexes_used_at (n + 1)) complexes_known_at n →
    (venue_of c ≡ put_complex (complexes_used a) o (venue_of a)) × Counts (regulars_used a) (suc (complexes_used a)) a c
added-complex a b c n o m h s1 d1 s2 d2 k p q r = rw (r, q, p) (
  beside-venue mark (omega arith) (inl (omega arith)) (inr (omega arith)) (omega arith) ∙ added-venue2 a o m h s1 d1 s2 d2 k,
  record {
    regulars = count_kept mark (inl (omega arith)) ∙ count_kept count (inl (omega arith)) ∙ count_kept row (inr (omega arith));
    complexes = count-kept2 mark (inl (omega arith)) ∙ count-is2 a wrote m long h;
    right = right_kept a (lowered more complexes_known_at i)
        (λ x w. levels-kept mark (inl (omega arith)) x w ∙ levels-kept count (inr (omega arith)) x w ∙ levels-kept row (inr (omega arith)) x w)
        (regulars-kept mark (omega arith) (inr (omega arith)) (inl (omega arith)) ∙ regulars-kept count (omega arith) (inr (omega arith))
        (inl (omega arith)) ∙ regulars-kept row (omega arith) (inr (omega arith)) (inr (omega arith)))
        (λ x. record {
          regulars = regulars-marked mark (omega arith) (inl (omega arith)) (inl (omega arith))
              (regulars-marked count (omega arith) (inl (omega arith)) (inr (omega arith))
              (regulars-marked row (omega arith) (inr (omega arith)) (inr (omega arith)) x.regulars));
          complexes = complexes-lowered a (lowered more complexes_known_at i) i (omega arith)
              (get_or-set_same more complexes_known_at (min (get_or more complexes_known_at 0) i) 0 (omega (arith, length-set wrote complexes_used_at (i + 1), long))
              ∙ ap (λ (y : ℕ). min y i) (count.same complexes_known_at (inr (omega arith)) ∙ row.same complexes_known_at (inr (omega arith))))
              (λ j w. complex-kept row j (inl (omega arith)) ∙ complex-kept count j (inl (omega arith)) ∙ complex-kept mark j (inl (omega arith))) x.complexes;
          legging = legging-marked mark (inr (omega arith)) (inr (omega arith))
              (legging-marked count (inr (omega arith)) (inr (omega arith)) (legging-marked row (inl (omega arith)) (inr (omega arith)) x.legging));
          figures = figures-marked mark (inl (omega arith))
              (figures-marked count (inl (omega arith)) (figures-marked row (inl (omega arith)) x.figures));
          shows = shows-marked mark (omega arith) (omega arith) (inl (omega arith))
              (shows-marked count (omega arith) (omega arith) (inl (omega arith)) (shows-marked row (omega arith) (omega arith) (inr (omega arith)) x.shows));
        });
  },
)
  where
    i : ℕ
    i = complexes_used a

    wrote : List ℕ
    wrote = sets a (6 * i + complex_id_at) (complex_row o)

    more : List ℕ
    more = set wrote complexes_used_at (i + 1)

    long : length wrote ≡ size
    long = sets-length a (6 * i + complex_id_at) (complex_row o) ∙ m

    row : Outside (6 * i + complex_id_at) (6 * i + complex_next_at) a wrote
    row = wide-row2 a i o

    count : Outside complexes_used_at last_id_at wrote more
    count = stored wrote complexes_used_at (i + 1)

    mark : Outside complexes_known_at legging_mask_at more (lowered more complexes_known_at i)
    mark = stored more complexes_known_at (min (get_or more complexes_known_at 0) i)

-- Legging places, series and the last id ------------------------------------------------------

legging-back : (a : List ℕ) (n : ℕ) (l : Legging) → length a ≡ size → n < 16 → legging_in (sets a (3 * n + legging_parent_at) (l.parent ∷ l.price ∷ l.quantity ∷ [])) n ≡ l
unfolding legging_in
legging-back a n l m h =
    let xs : List ℕ = l.parent ∷ l.price ∷ l.quantity ∷ [] in
    let e0 : get_or (sets a (3 * n + legging_parent_at) xs) (3 * n + legging_parent_at) 0 ≡ l.parent = row-at a (3 * n + legging_parent_at)
    (3 * n + legging_parent_at) xs 0 (omega arith) (omega arith) (omega arith) in
    let e1 : get_or (sets a (3 * n + legging_parent_at) xs) (3 * n + legging_price_at) 0 ≡ l.price = row-at a (3 * n + legging_parent_at)
    (3 * n + legging_price_at) xs 1 (omega arith) (omega arith) (omega arith) in
    let e2 : get_or (sets a (3 * n + legging_parent_at) xs) (3 * n + legging_quantity_at) 0 ≡ l.quantity = row-at a (3 * n + legging_parent_at)
    (3 * n + legging_quantity_at) xs 2 (omega arith) (omega arith) (omega arith) in
    rw (e0, e1, e2) refl

legging-put : (a : List ℕ) (n : ℕ) (l : Legging) → length a ≡ size → n < 16 →
    venue_of (sets a (3 * n + legging_parent_at) (l.parent ∷ l.price ∷ l.quantity ∷ [])) ≡ placed n l (venue_of a)
unfolding placed
legging-put a n l m h =
    legging-set {a = a} {b = sets a (3 * n + legging_parent_at) (l.parent ∷ l.price ∷ l.quantity ∷ [])}
    (wider (omega arith) (omega arith) (sets-outside a (3 * n + legging_parent_at) (l.parent ∷ l.price ∷ l.quantity ∷ []))) h
    ∙ ap (λ (x : Legging). with_legging (venue_of a) (set (venue_of a).legging n x)) (legging-back a n l m h)

-- u is what the old order adds to the mask, and w what the new one does
pub put-legging : (a : List ℕ) (n rest u w : ℕ) (old l : Legging) → length a ≡ size → n < 16 → old ≡ legging_in a n →
    rest ≡ get_or a legging_mask_at 0 % 65536 - u → u ≡ bit_of old * 2 ^ n → w ≡ bit_of l * 2 ^ n →
    (venue_of (sets (set a legging_mask_at (rest + w)) (3 * n + legging_parent_at) (l.parent ∷ l.price ∷ l.quantity ∷ [])) ≡ placed n l (venue_of a))
    × SameCounts a (sets (set a legging_mask_at (rest + w)) (3 * n + legging_parent_at) (l.parent ∷ l.price ∷ l.quantity ∷ []))
put-legging a n rest u w old l m h e r p q = (
  venue,
  record {
    regulars = count_kept row (inr (omega arith)) ∙ count_kept one (inl (omega arith));
    complexes = count-kept2 row (inr (omega arith)) ∙ count-kept2 one (inl (omega arith));
    right = right_kept a c (λ k y. levels-kept row (inr (omega arith)) k y ∙ levels-kept one (inl (omega arith)) k y)
        (regulars-kept row (omega arith) (inr (omega arith)) (inr (omega arith)) ∙ regulars-kept one (omega arith) (inr (omega arith)) (inl (omega arith)))
        (λ x. record {
          regulars = regulars-marked row (omega arith) (inr (omega arith)) (inr (omega arith)) (regulars-marked one (omega arith) (inl (omega arith)) (inl (omega arith)) x.regulars);
          complexes = complexes-marked row (inr (omega arith)) (inr (omega arith)) (inr (omega arith))
              (complexes-marked one (inr (omega arith)) (inl (omega arith)) (inl (omega arith)) x.complexes);
          legging = row.same legging_mask_at (inr (omega arith)) ∙ get_or-set_same a legging_mask_at (rest + w) 0 (omega arith)
              ∙ mask-put a n rest u w old l h x.legging e r p q ∙ sym (ap (λ (v : Venue). mask v.legging) venue ∙ (unfold placed with_legging in refl));
          figures = figures-marked row (inl (omega arith)) (figures-marked one (inl (omega arith)) x.figures);
          shows = shows-marked row (omega arith) (omega arith) (inr (omega arith)) (shows-marked one (omega arith) (omega arith) (inl (omega arith)) x.shows);
        });
  },
)
  where
    b : List ℕ
    b = set a legging_mask_at (rest + w)

    c : List ℕ
    c = sets b (3 * n + legging_parent_at) (l.parent ∷ l.price ∷ l.quantity ∷ [])

    one : Outside legging_mask_at edition_number_at a b
    one = stored a legging_mask_at (rest + w)

    row : Outside (3 * n + legging_parent_at) (3 * n + legging_next_at) b c
    row = wider (omega arith) (omega arith) (sets-outside b (3 * n + legging_parent_at) (l.parent ∷ l.price ∷ l.quantity ∷ []))

    venue : venue_of c ≡ placed n l (venue_of a)
    venue = legging-put b n l (length-set a legging_mask_at (rest + w) ∙ m) h ∙ ap (placed n l) (beside-venue one (omega arith) (inl (omega arith)) (inr (omega arith)) (omega arith))

listed_back : (a : List ℕ) (s : ℕ) (x : Listed) → length a ≡ size → s < 8 → x.status < 256 → listed_in (sets a (3 * s + series_status_at) (x.status ∷ x.bid ∷ x.offer ∷ [])) s ≡ x
unfolding listed_in
listed_back a s x m h w =
    let xs : List ℕ = x.status ∷ x.bid ∷ x.offer ∷ [] in
    let e0 : get_or (sets a (3 * s + series_status_at) xs) (3 * s + series_status_at) 0 ≡ x.status = row-at a (3 * s + series_status_at)
    (3 * s + series_status_at) xs 0 (omega arith) (omega arith) (omega arith) in
    let e1 : get_or (sets a (3 * s + series_status_at) xs) (3 * s + series_bid_at) 0 ≡ x.bid = row-at a (3 * s + series_status_at) (3 * s + series_bid_at) xs 1 (omega arith) (omega arith) (omega arith) in
    let e2 : get_or (sets a (3 * s + series_status_at) xs) (3 * s + series_offer_at) 0 ≡ x.offer = row-at a (3 * s + series_status_at)
    (3 * s + series_offer_at) xs 2 (omega arith) (omega arith) (omega arith) in
    let f : x.status % 256 ≡ x.status = omega arith in
    rw (e0, e1, e2, f) refl

pub put-listed : (a : List ℕ) (s : ℕ) (x : Listed) → length a ≡ size → s < 8 → x.status < 256 →
    venue_of (sets a (3 * s + series_status_at) (x.status ∷ x.bid ∷ x.offer ∷ [])) ≡ with_series (venue_of a) (set (venue_of a).series s x)
put-listed a s x m h w =
    listed-set {a = a} {b = sets a (3 * s + series_status_at) (x.status ∷ x.bid ∷ x.offer ∷ [])}
    (wider (omega arith) (omega arith) (sets-outside a (3 * s + series_status_at) (x.status ∷ x.bid ∷ x.offer ∷ []))) h
    ∙ ap (λ (y : Listed). with_series (venue_of a) (set (venue_of a).series s y)) (listed_back a s x m h w)

pub edition-back : (a : List ℕ) (i : ℕ) (e : Edition) → length a ≡ size → i < 32 → e.figure < 256 → e.value < 256 → edition_in (sets a (4 * i + edition_number_at) (edition_row e)) i ≡ e
unfolding edition_in edition_row
edition-back a i e n h w x =
    let xs : List ℕ = e.edition ∷ e.message ∷ e.figure ∷ e.value ∷ [] in
    let e0 : get_or (sets a (4 * i + edition_number_at) xs) (4 * i + edition_number_at) 0 ≡ e.edition = row-at a (4 * i + edition_number_at)
    (4 * i + edition_number_at) xs 0 (omega arith) (omega arith) (omega arith) in
    let e1 : get_or (sets a (4 * i + edition_number_at) xs) (4 * i + edition_message_at) 0 ≡ e.message = row-at a (4 * i + edition_number_at)
    (4 * i + edition_message_at) xs 1 (omega arith) (omega arith) (omega arith) in
    let e2 : get_or (sets a (4 * i + edition_number_at) xs) (4 * i + edition_figure_at) 0 ≡ e.figure = row-at a (4 * i + edition_number_at)
    (4 * i + edition_figure_at) xs 2 (omega arith) (omega arith) (omega arith) in
    let e3 : get_or (sets a (4 * i + edition_number_at) xs) (4 * i + edition_value_at) 0 ≡ e.value = row-at a (4 * i + edition_number_at)
    (4 * i + edition_value_at) xs 3 (omega arith) (omega arith) (omega arith) in
    let f : e.figure % 256 ≡ e.figure = omega arith in
    let g : e.value % 256 ≡ e.value = omega arith in
    rw (e0, e1, e2, e3, f, g) refl

pub put_last : (a : List ℕ) (id : ℕ) → length a ≡ size → venue_of (set a last_id_at id) ≡ with_last (venue_of a) id
put_last a id n = last_set (stored a last_id_at id) ∙ ap (λ (k : ℕ). with_last (venue_of a) k) (get_or-set_same a last_id_at id 0 (omega arith))

-- Levels --------------------------------------------------------------------------------------

level-back : (a : List ℕ) (n : ℕ) (l : Level) → length a ≡ size → n < 16 →
    level_in (sets a (3 * n + level_price_at) (l.price ∷ l.size % 4294967296 ∷ l.size / 4294967296 ∷ [])) n ≡ l
unfolding level_in
level-back a n l m h =
    let xs : List ℕ = l.price ∷ l.size % 4294967296 ∷ l.size / 4294967296 ∷ [] in
    let e0 : get_or (sets a (3 * n + level_price_at) xs) (3 * n + level_price_at) 0 ≡ l.price = row-at a (3 * n + level_price_at) (3 * n + level_price_at) xs 0 (omega arith) (omega arith) (omega arith) in
    let e1 : get_or (sets a (3 * n + level_price_at) xs) (3 * n + level_low_at) 0 ≡ l.size % 4294967296 = row-at a (3 * n + level_price_at)
    (3 * n + level_low_at) xs 1 (omega arith) (omega arith) (omega arith) in
    let e2 : get_or (sets a (3 * n + level_price_at) xs) (3 * n + level_high_at) 0 ≡ l.size / 4294967296 = row-at a (3 * n + level_price_at)
    (3 * n + level_high_at) xs 2 (omega arith) (omega arith) (omega arith) in
    let f : l.size % 4294967296 + 4294967296 * (l.size / 4294967296) ≡ l.size = omega arith in
    rw (e0, e1, e2, f) refl

pub put-level : (a : List ℕ) (n : ℕ) (l : Level) → length a ≡ size → n < 16 →
    LevelPut n l a (sets a (3 * n + level_price_at) (l.price ∷ l.size % 4294967296 ∷ l.size / 4294967296 ∷ []))
put-level a n l m h = record {
  venue = beside-venue o (omega arith) (inl (omega arith)) (inr (omega arith)) (omega arith);
  regulars = count_kept o (inl (omega arith));
  complexes = count-kept2 o (inl (omega arith));
  here = level-back a n l m h;
  others = λ k w q. level-kept o k (near k q);
  marked = λ x. record {
    regulars = regulars-marked o (omega arith) (inl (omega arith)) (inr (omega arith)) x.regulars;
    complexes = complexes-marked o (inr (omega arith)) (inl (omega arith)) (inr (omega arith)) x.complexes;
    legging = legging-marked o (inr (omega arith)) (inr (omega arith)) x.legging;
    figures = figures-marked o (inl (omega arith)) x.figures;
    shows = shows-marked o (omega arith) (omega arith) (inl (omega arith)) x.shows;
  };
}
  where
    o : Outside (3 * n + level_price_at) (3 * n + level_next_at) a (sets a (3 * n + level_price_at) (l.price ∷ l.size % 4294967296 ∷ l.size / 4294967296 ∷ []))
    o = wider (omega arith) (omega arith) (sets-outside a (3 * n + level_price_at) (l.price ∷ l.size % 4294967296 ∷ l.size / 4294967296 ∷ []))

    near : (k : ℕ) → (k ≡ n → ⊥) → (3 * k + level_next_at ≤ 3 * n + level_price_at) ⊎ (3 * n + level_next_at ≤ 3 * k + level_price_at)
    near k q = elim (dec_lt k n) [ yes p ↦ inl (omega arith) | no p ↦ inr (omega arith) ]
