-- Loading a venue: its books row by row to the first free place, its other parts place by place.
use mathlib.Core.Path.{◌≡◌, refl, sym, ap, subst, ◌∙◌}
use mathlib.Core.Bool.{Bool, true, false, ◌&&◌, true≢false}
use mathlib.Core.Logic.{inl, inr}
use mathlib.Core.List.{List, [], ◌∷◌, ◌++◌}
use Prim.Native.Nat.{ℕ, ◌+◌, ◌*◌, ◌≤◌, ◌<◌}
use native.Mathlib.Omega.{arith}
use native.Mathlib.Decide.{dec_lt}
use native.Mathlib.Numerals.{add-one}
use borrow.Author.Tests.{leb-true}
use lib.Dec.{leb}
use lib.ListN.{length, get_or, set, take, length-set, get_or-eq_default}
use lib.Seq.{sets, get_or-set_same, ext_get_or, take-suc, take-suc-set, take_all}
use Rattle.rules.specs.declared.Regular.{Regular}
use Rattle.rules.specs.declared.Complex.{Complex}
use Rattle.rules.specs.declared.Edition.{Edition}
use Rattle.rules.specs.declared.Venue.{Venue}
use Rattle.rules.specs.Words.{no_regular, no_complex, no_edition, with_regular, with_complex, with_legging, with_series, with_editions}
use Rattle.rules.specs.Words.{with_generations, with_last, with_reached, is_series, is_side, within}
use Rattle.rules.specs.Places.{holds_regular, holds_complex, holds_edition, blank_regular, blank_complex, blank_edition, packed, close_gaps}
use Rattle.rules.specs.Step.{mask}
use Rattle.rules.specs.Settings.{figure_now, increment}
use Rattle.rules.specs.Refusals.{regular_in_range, two_leg_in_range, complex_in_range, on_increment}
use Rattle.rules.specs.Sound.{shows_fully, regulars_sound, complexes_sound, editions_sound, edition_in_range, sound}
use Rattle.rules.proofs.Tests.{and_l, and_r}
use Rattle.rules.proofs.Editions.{Dated, Stepped, dated-steps}
use Rattle.rules.proofs.Dating.{edition-free}
use Rattle.rules.proofs.Closing.{packed-free}
use Rattle.rules.proofs.Arranging.{arranged-out, blank-free, blank-free_c, closed_same}
use Rattle.places.proofs.Orderly.{sound-orderly}
use Rattle.places.proofs.Fully.{range-bounded, sound-fully}
use Rattle.places.specs.Layout.{size, in_use, regular_in, complex_in, edition_in, venue_of, regular_put, Bounded, edition_row, Fully, Figured}
use Rattle.places.specs.Layout.{FiguresCounted, SameCounts, Placed, OnSide, Loadable, RegularsLoaded}
use Rattle.venue_numbers.specs.Parts.{SameUsed, PartOf, Laying, BookLaid}
use Rattle.places.specs.Layout.{ComplexesLoaded, BesideCounted, Laid}
use Rattle.places.specs.Offsets.{regulars_used_at, complexes_used_at, regulars_known_at, complexes_known_at, legging_mask_at, edition_number_at, edition_next_at, figures_at, regular_reserve_at, show_again_at, generation_messages_at}
use Rattle.places.proofs.Tables.{used-length, used-at, used-free}
use Rattle.places.proofs.Parts.{Outside, OutsideRows, halves, stored, wider, edition-set, count_kept, count-kept2}
use Rattle.places.proofs.Beside.{figures-marked, beside-venue}
use Rattle.place_writes.proofs.Figures.{counted-outside}
use Rattle.place_writes.proofs.Stores.{sets-outside, edition-back}
use Rattle.places.proofs.Free.{filled_more}
use Rattle.place_writes.specs.Moving.{Rows, complex_put, OutsideComplexes}
use Rattle.place_writes.proofs.Closed.{regular-rows, complex-rows, regulars-set, complexes-set, regulars-filled, complexes-filled}

-- Rows, to the first free place ----------------------------------------------------------------

module _ {A : Type 0} (holds : A → Bool) (none : A) (all : ℕ) (row_in : List ℕ → ℕ → A) (write : List ℕ → ℕ → A → List ℕ) (Same : (i j : ℕ) (a b : List ℕ) → Type 0)
    (rows : Rows all row_in write Same) where
  pub laying-first : (a : List ℕ) (l : List A) → length a ≡ size → Laying holds none row_in Same a a l 0
  laying-first a l e = record {
    before = e;
    long = e;
    same = λ k w. absurd (omega arith);
    full = λ k w. absurd (omega arith);
    outside = rows.none 0 0 a;
  }

  module _ (a b : List ℕ) (l : List A) (i : ℕ) (m : Laying holds none row_in Same a b l i) where
    laying-step : i < all → holds (get_or l i none) ≡ true → row_in (write b i (get_or l i none)) i ≡ get_or l i none → Laying holds none row_in Same a (write b i (get_or l i none)) l (i + 1)
    laying-step lt h new = record {
      before = m.before;
      long = rows.long b i (get_or l i none) ∙ m.long;
      same = same;
      full = filled_more holds (row_in b') i (λ k w. ap holds (sym (front k w)) ∙ m.full k w) (ap holds new ∙ h);
      outside = rows.join 0 (i + 1) a b b' (rows.wide 0 i 0 (i + 1) a b (omega arith) (omega arith) m.outside)
          (rows.wide i (i + 1) 0 (i + 1) b b' (omega arith) (omega arith) (rows.wrote b i (get_or l i none)));
    }
      where
        b' : List ℕ
        b' = write b i (get_or l i none)

        front : (k : ℕ) → k < i → row_in b k ≡ row_in b' k
        front k w = rows.agree b b' i (i + 1) k (omega arith) (omega arith) (rows.wrote b i (get_or l i none)) (inl w)

        same : (k : ℕ) → k < i + 1 → row_in b' k ≡ get_or l k none
        same k w = elim (dec_lt k i) [
          | yes r ↦ sym (front k r) ∙ m.same k r
          | no r ↦ (let e : k ≡ i = omega arith in ap (row_in b') e ∙ new ∙ sym (ap (λ (x : ℕ). get_or l x none) e))
        ]

    pub laying-next : (x : A) (b' : List ℕ) → i < all → x ≡ get_or l i none → holds x ≡ true → b' ≡ write b i x → row_in b' i ≡ x → Laying holds none row_in Same a b' l (i + 1)
    laying-next x b' lt is h e back = rw (e, is) (laying-step lt (ap holds (sym is) ∙ h) (rw (e, is) at back))

    -- the rest is free
    pub laid : length l ≡ all → i ≤ all → ((k : ℕ) → i ≤ k → get_or l k none ≡ none) → in_use (row_in b) none i all ≡ l
    laid n few rest = ext_get_or none (in_use (row_in b) none i all) l (used-length (row_in b) none i all few ∙ sym n) (λ k w. elem k)
      where
        elem : (k : ℕ) → get_or (in_use (row_in b) none i all) k none ≡ get_or l k none
        elem k = elim (dec_lt k i) [
          | yes r ↦ used-at (row_in b) none i all k r ∙ m.same k r
          | no r ↦ used-free (row_in b) none i all k (omega arith) ∙ sym (rest k (omega arith))
        ]

-- places after a free one are free
pub free-after : {A : Type 0} (holds : A → Bool) (none : A) (Asked : A → Type 0) (l : List A) (i : ℕ) → Placed holds none Asked l → holds (get_or l i none) ≡ false →
    (k : ℕ) → i ≤ k → get_or l k none ≡ none
free-after holds none Asked l i p h k le = p.blank k (go (holds (get_or l k none)) refl)
  where
    go : (t : Bool) → holds (get_or l k none) ≡ t → holds (get_or l k none) ≡ false
    go false e = e
    go true e = elim (dec_lt i k) [
      | yes r ↦ absurd (true≢false (sym (p.dense i k r e) ∙ h))
      | no r ↦ (let z : k ≡ i = omega arith in ap (λ (x : ℕ). holds (get_or l x none)) z ∙ h)
    ]

-- and so are those past the end
pub past_end : {A : Type 0} (none : A) (l : List A) (i : ℕ) → length l ≤ i → (k : ℕ) → i ≤ k → get_or l k none ≡ none
past_end none l i h k le = get_or-eq_default l none {n = k} (omega arith)

-- the book is l
pub regulars-last : (a b : List ℕ) (l : List Regular) (i : ℕ) → length l ≡ 128 → BookLaid holds_regular no_regular regular_in OutsideRows 128 a b l i → RegularsLoaded a l (set b regulars_used_at i)
regulars-last a b l i n m =
    let w = m.laying in
    let s = regulars-set a b l i w.long m.few (halves a b w.before w.long 0 i m.few w.outside)
    (laid holds_regular no_regular 128 regular_in regular_put OutsideRows regular-rows a b l i w n m.few m.rest) w.full in
    record { venue = s.venue; complexes = s.complexes; filled = s.filled }

pub complexes-last : (a b : List ℕ) (l : List Complex) (i : ℕ) → length l ≡ 32 → BookLaid holds_complex no_complex complex_in OutsideComplexes 32 a b l i → ComplexesLoaded a l (set b complexes_used_at i)
complexes-last a b l i n m =
    let w = m.laying in
    let s = complexes-set a b l i w.long m.few (wider (omega arith) (omega arith) w.outside)
    (laid holds_complex no_complex 32 complex_in complex_put OutsideComplexes complex-rows a b l i w n m.few m.rest) w.full in
    record { venue = s.venue; regulars = s.regulars; filled = s.filled }

-- Whole parts, place by place -----------------------------------------------------------------

-- the first i places of one part are l's, and nothing else changed
pub record Loading {A : Type 0} (With : Venue → List A → Venue) (part : Venue → List A) (a b : List ℕ) (l : List A) (i : ℕ) : Type 0 where
  pub others : With (venue_of b) l ≡ With (venue_of a) l
  pub front : take i (part (venue_of b)) ≡ take i l
  pub used : SameUsed a b

module _ {A : Type 0} (With : Venue → List A → Venue) (part : Venue → List A) (n : ℕ) (p : PartOf With part n) (a : List ℕ) (l : List A) where
  pub loading-first : Loading With part a a l 0
  loading-first = record { others = refl; front = refl; used = record { regulars = refl; complexes = refl } }

  pub loading-next : (d : A) (b b' : List ℕ) (i : ℕ) → Loading With part a b l i → i < n → length l ≡ n → (x : A) → x ≡ get_or l i d →
      venue_of b' ≡ With (venue_of b) (set (part (venue_of b)) i x) → SameUsed b b' → Loading With part a b' l (i + 1)
  loading-next d b b' i m lt ln x is v c = record {
    others = ap (λ (w : Venue). With w l) v ∙ p.again (venue_of b) (set (part (venue_of b)) i x) l ∙ m.others;
    front =
        ap (λ (w : Venue). take (i + 1) (part w)) v ∙ ap (take (i + 1)) (p.got (venue_of b) (set (part (venue_of b)) i x))
        ∙ ap (λ (k : ℕ). take k (set (part (venue_of b)) i x)) (add-one i)
        ∙ take-suc-set (part (venue_of b)) i x (omega (arith, p.many b))
        ∙ ap (λ (t : List A). t ++ (x ∷ [])) m.front
        ∙ ap (λ (y : A). take i l ++ (y ∷ [])) is
        ∙ sym (take-suc l i d (omega arith))
        ∙ sym (ap (λ (k : ℕ). take k l) (add-one i));
    used = record { regulars = c.regulars ∙ m.used.regulars; complexes = c.complexes ∙ m.used.complexes };
  }

  pub loading-last : (b : List ℕ) (i : ℕ) → Loading With part a b l i → n ≤ i → length l ≡ n → venue_of b ≡ With (venue_of a) l
  loading-last b i m h ln =
      sym (p.own (venue_of b))
      ∙ ap (With (venue_of b)) (sym (take_all i (part (venue_of b)) (omega (arith, p.many b))) ∙ m.front ∙ take_all i l (omega arith))
      ∙ m.others

-- a part's place put, as a function that keeps all that is right puts it
pub used-kept : (a b : List ℕ) → SameCounts a b → SameUsed a b
used-kept a b c = record { regulars = c.regulars; complexes = c.complexes }

-- an edition put; the figures stay as they are
pub edition-put : (a b : List ℕ) (i : ℕ) (e : Edition) → length a ≡ size → i < 32 → e.figure < 256 → e.value < 256 → b ≡ sets a (4 * i + edition_number_at) (edition_row e) →
    (venue_of b ≡ with_editions (venue_of a) (set (venue_of a).editions i e)) × SameUsed a b
edition-put a b i e n h w x is = (
  edition-set o h ∙ ap (λ (y : Edition). with_editions (venue_of a) (set (venue_of a).editions i y)) (ap (λ (m : List ℕ). edition_in m i) is ∙ edition-back a i e n h w x),
  record { regulars = count_kept o (inl (omega arith)); complexes = count-kept2 o (inl (omega arith)) },
)
  where
    o : Outside (4 * i + edition_number_at) (4 * i + edition_next_at) a b
    o = rw is (unfold edition_row in wider (omega arith) (omega arith) (sets-outside a (4 * i + edition_number_at) (edition_row e)))

-- The whole venue -----------------------------------------------------------------------------

figures-some : (v : Venue) (s : ℕ) → 0 < increment v s → 0 < figure_now v s
unfolding increment
figures-some v s h = h

pub beside-counted : (h f : List ℕ) (x : ℕ) → length h ≡ size → x ≡ mask (venue_of h).legging → length f ≡ length h → FiguresCounted h f →
    BesideCounted h (set (set (set (set f regulars_known_at 0) complexes_known_at 0) legging_mask_at x) show_again_at 0)
beside-counted h f x wide count even figs = record {
  venue = same;
  regulars = count_kept four (inl (omega arith)) ∙ count_kept three (inl (omega arith)) ∙ count_kept two (inl (omega arith)) ∙ count_kept one
      (inl (omega arith)) ∙ count_kept aside (inl (omega arith));
  complexes = count-kept2 four (inl (omega arith)) ∙ count-kept2 three (inl (omega arith)) ∙ count-kept2 two (inl (omega arith)) ∙ count-kept2 one
      (inl (omega arith)) ∙ count-kept2 aside (inl (omega arith));
  marked = λ steps shown. record {
    regulars = λ k w. absurd
        (omega (
          arith,
          four.same regulars_known_at (inl (omega arith)),
          three.same regulars_known_at (inl (omega arith)),
          two.same regulars_known_at (inl (omega arith)),
          get_or-set_same f regulars_known_at 0 0 (omega (arith, long)),
        ));
    complexes = λ k w. absurd
        (omega (
          arith,
          four.same complexes_known_at (inl (omega arith)),
          three.same complexes_known_at (inl (omega arith)),
          get_or-set_same (set f regulars_known_at 0) complexes_known_at 0 0 (omega (arith, long, length-set f regulars_known_at 0)),
        ));
    legging = four.same legging_mask_at (inl (omega arith)) ∙ get_or-set_same (set (set f regulars_known_at 0) complexes_known_at 0) legging_mask_at x 0
        (omega (arith, long, length-set (set f regulars_known_at 0) complexes_known_at 0, length-set f regulars_known_at 0))
        ∙ count ∙ ap (λ (w : Venue). mask w.legging) (sym same);
    figures = figures-marked four (inr (omega arith)) (figures-marked three (inl (omega arith)) (figures-marked two (inl (omega arith)) (figures-marked one (inl (omega arith)) (figured steps))));
    shows = λ _. subst (λ (w : Venue). Fully w.regular) (sym same) shown;
  };
}
  where
    y : List ℕ
    y = set (set (set f regulars_known_at 0) complexes_known_at 0) legging_mask_at x

    aside : Outside figures_at regular_reserve_at h f
    aside = counted-outside h f figs

    one : Outside regulars_known_at complexes_known_at f (set f regulars_known_at 0)
    one = stored f regulars_known_at 0

    two : Outside complexes_known_at legging_mask_at (set f regulars_known_at 0) (set (set f regulars_known_at 0) complexes_known_at 0)
    two = stored (set f regulars_known_at 0) complexes_known_at 0

    three : Outside legging_mask_at edition_number_at (set (set f regulars_known_at 0) complexes_known_at 0) y
    three = stored (set (set f regulars_known_at 0) complexes_known_at 0) legging_mask_at x

    four : Outside show_again_at generation_messages_at y (set y show_again_at 0)
    four = stored y show_again_at 0

    long : length f ≡ size
    long = even ∙ wide

    beside : venue_of f ≡ venue_of h
    beside = beside-venue aside (omega arith) (inr (omega arith)) (inr (omega arith)) (omega arith)

    same : venue_of (set y show_again_at 0) ≡ venue_of h
    same = beside-venue four (omega arith) (inr (omega arith)) (inl (omega arith)) (omega arith) ∙ beside-venue three (omega arith)
        (inl (omega arith)) (inr (omega arith)) (omega arith) ∙ beside-venue two (omega arith) (inl (omega arith)) (inr (omega arith)) (omega arith)
        ∙ beside-venue one (omega arith) (inl (omega arith)) (inr (omega arith)) (omega arith) ∙ beside

    figured : ((s : ℕ) → s < 8 → 0 < increment (venue_of h) s) → Figured f
    figured steps = record { so = figs.figures; some = λ s w. rw (figs.figures s (omega arith), beside) (figures-some (venue_of h) s (steps s w)) }

pub loaded : (v : Venue) (k a b c d e g h y : List ℕ) → venue_of a ≡ with_reached (with_generations (venue_of k) v.generations) v.reached →
    RegularsLoaded a v.regular b → ComplexesLoaded b v.complex c → venue_of d ≡ with_legging (venue_of c) v.legging → SameUsed c d →
    venue_of e ≡ with_series (venue_of d) v.series → SameUsed d e → venue_of g ≡ with_editions (venue_of e) v.editions → SameUsed e g → venue_of h ≡ with_last (venue_of g) v.last → SameCounts g h →
    BesideCounted h y → ((s : ℕ) → s < 8 → 0 < increment v s) → Fully v.regular → Laid v y
unfolding with_regular with_complex with_legging with_series with_editions with_generations with_last with_reached
loaded v k a b c d e g h y t rs cs ls n ss o es q lt p beside steps shown =
    let is : venue_of h ≡ v = lt ∙ ap (λ (w : Venue). with_last w v.last)
    (es ∙ ap (λ (w : Venue). with_editions w v.editions)
    (ss ∙ ap (λ (w : Venue). with_series w v.series)
    (ls ∙ ap (λ (w : Venue). with_legging w v.legging)
    (cs.venue ∙ ap (λ (w : Venue). with_complex w v.complex) (rs.venue ∙ ap (λ (w : Venue). with_regular w v.regular) t))))) in
    record {
      venue = beside.venue ∙ is;
      regulars = regulars-filled h y (ap (λ (w : Venue). w.regular) beside.venue) beside.regulars
          (regulars-filled g h (ap (λ (w : Venue). w.regular) lt) p.regulars
          (regulars-filled e g (ap (λ (w : Venue). w.regular) es) q.regulars
          (regulars-filled d e (ap (λ (w : Venue). w.regular) ss) o.regulars
          (regulars-filled c d (ap (λ (w : Venue). w.regular) ls) n.regulars
          (regulars-filled b c (ap (λ (w : Venue). w.regular) cs.venue) cs.regulars rs.filled)))));
      complexes = complexes-filled h y (ap (λ (w : Venue). w.complex) beside.venue) beside.complexes
          (complexes-filled g h (ap (λ (w : Venue). w.complex) lt) p.complexes
          (complexes-filled e g (ap (λ (w : Venue). w.complex) es) q.complexes
          (complexes-filled d e (ap (λ (w : Venue). w.complex) ss) o.complexes
          (complexes-filled c d (ap (λ (w : Venue). w.complex) ls) n.complexes cs.filled))));
      marked = beside.marked (λ s w. rw is (steps s w)) (rw is shown);
    }

-- A sound venue can be loaded -----------------------------------------------------------------

pub regular-side : (o : Regular) → regular_in_range o ≡ true → OnSide o.series o.side
unfolding regular_in_range is_series is_side within
regular-side o z =
    let a = leb-true o.series 7 (search (and_l, and_r, z) depth 8) in
    let b = leb-true o.side 1 (search (and_l, and_r, z) depth 8) in
    record { series = omega arith; side = omega arith }

regular-asked : (v : Venue) (o : Regular) → (regular_in_range o && on_increment v o && shows_fully o && leb o.id v.last) ≡ true → OnSide o.series o.side × Bounded o
regular-asked v o h =
    let r : regular_in_range o ≡ true = search (and_l, and_r, h) depth 8 in
    let f : shows_fully o ≡ true = search (and_l, and_r, h) depth 8 in
    (regular-side o r, range-bounded o r f)

pub complex-sides : (c : Complex) (t : Bool) → (complex_in_range c && t) ≡ true → OnSide c.series1 c.side1 × OnSide c.series2 c.side2
unfolding complex_in_range two_leg_in_range is_series is_side within
complex-sides c t z =
    let a = leb-true c.series1 7 (search (and_l, and_r, z) depth 14) in
    let b = leb-true c.side1 1 (search (and_l, and_r, z) depth 14) in
    let e = leb-true c.series2 7 (search (and_l, and_r, z) depth 14) in
    let f = leb-true c.side2 1 (search (and_l, and_r, z) depth 14) in
    (record { series = omega arith; side = omega arith }, record { series = omega arith; side = omega arith })

books-load : (v : Venue) → regulars_sound v ≡ true → complexes_sound v ≡ true → close_gaps v ≡ v → Stepped v → Loadable v
unfolding regulars_sound complexes_sound close_gaps with_regular with_complex
books-load v r c e steps =
    let a = arranged-out no_regular holds_regular _ blank_regular (λ o. o.id) blank-free (unfold blank_regular in refl) 0 v.regular r in
    let b = arranged-out no_complex holds_complex _ blank_complex (λ c. c.id) blank-free_c (unfold blank_complex in refl) 0 v.complex c in
    let p : packed holds_regular no_regular v.regular ≡ v.regular = ap (λ (w : Venue). w.regular) e in
    let q : packed holds_complex no_complex v.complex ≡ v.complex = ap (λ (w : Venue). w.complex) e in
    record {
      regulars = record { dense = a.dense; blank = rw p at (packed-free holds_regular no_regular v.regular); asked = λ i h. regular-asked v (get_or v.regular i no_regular) (a.asks i h) };
      complexes = record { dense = b.dense; blank = rw q at (packed-free holds_complex no_complex v.complex); asked = λ i h. complex-sides _ _ (b.asks i h) };
      orders = sound-orderly v r;
      shows = sound-fully v r;
      increments = steps;
    }

pub editions-dated : (v : Venue) → editions_sound v ≡ true → Dated v
unfolding editions_sound edition_in_range
editions-dated v h i w =
    let a = arranged-out no_edition holds_edition _ blank_edition (λ e. e.edition) edition-free (unfold blank_edition in refl) 0 v.editions (and_l _ _ h) in
    let z = a.asks i w in
    and_l _ _ (and_l _ _ z)

pub sound-loads : (v : Venue) → sound v ≡ true → Loadable v
unfolding sound
sound-loads v h =
    let r : regulars_sound v ≡ true = search (and_l, and_r, h) depth 10 in
    let c : complexes_sound v ≡ true = search (and_l, and_r, h) depth 10 in
    let e : editions_sound v ≡ true = search (and_l, and_r, h) depth 10 in
    books-load v r c (closed_same v r c) (dated-steps v (editions-dated v e))
