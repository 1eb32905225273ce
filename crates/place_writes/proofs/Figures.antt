-- The figures in force, counted from the editions; and an edition at a place.
use Rattle.std.specs.Prelude.{if◌then◌else◌}
use mathlib.Core.Path.{◌≡◌, refl, sym, ap, ◌∙◌}
use mathlib.Core.Bool.{Bool, true, false, ◌&&◌, true≢false}
use mathlib.Core.Logic.{◌≢◌, ◌⊎◌, inl, inr}
use mathlib.Core.List.{List, [], ◌∷◌, ◌++◌}
use Prim.Native.Nat.{ℕ, zero, suc, ◌+◌, ◌*◌, ◌%◌, ◌≤◌, ◌<◌}
use native.Mathlib.Omega.{arith}
use native.Mathlib.Decide.{ℕ_discrete}
use native.Mathlib.Numerals.{add-one}
use borrow.Author.Tests.{eqb-true, eq-eqb, ne_eqb}
use lib.Dec.{eqb, ltb}
use lib.ListN.{length, get_or, set, take, length-set}
use lib.Seq.{get_or-set_same, get_or-set_other, take-suc, take_all}
use lib.Seq.{sets as row}
use Rattle.rules.specs.declared.Edition.{Edition}
use Rattle.rules.specs.declared.Venue.{Venue}
use Rattle.rules.specs.Base.{held}
use Rattle.rules.specs.Words.{no_edition, with_editions}
use Rattle.rules.specs.Places.{holds_edition}
use Rattle.rules.specs.Settings.{base_figure, sets, last_value, figure_now}
use Rattle.rules.proofs.Cases.{if-by}
use Rattle.places.specs.Layout.{size, edition_in, venue_of, edition_row, figure_in, Figured, FiguresBase, FigureSet, FiguresCounted, SameCounts}
use Rattle.places.specs.Offsets.{edition_number_at, edition_next_at, figures_at, regular_reserve_at}
use Rattle.places.proofs.Tables.{upto-length, upto-at}
use Rattle.places.proofs.Parts.{Outside, wider, count_kept, count-kept2, regulars-kept, edition-kept, edition-set}
use Rattle.places.proofs.Beside.{levels-kept, regulars-marked, complexes-marked, legging-marked, shows-marked, beside-venue, right_kept}
use Rattle.place_writes.proofs.Stores.{sets-outside, edition-back}

-- What is counted -----------------------------------------------------------------------------

-- a store into the figures alone
pub record Aside (a b : List ℕ) : Type 0 where
  pub long : length b ≡ size
  pub others : (k : ℕ) → (k < figures_at) ⊎ (regular_reserve_at ≤ k) → get_or b k 0 ≡ get_or a k 0

pub aside-outside : (a b : List ℕ) → Aside a b → Outside figures_at regular_reserve_at a b
aside-outside a b h = record { same = h.others }

-- a figure's number is no other
apart : (f k : ℕ) → f < 9 → (k < figures_at) ⊎ (regular_reserve_at ≤ k) → k ≢ 2 * f + figures_at
apart f k h (inl w) e = omega arith
apart f k h (inr w) e = omega arith

aside-set : (a b : List ℕ) (f x : ℕ) → f < 9 → Aside a b → Aside a (set b (2 * f + figures_at) x)
aside-set a b f x lt h = record {
  long = length-set b (2 * f + figures_at) x ∙ h.long;
  others = λ k w. get_or-set_other b (2 * f + figures_at) k x 0 (apart f k lt w) ∙ h.others k w;
}

-- a figure anew
figure-new : (b : List ℕ) (f x : ℕ) → length b ≡ size → f < 9 → x < 256 → figure_in (set b (2 * f + figures_at) x) f ≡ x
unfolding figure_in
figure-new b f x n h w = ap (λ (y : ℕ). y % 256) (get_or-set_same b (2 * f + figures_at) x 0 (omega arith)) ∙ omega arith

figure-old : (b : List ℕ) (f g x : ℕ) → g ≢ f → figure_in (set b (2 * f + figures_at) x) g ≡ figure_in b g
unfolding figure_in
figure-old b f g x h = ap (λ (y : ℕ). y % 256) (get_or-set_other b (2 * f + figures_at) (2 * g + figures_at) x 0 (λ e. h (omega arith)))

-- Edition 0 -----------------------------------------------------------------------------------

-- the first f figures are those of edition 0
pub record Based (a b : List ℕ) (f : ℕ) : Type 0 where
  pub aside : Aside a b
  pub base : (g : ℕ) → g < f → figure_in b g ≡ base_figure g

pub based-first : (a : List ℕ) → length a ≡ size → Based a a 0
based-first a n = record { aside = record { long = n; others = λ k w. refl }; base = λ g w. absurd (omega arith) }

base-small : (f : ℕ) → base_figure f < 256
unfolding base_figure
base-small f = if-by (λ x. x < 256) (ltb f 6) (λ _. omega arith) (λ _. if-by (λ x. x < 256) (ltb f 8) (λ _. omega arith) (λ _. omega arith))

pub based-next : (a b : List ℕ) (f x : ℕ) → Based a b f → f < 9 → x ≡ base_figure f → Based a (set b (2 * f + figures_at) x) (f + 1)
based-next a b f x m lt e = record {
  aside = aside-set a b f x lt m.aside;
  base = λ g h. elim (ℕ_discrete g f) [
    | yes q ↦ ap (figure_in (set b (2 * f + figures_at) x)) q ∙ figure-new b f x m.aside.long lt (let z = base-small f in omega arith) ∙ e ∙ sym (ap base_figure q)
    | no q ↦ figure-old b f g x q ∙ m.base g (omega arith)
  ];
}

pub based-last : (a b : List ℕ) (f : ℕ) → Based a b f → 9 ≤ f → FiguresBase a b
based-last a b f m h = record { others = m.aside.others; figures = λ g w. m.base g (omega arith) }

-- An edition's --------------------------------------------------------------------------------

-- a free place sets no figure, and no edition sets one past the last
pub none-set : (e : Edition) (a : List ℕ) → e.edition ≡ 0 → FigureSet e a a
unfolding sets
none-set e a h = record { others = λ k w. refl; figures = λ f w. rw h refl }

pub past-set : (e : Edition) (a : List ℕ) → 8 < e.figure → FigureSet e a a
unfolding sets
past-set e a h = record { others = λ k w. refl; figures = λ f w. sym (ap (λ (t : Bool). if t then e.value else figure_in a f) (other (held e.edition) f w)) }
  where
    other : (t : Bool) (f : ℕ) → f < 9 → (t && eqb e.figure f) ≡ false
    other true f w = ne_eqb e.figure f (λ q. omega arith)
    other false f w = refl

pub figure-set : (e : Edition) (a : List ℕ) → length a ≡ size → held e.edition ≡ true → e.figure < 9 → e.value < 256 → FigureSet e a (set a (2 * e.figure + figures_at) e.value)
unfolding sets
figure-set e a n h few w = record {
  others = λ k l. get_or-set_other a (2 * e.figure + figures_at) k e.value 0 (apart e.figure k few l);
  figures = λ f l. rw h (go f (eqb e.figure f) refl);
}
  where
    go : (f : ℕ) (t : Bool) → eqb e.figure f ≡ t → figure_in (set a (2 * e.figure + figures_at) e.value) f ≡ (if t then e.value else figure_in a f)
    go f true q = ap (figure_in (set a (2 * e.figure + figures_at) e.value)) (sym (eqb-true e.figure f q)) ∙ figure-new a e.figure e.value n few w
    go f false q = figure-old a e.figure f e.value (λ p. differ p q)
      where
        differ : f ≡ e.figure → eqb e.figure f ≡ false → ⊥
        differ p z = true≢false (sym (eq-eqb e.figure f (sym p)) ∙ z)

-- All of them ---------------------------------------------------------------------------------

-- one edition more
last_more : (f x : ℕ) (es : List Edition) (e : Edition) → last_value f x (es ++ (e ∷ [])) ≡ (if sets f e then e.value else last_value f x es)
unfolding last_value
last_more f x [] e = refl
last_more f x (y ∷ es) e = last_more f (if sets f y then y.value else x) es e

-- the figures are those of the first i editions
pub record Counting (a b : List ℕ) (i : ℕ) : Type 0 where
  pub aside : Aside a b
  pub so : (f : ℕ) → f < 9 → figure_in b f ≡ last_value f (base_figure f) (take i (venue_of a).editions)

pub counting-first : (a b : List ℕ) → length b ≡ size → FiguresBase a b → Counting b b 0
unfolding last_value
counting-first a b n h = record { aside = record { long = n; others = λ k w. refl }; so = h.figures }

edition-at : (a : List ℕ) (i : ℕ) → i < 32 → get_or (venue_of a).editions i no_edition ≡ edition_in a i
unfolding venue_of
edition-at a i h = upto-at (edition_in a) no_edition 0 32 i h ∙ ap (edition_in a) (omega arith)

pub editions-many : (a : List ℕ) → length (venue_of a).editions ≡ 32
unfolding venue_of
editions-many a = upto-length (edition_in a) 0 32

pub counting-next : (a b c : List ℕ) (i : ℕ) (e : Edition) → length c ≡ length b → Counting a b i → i < 32 → e ≡ edition_in b i → FigureSet e b c → Counting a c (i + 1)
counting-next a b c i e l m h is s = record {
  aside = record { long = l ∙ m.aside.long; others = λ k w. s.others k w ∙ m.aside.others k w };
  so = λ f w. s.figures f w ∙ ap (λ (x : ℕ). if sets f e then e.value else x) (m.so f w) ∙ sym (last_more f (base_figure f) (take i es) e)
      ∙ ap (λ (y : Edition). last_value f (base_figure f) (take i es ++ (y ∷ []))) here
      ∙ sym (ap (last_value f (base_figure f)) (take-suc es i no_edition (omega (arith, editions-many a))))
      ∙ sym (ap (λ (k : ℕ). last_value f (base_figure f) (take k es)) (add-one i));
}
  where
    es : List Edition
    es = (venue_of a).editions

    here : e ≡ get_or es i no_edition
    here = is ∙ sym (edition-kept (aside-outside a b m.aside) i (inl (omega arith))) ∙ sym (edition-at a i h)

pub counting-last : (first a b : List ℕ) (i : ℕ) → FiguresBase first a → Counting a b i → 32 ≤ i → FiguresCounted first b
unfolding figure_now
counting-last first a b i base m h = record {
  others = λ k w. m.aside.others k w ∙ base.others k w;
  figures = λ f w. m.so f w ∙ ap (last_value f (base_figure f)) (take_all i (venue_of a).editions (omega (arith, editions-many a)))
      ∙ ap (λ (v : Venue). last_value f (base_figure f) v.editions) (sym (beside-venue (aside-outside a b m.aside) (omega arith) (inr (omega arith)) (inr (omega arith)) (omega arith)));
}

-- An edition at a place -----------------------------------------------------------------------

pub counted-outside : (a b : List ℕ) → FiguresCounted a b → Outside figures_at regular_reserve_at a b
counted-outside a b h = record { same = h.others }

last_some : (s y x : ℕ) (es : List Edition) → (0 < y) ⊎ (y ≡ x) → 0 < last_value s x es → 0 < last_value s y es
unfolding last_value
last_some s y x [] (inl h) k = h
last_some s y x [] (inr h) k = rw h k
last_some s y x (e ∷ es) h k = last_some s (if sets s e then e.value else y) (if sets s e then e.value else x) es (go (sets s e) h) k
  where
    go : (t : Bool) → (0 < y) ⊎ (y ≡ x) → (0 < (if t then e.value else y)) ⊎ ((if t then e.value else y) ≡ (if t then e.value else x))
    go true p = inr refl
    go false p = p

-- an increment that comes into force at a free place is some number of cents
some-set : (s x : ℕ) (es : List Edition) (i : ℕ) (e : Edition) → s < 8 → (0 < e.value) ⊎ (7 < e.figure) → sets s (get_or es i no_edition) ≡ false →
    0 < last_value s x es → 0 < last_value s x (set es i e)
unfolding last_value sets
some-set s x [] i e h v free k = k
some-set s x (y ∷ es) zero e h v free k = last_some s _ x es (value v) (rw free at k)
  where
    value : (0 < e.value) ⊎ (7 < e.figure) → (0 < (if sets s e then e.value else x)) ⊎ ((if sets s e then e.value else x) ≡ x)
    value (inl w) = if-by (λ z. (0 < z) ⊎ (z ≡ x)) (sets s e) (λ _. inl w) (λ _. inr refl)
    value (inr w) = inr (ap (λ (t : Bool). if t then e.value else x) (other (held e.edition)))
      where
        other : (t : Bool) → (t && eqb e.figure s) ≡ false
        other true = ne_eqb e.figure s (λ q. omega arith)
        other false = refl
some-set s x (y ∷ es) (suc i) e h v free k = some-set s (if sets s y then y.value else x) es i e h v free k

pub put-edition : (a b c : List ℕ) (i : ℕ) (e : Edition) → length a ≡ size → i < 32 → e.figure < 256 → e.value < 256 → holds_edition (edition_in a i) ≡ false → (0 < e.value) ⊎ (7 < e.figure) →
    b ≡ row a (4 * i + edition_number_at) (edition_row e) → FiguresCounted b c →
    (venue_of c ≡ with_editions (venue_of a) (set (venue_of a).editions i e)) × SameCounts a c
put-edition a b c i e n h w x free val is k = (
  venue,
  record {
    regulars = count_kept p (inl (omega arith)) ∙ count_kept o (inl (omega arith));
    complexes = count-kept2 p (inl (omega arith)) ∙ count-kept2 o (inl (omega arith));
    right = right_kept a c (λ m y. levels-kept p (inl (omega arith)) m y ∙ levels-kept o (inl (omega arith)) m y)
        (regulars-kept p (omega arith) (inr (omega arith)) (inl (omega arith)) ∙ regulars-kept o (omega arith) (inr (omega arith)) (inl (omega arith)))
        (λ m. record {
          regulars = regulars-marked p (omega arith) (inl (omega arith)) (inl (omega arith)) (regulars-marked o (omega arith) (inl (omega arith)) (inl (omega arith)) m.regulars);
          complexes = complexes-marked p (inr (omega arith)) (inl (omega arith)) (inl (omega arith)) (complexes-marked o (inr (omega arith)) (inl (omega arith)) (inl (omega arith)) m.complexes);
          legging = legging-marked p (inr (omega arith)) (inl (omega arith)) (legging-marked o (inr (omega arith)) (inl (omega arith)) m.legging);
          figures = record { so = k.figures; some = λ s y. some s y m.figures };
          shows = shows-marked p (omega arith) (omega arith) (inl (omega arith)) (shows-marked o (omega arith) (omega arith) (inl (omega arith)) m.shows);
        });
  },
)
  where
    wide : Outside (4 * i + edition_number_at) (4 * i + edition_next_at) a (row a (4 * i + edition_number_at) (edition_row e))
    wide = unfold edition_row in wider (omega arith) (omega arith) (sets-outside a (4 * i + edition_number_at) (e.edition ∷ e.message ∷ e.figure ∷ e.value ∷ []))

    o : Outside (4 * i + edition_number_at) (4 * i + edition_next_at) a b
    o = rw is wide

    p : Outside figures_at regular_reserve_at b c
    p = counted-outside b c k

    venue : venue_of c ≡ with_editions (venue_of a) (set (venue_of a).editions i e)
    venue = beside-venue p (omega arith) (inr (omega arith)) (inr (omega arith)) (omega arith) ∙ edition-set o h
        ∙ ap (λ (y : Edition). with_editions (venue_of a) (set (venue_of a).editions i y)) (ap (λ (m : List ℕ). edition_in m i) is ∙ edition-back a i e n h w x)

    unset : (s : ℕ) → sets s (get_or (venue_of a).editions i no_edition) ≡ false
    unset s = unfold sets in rw (edition-at a i h, free) refl

    new : (s : ℕ) → figure_now (venue_of c) s ≡ last_value s (base_figure s) (set (venue_of a).editions i e)
    new s = unfold figure_now with_editions in rw venue refl

    old : (s : ℕ) → figure_now (venue_of a) s ≡ last_value s (base_figure s) (venue_of a).editions
    old s = unfold figure_now in refl

    some : (s : ℕ) → s < 8 → Figured a → 0 < figure_in c s
    some s y m =
        let was : 0 < last_value s (base_figure s) (venue_of a).editions = rw (m.so s (omega arith), old s) at (m.some s y) in
        rw (k.figures s (omega arith), new s) (some-set s (base_figure s) (venue_of a).editions i e y val (unset s) was)
