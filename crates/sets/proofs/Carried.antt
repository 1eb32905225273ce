-- A venue that may be carried: its held orders and editions, its legging places and its generations.
use mathlib.Core.Path.{◌≡◌, refl, sym, ap, ◌∙◌}
use mathlib.Core.Bool.{Bool, true, not, ◌&&◌, ◌||◌, true≢false}
use mathlib.Core.List.{List, [], ◌∷◌}
use Prim.Native.Nat.{ℕ, suc}
use native.Mathlib.Omega.{arith}
use lib.Dec.{leb}
use lib.ListN.{get_or, length}
use borrow.Author.Tests.{eqb-true, leb-true}
use Rattle.rules.specs.declared.Regular.{Regular}
use Rattle.rules.specs.declared.Complex.{Complex}
use Rattle.rules.specs.declared.Edition.{Edition}
use Rattle.rules.specs.declared.Generations.{Generations}
use Rattle.rules.specs.declared.Venue.{Venue}
use Rattle.rules.specs.Base.{all, held, keep}
use Rattle.rules.specs.Words.{no_complex, no_edition, no_generations, no_regular, with_complex, with_regular}
use Rattle.rules.specs.Records.{FourBytes}
use Rattle.rules.specs.Refusals.{complex_in_range, on_increment, regular_in_range}
use Rattle.rules.specs.Places.{arranged, blank_complex, blank_edition, blank_regular, close_gaps, holds_complex, holds_edition, holds_regular, packed}
use Rattle.rules.specs.Complex.{rests_complex}
use Rattle.rules.specs.Generation.{generations_of}
use Rattle.rules.specs.Sound.{complexes_sound, edition_in_range, editions_sound, generations_sound, ids_distinct, listed_in_range, regulars_sound, shows_fully, sound, unfallen}
use Rattle.rules.proofs.Arranging.{all-at, arranged-out, blank-free, blank-free_c, closed_same}
use Rattle.rules.proofs.Closing.{packed-id}
use Rattle.rules.proofs.Dating.{edition-free}
use Rattle.rules.proofs.Finding.{rests-in}
use Rattle.rules.proofs.Tests.{and_l, and_r, not-out}
use Rattle.demands.specs.Soundness.{Shaped}
use Rattle.sets.specs.Set.{complex_record, complex_told, edition_record, edition_told, places, regular_record, regular_told}
use Rattle.sets.proofs.Lists.{Each, Rising, each_more}
use Rattle.sets.proofs.Held.{arranged-kept, each-kept, places-are}
use Rattle.sets.proofs.Records.{complex-tells, edition-tells, regular-tells}
use Rattle.sets.proofs.Fine.{Fine, complex-fine, edition-fine, regular-fine}
use Rattle.sets.proofs.Merging.{Apart}
use Rattle.sets.proofs.Slots.{Placed, all_placed}
use Rattle.sets.proofs.Numbers.{Counted}

-- a list of held places, whose records are of part k, marked by a number that rises from above 0 on, and told back
pub record Held {A : Type 0} (k : ℕ) (mark : A → ℕ) (make : A → List ℕ) (told : List ℕ → A) (l : List A) : Type 0 where
  pub rises : Rising mark 1 l
  pub fine : Each (λ x. Fine k (mark x) (make x)) l
  pub back : Each (λ x. told (make x) ≡ x) l

pub record Carried (v : Venue) : Type 0 where
  pub regular : Held 2 (λ o. o.id) regular_record regular_told (keep holds_regular v.regular)
  pub complex : Held 2 (λ c. c.id) complex_record complex_told (keep holds_complex v.complex)
  pub editions : Held 1 (λ e. e.edition) edition_record edition_told (keep holds_edition v.editions)
  pub regular-places : places 128 no_regular (keep holds_regular v.regular) ≡ v.regular
  pub complex-places : places 32 no_complex (keep holds_complex v.complex) ≡ v.complex
  pub edition-places : places 32 no_edition (keep holds_edition v.editions) ≡ v.editions
  pub distinct : Apart (keep holds_regular v.regular) (keep holds_complex v.complex)
  pub legging : Each Placed v.legging
  pub series : Each (λ x. listed_in_range x ≡ true) v.series
  pub generations : Each Counted v.generations
  pub last : FourBytes v.last
  pub reached : FourBytes v.reached

-- Books ---------------------------------------------------------------------------------------

regular-held : (v : Venue) → regulars_sound v ≡ true → Held 2 (λ o. o.id) regular_record regular_told (keep holds_regular v.regular)
unfolding regulars_sound
regular-held v h =
    let asked : Regular → Bool = λ o. regular_in_range o && on_increment v o && shows_fully o && leb o.id v.last in
    let k = arranged-kept holds_regular asked blank_regular (λ o. o.id) blank-free 0 v.regular h in
    record {
      rises = k.rises;
      fine = each_more (λ o. (holds_regular o ≡ true) × (asked o ≡ true)) (λ o. Fine 2 o.id (regular_record o))
          (λ o z. (let y = z.1 in regular-fine o (search (and_l, and_r, y) depth 5) z.0)) (keep holds_regular v.regular) k.asks;
      back = each_more (λ o. (holds_regular o ≡ true) × (asked o ≡ true)) (λ o. regular_told (regular_record o) ≡ o)
          (λ o z. (let y = z.1 in regular-tells o (search (and_l, and_r, y) depth 5) (search (and_l, and_r, y) depth 5)))
          (keep holds_regular v.regular) k.asks;
    }

complex-held : (v : Venue) → complexes_sound v ≡ true → Held 2 (λ c. c.id) complex_record complex_told (keep holds_complex v.complex)
unfolding complexes_sound
complex-held v h =
    let asked : Complex → Bool = λ c. complex_in_range c && leb c.id v.last in
    let k = arranged-kept holds_complex asked blank_complex (λ c. c.id) blank-free_c 0 v.complex h in
    record {
      rises = k.rises;
      fine = each_more (λ c. (holds_complex c ≡ true) × (asked c ≡ true)) (λ c. Fine 2 c.id (complex_record c))
          (λ c z. complex-fine c (and_l (complex_in_range c) (leb c.id v.last) z.1) z.0) (keep holds_complex v.complex) k.asks;
      back = each_more (λ c. (holds_complex c ≡ true) × (asked c ≡ true)) (λ c. complex_told (complex_record c) ≡ c)
          (λ c z. complex-tells c (and_l (complex_in_range c) (leb c.id v.last) z.1)) (keep holds_complex v.complex) k.asks;
    }

editions-held : (v : Venue) → editions_sound v ≡ true → Held 1 (λ e. e.edition) edition_record edition_told (keep holds_edition v.editions)
unfolding editions_sound
editions-held v h =
    let k = arranged-kept holds_edition edition_in_range blank_edition (λ e. e.edition) edition-free 0 v.editions
    (and_l _ (arranged holds_edition (λ _. true) blank_edition (λ e. e.message) 0 v.editions) h) in
    record {
      rises = k.rises;
      fine = each_more (λ e. (holds_edition e ≡ true) × (edition_in_range e ≡ true)) (λ e. Fine 1 e.edition (edition_record e))
          (λ e z. edition-fine e z.1 z.0) (keep holds_edition v.editions) k.asks;
      back = each_more (λ e. (holds_edition e ≡ true) × (edition_in_range e ≡ true)) (λ e. edition_told (edition_record e) ≡ e)
          (λ e z. (edition-tells e z.1).tells) (keep holds_edition v.editions) k.asks;
    }

blank-edition : (e : Edition) → blank_edition e ≡ true → e ≡ no_edition
unfolding blank_edition
blank-edition e z =
    let a = eqb-true e.edition 0 (search (and_l, and_r, z) depth 5) in
    let b = eqb-true e.message 0 (search (and_l, and_r, z) depth 5) in
    let c = eqb-true e.figure 0 (search (and_l, and_r, z) depth 5) in
    let d = eqb-true e.value 0 (search (and_l, and_r, z) depth 5) in
    rw (a, b, c, d)

editions-packed : (v : Venue) → editions_sound v ≡ true → packed holds_edition no_edition v.editions ≡ v.editions
unfolding editions_sound
editions-packed v h =
    let a = arranged-out no_edition holds_edition edition_in_range blank_edition (λ e. e.edition) edition-free (unfold blank_edition in refl) 0
    v.editions (and_l _ (arranged holds_edition (λ _. true) blank_edition (λ e. e.message) 0 v.editions) h) in
    packed-id holds_edition no_edition refl v.editions a.dense (λ i h. blank-edition _ (a.blanks i h))

books-packed : (v : Venue) → close_gaps v ≡ v → (packed holds_regular no_regular v.regular ≡ v.regular) × (packed holds_complex no_complex v.complex ≡ v.complex)
unfolding close_gaps with_regular with_complex
books-packed v h = (ap (λ (w : Venue). w.regular) h, ap (λ (w : Venue). w.complex) h)

-- no id rests in both books
books-apart : (v : Venue) → ids_distinct v ≡ true → Apart (keep holds_regular v.regular) (keep holds_complex v.complex)
unfolding ids_distinct
books-apart v h = each-kept holds_regular no_regular (λ o. Each (λ c. o.id ≡ c.id → ⊥) (keep holds_complex v.complex)) v.regular (λ i e. one i e)
  where
    test : Regular → Bool
    test o = not (held o.quantity) || not (rests_complex v o.id)

    one : (i : ℕ) → holds_regular (get_or v.regular i no_regular) ≡ true → Each (λ c. (get_or v.regular i no_regular).id ≡ c.id → ⊥) (keep holds_complex v.complex)
    one i e =
        let o = get_or v.regular i no_regular in
        let f = not-out (rests_complex v o.id) (rw e at (all-at test no_regular v.regular refl h i)) in
        each-kept holds_complex no_complex (λ c. o.id ≡ c.id → ⊥) v.complex (λ j d q. true≢false (sym (rests-in v j d) ∙ ap (rests_complex v) (sym q) ∙ f))

-- Generations ---------------------------------------------------------------------------------

each-counted : (gs : List Generations) → ((s : ℕ) → length (get_or gs s no_generations).messages ≡ 20) → all
    (λ g. unfallen 0 g.messages && all (λ n. leb n 4294967295) g.messages) gs ≡ true → Each Counted gs
unfolding all
each-counted [] t h = tt
each-counted (g ∷ gs) t h =
    let test : Generations → Bool = λ g. unfallen 0 g.messages && all (λ n. leb n 4294967295) g.messages in
    let z = and_l (test g) (all test gs) h in (
      record {
        rises = and_l (unfallen 0 g.messages) (all (λ n. leb n 4294967295) g.messages) z;
        fits = and_r (unfallen 0 g.messages) (all (λ n. leb n 4294967295) g.messages) z;
        twenty = t 0;
      },
      each-counted gs (λ s. t (suc s)) (and_r (test g) (all test gs) h),
    )

all-each : {A : Type 0} (f : A → Bool) (l : List A) → all f l ≡ true → Each (λ x. f x ≡ true) l
unfolding all
all-each f [] h = tt
all-each f (x ∷ l) h = (and_l (f x) (all f l) h, all-each f l (and_r (f x) (all f l) h))

-- All of it -----------------------------------------------------------------------------------

pub carried : (v : Venue) → Shaped v → sound v ≡ true → Carried v
unfolding sound generations_sound generations_of
carried v w z =
    let r : regulars_sound v ≡ true = search (and_l, and_r, z) depth 12 in
    let c : complexes_sound v ≡ true = search (and_l, and_r, z) depth 12 in
    let e : editions_sound v ≡ true = search (and_l, and_r, z) depth 12 in
    let p = books-packed v (closed_same v r c) in
    let l = leb-true v.last 4294967295 (search (and_l, and_r, z) depth 12) in
    let i = leb-true v.reached v.last (search (and_l, and_r, z) depth 12) in
    record {
      regular = regular-held v r;
      complex = complex-held v c;
      editions = editions-held v e;
      regular-places = places-are holds_regular no_regular v.regular 128 w.regular p.0;
      complex-places = places-are holds_complex no_complex v.complex 32 w.complex p.1;
      edition-places = places-are holds_edition no_edition v.editions 32 w.editions (editions-packed v e);
      distinct = books-apart v (search (and_l, and_r, z) depth 12);
      legging = all_placed v 0 v.legging (search (and_l, and_r, z) depth 12);
      series = all-each listed_in_range v.series (search (and_l, and_r, z) depth 12);
      generations = each-counted v.generations w.twenty (search (and_l, and_r, z) depth 12);
      last = omega arith;
      reached = omega arith;
    }
