-- What is asked of a record, case by case: its part, whether it may stand where it does, and whether what it tells has a place.
use mathlib.Core.Path.{◌≡◌, refl, sym, ap}
use mathlib.Core.Bool.{Bool, true, false, not, ◌&&◌, ◌||◌}
use mathlib.Core.List.{List}
use Prim.Native.Nat.{ℕ, ◌≤◌, ◌<◌, ◌+◌, ◌-◌, ◌/◌, ◌%◌}
use native.Mathlib.Omega.{arith}
use lib.Dec.{eqb, leb}
use borrow.Author.Tests.{eq-eqb, ne_eqb, lt-ltb, le-ltb, le-leb, lt-leb, leb-true}
use Rattle.std.specs.Int.{from_bool}
use Rattle.rules.specs.Base.{held}
use Rattle.rules.specs.Words.{within, is_series, is_side, one_to_one, place_of}
use Rattle.rules.specs.Bytes.{kind_field, u8_at, u32_at}
use Rattle.rules.specs.Messages.{two_leg_at}
use Rattle.rules.proofs.Tests.{and_l, and_r}
use Rattle.sets.specs.Set.{part, sort_key, generation_told, tells_edition, tells_regular, tells_complex, tells_legging, tells_generation, of_whole, of_short, complex_told, has_place}
use Rattle.set_check.specs.declared.SetProgress.{SetProgress}
use Rattle.set_check.specs.Order.{opens, of_this, same_series, may_stand, is_next, run_with, few, one_if, opened_after, is_whole, onward}

or-none : (b : Bool) → (b || false) ≡ b
or-none true = refl
or-none false = refl

-- 1 for what is so
pub one_few : (b : Bool) → from_bool b ≤ 1
one_few true = omega arith
one_few false = omega arith

pub one_told : (b t : Bool) → b ≡ t → from_bool b ≡ one_if t
unfolding one_if
one_told true t e = ap one_if e
one_told false t e = ap one_if e

module _ (r : List ℕ) where
  -- Parts -------------------------------------------------------------------------------------

  pub part-edition : tells_edition r ≡ true → 1 ≡ part r
  unfolding part
  part-edition a = rw a

  pub part-regular : tells_edition r ≡ false → tells_regular r ≡ true → 2 ≡ part r
  unfolding part
  part-regular a b = rw (a, b)

  pub part-complex : tells_edition r ≡ false → tells_regular r ≡ false → tells_complex r ≡ true → 2 ≡ part r
  unfolding part
  part-complex a b c = rw (a, b, c)

  module _ (a : tells_edition r ≡ false) (b : tells_regular r ≡ false) (c : tells_complex r ≡ false) where
    pub part-legging : tells_legging r ≡ true → 3 ≡ part r
    unfolding part
    part-legging d = rw (a, b, c, d)

    pub part-generation : tells_legging r ≡ false → tells_generation r ≡ true → 4 ≡ part r
    unfolding part
    part-generation d e = rw (a, b, c, d, e)

    pub part-reached : tells_legging r ≡ false → tells_generation r ≡ false → kind_field r ≡ 84 → 5 ≡ part r
    unfolding part
    part-reached d e f = rw (a, b, c, d, e, eq-eqb (kind_field r) 84 f)

    pub part_none : tells_legging r ≡ false → tells_generation r ≡ false → (kind_field r ≡ 84 → ⊥) → 0 ≡ part r
    unfolding part
    part_none d e f = rw (a, b, c, d, e, ne_eqb (kind_field r) 84 f)

  -- Marks -------------------------------------------------------------------------------------

  pub sort-key-increment : (x : ℕ) → kind_field r ≡ 7 → x ≡ u32_at r 6 → x ≡ sort_key r
  unfolding sort_key
  sort-key-increment x e z = rw (eq-eqb (kind_field r) 7 e) z

  pub sort-key-percent : (x : ℕ) → kind_field r ≡ 8 → x ≡ u32_at r 5 → x ≡ sort_key r
  unfolding sort_key
  sort-key-percent x e z = rw (ne_eqb (kind_field r) 7 (λ w. omega arith), eq-eqb (kind_field r) 8 e) z

  module _ (a : kind_field r ≡ 7 → ⊥) (b : kind_field r ≡ 8 → ⊥) where
    pub sort-key-order : (x : ℕ) → part r ≡ 2 → x ≡ u32_at r 4 → x ≡ sort_key r
    unfolding sort_key
    sort-key-order x e z = rw (ne_eqb (kind_field r) 7 a, ne_eqb (kind_field r) 8 b, e) z

    pub sort-key-legging : (x : ℕ) → part r ≡ 3 → x ≡ place_of (u8_at r 8) (u8_at r 9) → x ≡ sort_key r
    unfolding sort_key
    sort-key-legging x e z = rw (ne_eqb (kind_field r) 7 a, ne_eqb (kind_field r) 8 b, e) z

    pub sort-key-none : (part r ≡ 2 → ⊥) → (part r ≡ 3 → ⊥) → (part r ≡ 4 → ⊥) → 0 ≡ sort_key r
    unfolding sort_key
    sort-key-none x y z = rw (ne_eqb (kind_field r) 7 a, ne_eqb (kind_field r) 8 b, ne_eqb (part r) 2 x, ne_eqb (part r) 3 y, ne_eqb (part r) 4 z)

    pub sort-key-generation : (x : ℕ) → part r ≡ 4 → x ≡ u8_at r 4 → x ≡ sort_key r
    unfolding sort_key
    sort-key-generation x e z = rw (ne_eqb (kind_field r) 7 a, ne_eqb (kind_field r) 8 b, e) z

  -- Kinds of this set ---------------------------------------------------------------------------

  pub whole-none : part r ≡ 0 → false ≡ of_whole r
  unfolding of_whole
  whole-none e = rw e

  pub whole-some : (k : ℕ) → k ≡ kind_field r → (part r ≡ 0 → ⊥) → not (eqb k 1) ≡ of_whole r
  unfolding of_whole
  whole-some k z e = rw (ne_eqb (part r) 0 e, z)

  pub short-legging : part r ≡ 3 → true ≡ of_short r
  unfolding of_short
  short-legging e = rw e

  pub short_none : (part r ≡ 3 → ⊥) → (part r ≡ 2 → ⊥) → false ≡ of_short r
  unfolding of_short
  short_none a b = rw (ne_eqb (part r) 2 b, ne_eqb (part r) 3 a)

  pub short-order : (k : ℕ) → k ≡ kind_field r → part r ≡ 2 → not (eqb k 9) ≡ of_short r
  unfolding of_short
  short-order k z e = rw (e, z) (sym (or-none (not (eqb (kind_field r) 9))))

  module _ (st : SetProgress) where
    pub this-whole : (t : Bool) → st.whole ≡ true → t ≡ of_whole r → t ≡ of_this st r
    unfolding of_this
    this-whole t w e = rw w e

    pub this-short : (t : Bool) → st.whole ≡ false → t ≡ of_short r → t ≡ of_this st r
    unfolding of_this
    this-short t w e = rw w e

    -- The first records -------------------------------------------------------------------------

    pub open-whole : st.opened ≡ 0 → kind_field r ≡ 80 → true ≡ opens st r
    unfolding opens
    open-whole e k = rw (eq-eqb st.opened 0 e, eq-eqb (kind_field r) 80 k)

    pub open-other : (k : ℕ) → st.opened ≡ 0 → k ≡ kind_field r → (k ≡ 80 → ⊥) → eqb k 81 ≡ opens st r
    unfolding opens
    open-other k e z n = rw (eq-eqb st.opened 0 e, ← z, ne_eqb k 80 n)

    module _ (k due : ℕ) (some : st.opened ≡ 0 → ⊥) (z : k ≡ kind_field r) (d : due ≡ 4 + st.opened % 2) where
      pub open-not : (k ≡ due → ⊥) → false ≡ opens st r
      unfolding opens
      open-not n = rw (ne_eqb st.opened 0 some, ← z, ← d, ne_eqb k due n)

      pub open-series : (x : ℕ) → k ≡ due → x ≡ u8_at r 4 → eqb x ((st.opened - 1) / 2) ≡ opens st r
      unfolding opens
      open-series x e w = rw (ne_eqb st.opened 0 some, ← z, ← d, eq-eqb k due e, ← w)

    -- Order -------------------------------------------------------------------------------------

    pub same_not : (st.part ≡ 4 → ⊥) → false ≡ same_series st r
    unfolding same_series
    same_not e = rw (ne_eqb st.part 4 e)

    pub same-so : (k : ℕ) → k ≡ sort_key r → st.part ≡ 4 → eqb st.key k ≡ same_series st r
    unfolding same_series
    same-so k z e = rw (eq-eqb st.part 4 e, z)

    pub stand-later : st.part < part r → true ≡ may_stand st r
    unfolding may_stand
    stand-later h = rw (lt-ltb st.part (part r) h)

    pub stand-earlier : part r ≤ st.part → (st.part ≡ part r → ⊥) → false ≡ may_stand st r
    unfolding may_stand
    stand-earlier h n = rw (le-ltb st.part (part r) h, ne_eqb st.part (part r) n)

    module _ (e : st.part ≡ part r) where
      pub stand-risen : st.key < sort_key r → true ≡ may_stand st r
      unfolding may_stand
      stand-risen h = rw (le-ltb st.part (part r) (omega arith), eq-eqb st.part (part r) e, lt-ltb st.key (sort_key r) h)

      pub stand-fallen : sort_key r ≤ st.key → same_series st r ≡ false → false ≡ may_stand st r
      unfolding may_stand
      stand-fallen h s = rw (le-ltb st.part (part r) (omega arith), eq-eqb st.part (part r) e, le-ltb st.key (sort_key r) h, s)

      pub stand-told : (k : ℕ) → sort_key r ≤ st.key → same_series st r ≡ true → k ≡ generation_told r → leb st.told k ≡ may_stand st r
      unfolding may_stand
      stand-told k h s z = rw (le-ltb st.part (part r) (omega arith), eq-eqb st.part (part r) e, le-ltb st.key (sort_key r) h, s, z)

    pub next-opens : (t : Bool) → st.opened < 17 → t ≡ opens st r → t ≡ is_next st r
    unfolding is_next
    next-opens t h e = rw (lt-ltb st.opened 17 h) e

    pub next-not : 17 ≤ st.opened → of_this st r ≡ false → false ≡ is_next st r
    unfolding is_next
    next-not h e = rw (le-ltb st.opened 17 h, e)

    pub next-stands : (t : Bool) → 17 ≤ st.opened → of_this st r ≡ true → t ≡ may_stand st r → t ≡ is_next st r
    unfolding is_next
    next-stands t h e z = rw (le-ltb st.opened 17 h, e) z

    pub run-same : (n : ℕ) → same_series st r ≡ true → n ≡ one_if (tells_generation r) → st.run + n ≡ run_with st r
    unfolding run_with
    run-same n e z = rw (e, z)

    pub run-other : (n : ℕ) → same_series st r ≡ false → n ≡ one_if (tells_generation r) → n ≡ run_with st r
    unfolding run_with
    run-other n e z = rw e z

-- Places ----------------------------------------------------------------------------------------

module _ (x y : ℕ) (z : x ≡ y) (b : Bool) where
  pub series-out : 7 < x → false ≡ (is_series y && b)
  unfolding is_series within
  series-out h = rw (le-leb 0 y (omega arith), lt-leb y 7 (omega arith))

  pub series-in : x ≤ 7 → (is_series y && b) ≡ b
  unfolding is_series within
  series-in h = rw (le-leb 0 y (omega arith), le-leb y 7 (omega arith))

-- what a legging order's record tells
module _ (r : List ℕ) (x : ℕ) (z : x ≡ u8_at r 8) where
  abbrev LeggingPlaced : Bool
  LeggingPlaced = is_series (u8_at r 8) && is_side (u8_at r 9) && held (u32_at r 14)

  pub legging-series : 7 < x → false ≡ LeggingPlaced
  unfolding is_series within
  legging-series h = rw (le-leb 0 (u8_at r 8) (omega arith), lt-leb (u8_at r 8) 7 (omega arith))

  module _ (y : ℕ) (w : y ≡ u8_at r 9) where
    pub legging-side : x ≤ 7 → 1 < y → false ≡ LeggingPlaced
    unfolding is_series is_side within
    legging-side h k = rw (le-leb 0 (u8_at r 8) (omega arith), le-leb (u8_at r 8) 7 (omega arith), le-leb 0 (u8_at r 9) (omega arith), lt-leb (u8_at r 9) 1 (omega arith))

    pub legging-quantity : (q : ℕ) → q ≡ u32_at r 14 → x ≤ 7 → y ≤ 1 → not (eqb q 0) ≡ LeggingPlaced
    unfolding is_series is_side within
    legging-quantity q v h k = rw (le-leb 0 (u8_at r 8) (omega arith), le-leb (u8_at r 8) 7 (omega arith), le-leb 0 (u8_at r 9) (omega arith), le-leb (u8_at r 9) 1 (omega arith), v)

-- what a complex order's record tells
module _ (r : List ℕ) (q : ℕ) (z : q ≡ u32_at r 17) where
  abbrev Placed : Bool
  Placed = held (u32_at r 17) && not (eqb (kind_field r) 10 && one_to_one (complex_told r))

  pub complex-free : q ≡ 0 → false ≡ Placed
  complex-free e = rw (eq-eqb (u32_at r 17) 0 (omega arith))

  module _ (some : q ≡ 0 → ⊥) where
    pub complex-pair : (kind_field r ≡ 10 → ⊥) → true ≡ Placed
    complex-pair n = rw (ne_eqb (u32_at r 17) 0 (λ w. some (omega arith)), ne_eqb (kind_field r) 10 n)

    pub complex-first : kind_field r ≡ 10 → (u8_at r 21 ≡ 1 → ⊥) → true ≡ Placed
    unfolding one_to_one complex_told two_leg_at
    complex-first e n = rw (ne_eqb (u32_at r 17) 0 (λ w. some (omega arith)), eq-eqb (kind_field r) 10 e, ne_eqb (u8_at r 21) 1 n)

    pub complex-second : (x : ℕ) → kind_field r ≡ 10 → u8_at r 21 ≡ 1 → x ≡ u8_at r 22 → not (eqb x 1) ≡ Placed
    unfolding one_to_one complex_told two_leg_at
    complex-second x e f w = rw (ne_eqb (u32_at r 17) 0 (λ v. some (omega arith)), eq-eqb (kind_field r) 10 e, eq-eqb (u8_at r 21) 1 f, w)

module _ (r : List ℕ) where
  pub placed-increment : (t : Bool) → kind_field r ≡ 7 → t ≡ (is_series (u8_at r 4) && held (u32_at r 6)) → t ≡ has_place r
  unfolding has_place
  placed-increment t e z = rw (eq-eqb (kind_field r) 7 e) z

  module _ (seven : kind_field r ≡ 7 → ⊥) where
    pub placed-percent : (q : ℕ) → kind_field r ≡ 8 → q ≡ u32_at r 5 → not (eqb q 0) ≡ has_place r
    unfolding has_place
    placed-percent q e z = rw (ne_eqb (kind_field r) 7 seven, eq-eqb (kind_field r) 8 e, z)

    module _ (eight : kind_field r ≡ 8 → ⊥) where
      pub placed-regular : (q : ℕ) → tells_regular r ≡ true → q ≡ u32_at r 14 → not (eqb q 0) ≡ has_place r
      unfolding has_place
      placed-regular q e z = rw (ne_eqb (kind_field r) 7 seven, ne_eqb (kind_field r) 8 eight, e, z)

      module _ (a : tells_regular r ≡ false) where
        pub placed-complex : (t : Bool) → tells_complex r ≡ true → t ≡ (held (u32_at r 17) && not (eqb (kind_field r) 10 && one_to_one (complex_told r))) → t ≡ has_place r
        unfolding has_place
        placed-complex t e z = rw (ne_eqb (kind_field r) 7 seven, ne_eqb (kind_field r) 8 eight, a, e) z

        module _ (b : tells_complex r ≡ false) where
          pub placed-legging : (t : Bool) → tells_legging r ≡ true → t ≡ (is_series (u8_at r 8) && is_side (u8_at r 9) && held (u32_at r 14)) → t ≡ has_place r
          unfolding has_place
          placed-legging t e z = rw (ne_eqb (kind_field r) 7 seven, ne_eqb (kind_field r) 8 eight, a, b, e) z

          module _ (c : tells_legging r ≡ false) where
            pub placed-generation : (t : Bool) → tells_generation r ≡ true → t ≡ (is_series (u8_at r 4) && held (u32_at r 5)) → t ≡ has_place r
            unfolding has_place
            placed-generation t e z = rw (ne_eqb (kind_field r) 7 seven, ne_eqb (kind_field r) 8 eight, a, b, c, e) z

            pub placed-other : tells_generation r ≡ false → (kind_field r ≡ 84 → ⊥) → true ≡ has_place r
            unfolding has_place
            placed-other e n = rw (ne_eqb (kind_field r) 7 seven, ne_eqb (kind_field r) 8 eight, a, b, c, e, ne_eqb (kind_field r) 84 n)

            pub placed-reached : (q : ℕ) → tells_generation r ≡ false → kind_field r ≡ 84 → q ≡ u32_at r 4 → not (eqb q 0) ≡ has_place r
            unfolding has_place
            placed-reached q e k z = rw (ne_eqb (kind_field r) 7 seven, ne_eqb (kind_field r) 8 eight, a, b, c, e, eq-eqb (kind_field r) 84 k, z)

-- Counts ----------------------------------------------------------------------------------------

module _ (st : SetProgress) where
  pub record Few : Type 0 where
    pub editions : st.editions ≤ 32
    pub regulars : st.regulars ≤ 128
    pub complexes : st.complexes ≤ 32
    pub leggings : st.leggings ≤ 16
    pub run : st.run ≤ 20

  pub few-in : Few → few st ≡ true
  unfolding few
  few-in f = rw (
    le-leb st.editions 32 f.editions,
    le-leb st.regulars 128 f.regulars,
    le-leb st.complexes 32 f.complexes,
    le-leb st.leggings 16 f.leggings,
    le-leb st.run 20 f.run,
  )

  pub few-out : few st ≡ true → Few
  unfolding few
  few-out z = record {
    editions = leb-true _ 32 (search (and_l, and_r, z) depth 6);
    regulars = leb-true _ 128 (search (and_l, and_r, z) depth 6);
    complexes = leb-true _ 32 (search (and_l, and_r, z) depth 6);
    leggings = leb-true _ 16 (search (and_l, and_r, z) depth 6);
    run = leb-true _ 20 (search (and_l, and_r, z) depth 6);
  }

  -- one that is too many
  pub few-not : (Few → ⊥) → false ≡ few st
  few-not n = go (few st) refl
    where
      go : (t : Bool) → few st ≡ t → false ≡ t
      go true e = absurd (n (few-out e))
      go false e = refl

  pub few-run : st.editions ≤ 32 → st.regulars ≤ 128 → st.complexes ≤ 32 → st.leggings ≤ 16 → leb st.run 20 ≡ few st
  unfolding few
  few-run a b c d = rw (le-leb st.editions 32 a, le-leb st.regulars 128 b, le-leb st.complexes 32 c, le-leb st.leggings 16 d)

  -- a standing made of its parts
  pub onward-made : (r : List ℕ) (a : ℕ) (b : Bool) (k m t e n x l u : ℕ) (p : Bool) → a ≡ opened_after st → b ≡ is_whole st r → k ≡ part r → m ≡ sort_key r → t ≡ generation_told r →
      e ≡ one_if (tells_edition r) → n ≡ one_if (tells_regular r) → x ≡ one_if (tells_complex r) → l ≡ one_if (tells_legging r) → u ≡ run_with st r → p ≡ (st.placed && has_place r) →
      ◌≡◌ {A = SetProgress} (record {
        opened = a;
        whole = b;
        part = k;
        key = m;
        told = t;
        editions = st.editions + e;
        regulars = st.regulars + n;
        complexes = st.complexes + x;
        leggings = st.leggings + l;
        run = u;
        placed = p;
      }) (onward st r)
  unfolding onward
  onward-made r a b k m t e n x l u p h₁ h₂ h₃ h₄ h₅ h₆ h₇ h₈ h₉ h₁₀ h₁₁ = rw (h₁, h₂, h₃, h₄, h₅, h₆, h₇, h₈, h₉, h₁₀, h₁₁)
