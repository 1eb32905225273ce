-- The kinds of a set's records: their lengths, what each tells, and its part.
use Rattle.std.specs.Prelude.{if◌then◌else◌}
use mathlib.Core.Path.{◌≡◌, refl, sym, ap, ◌∙◌}
use mathlib.Core.Bool.{Bool, true, false, ◌||◌}
use mathlib.Core.List.{List}
use Prim.Native.Nat.{ℕ, ◌≤◌, ◌<◌, ◌+◌}
use native.Mathlib.Decide.{ℕ_discrete}
use native.Mathlib.Omega.{arith}
use lib.Dec.{eqb}
use lib.ListN.{length, drop}
use lib.Seq.{drop-drop}
use borrow.Author.Tests.{eqb-true, eqb-false, eq-eqb, ne_eqb}
use Rattle.rules.specs.Bytes.{kind_field}
use Rattle.rules.specs.Bytes.{u16_at, length_field}
use Rattle.rules.specs.Messages.{length_of}
use Rattle.rules.specs.Refusals.{torn}
use Rattle.rules.proofs.RefusalsLaws.{whole}
use Rattle.wire.proofs.Numbers.{u16-here}
use Rattle.reader.specs.declared.Head.TheVariants.{End, Torn, Message}
use Rattle.reader.specs.Head.{head_of, head_length}
use Rattle.set_check.specs.declared.Front.TheVariants.{Broken, Record}
use Rattle.set_check.specs.declared.Front.TheVariants as F
use Rattle.set_check.specs.Order.{front_of}
use Rattle.sets.specs.Set.{set_length, tells_regular, tells_complex}

-- Lengths -------------------------------------------------------------------------------------

module _ (k : ℕ) where
  -- kinds whose record is the message
  pub length-same : k ≤ 10 → (k ≡ 3 → ⊥) → (k ≡ 6 → ⊥) → (k ≡ 7 → ⊥) → (k ≡ 8 → ⊥) → length_of k ≡ set_length k
  unfolding length_of set_length
  length-same h a b c d =
      simp (
        ne_eqb k 3 a,
        ne_eqb k 6 b,
        ne_eqb k 7 c,
        ne_eqb k 8 d,
        ne_eqb k 11 (λ e. omega arith),
        ne_eqb k 80 (λ e. omega arith),
        ne_eqb k 81 (λ e. omega arith),
        ne_eqb k 82 (λ e. omega arith),
        ne_eqb k 83 (λ e. omega arith),
        ne_eqb k 84 (λ e. omega arith),
      )

  -- what is none of the set's
  pub length_none : 10 < k → (k ≡ 80 → ⊥) → (k ≡ 81 → ⊥) → (k ≡ 82 → ⊥) → (k ≡ 83 → ⊥) → (k ≡ 84 → ⊥) → 0 ≡ set_length k
  unfolding set_length
  length_none h a b c d e =
      simp (
        ne_eqb k 1 (λ z. omega arith),
        ne_eqb k 2 (λ z. omega arith),
        ne_eqb k 4 (λ z. omega arith),
        ne_eqb k 5 (λ z. omega arith),
        ne_eqb k 7 (λ z. omega arith),
        ne_eqb k 8 (λ z. omega arith),
        ne_eqb k 9 (λ z. omega arith),
        ne_eqb k 10 (λ z. omega arith),
        ne_eqb k 80 a,
        ne_eqb k 81 b,
        ne_eqb k 82 c,
        ne_eqb k 83 d,
        ne_eqb k 84 e,
      )

  pub length-first : (t : Bool) → eqb k 80 ≡ t → 80 ≤ k → k ≤ 81 → 12 ≡ set_length k
  unfolding set_length
  length-first true e h l = let z : k ≡ 80 = eqb-true k 80 e in sym (ap set_length z)
  length-first false e h l = let n = eqb-false k 80 e in let z : k ≡ 81 = omega arith in sym (ap set_length z)

-- One of two kinds -----------------------------------------------------------------------------

module _ (j k a b : ℕ) (same : j ≡ k) where
  pub one_of_two : ((j ≡ a → ⊥) → j ≡ b) → true ≡ (eqb k a || eqb k b)
  one_of_two e = elim (ℕ_discrete j a) [
    | yes z ↦ rw (← same, eq-eqb j a z)
    | no z ↦ rw (← same, ne_eqb j a z, eq-eqb j b (e z))
  ]

  pub neither : (j ≡ a → ⊥) → (j ≡ b → ⊥) → false ≡ (eqb k a || eqb k b)
  neither e f = rw (← same, ne_eqb j a e, ne_eqb j b f)

-- What stands in front ------------------------------------------------------------------------

empty-torn : (bs : List ℕ) → length bs ≡ 0 → torn bs ≡ true
unfolding torn
empty-torn bs e = rw e

module _ (bs : List ℕ) where
  pub front-ended : length_field bs ≡ 0 → F.End ≡ front_of bs
  unfolding front_of
  front-ended e = rw (eq-eqb (length_field bs) 0 e)

  module _ (some : length_field bs ≡ 0 → ⊥) where
    front-torn : torn bs ≡ true → Broken ≡ front_of bs
    unfolding front_of
    front-torn t = rw (ne_eqb (length_field bs) 0 some, t)

    pub front-no-head : head_length (head_of bs) ≡ 0 → Broken ≡ front_of bs
    unfolding head_of
    front-no-head = go (eqb (length bs) 0) (torn bs) refl refl
      where
        go : (z t : Bool) → eqb (length bs) 0 ≡ z → torn bs ≡ t → head_length (if z then End else if t then Torn else Message (length_field bs)) ≡ 0 → Broken ≡ front_of bs
        go true t e f h = front-torn (empty-torn bs (eqb-true (length bs) 0 e))
        go false true e f h = front-torn f
        go false false e f h = absurd (some h)

  pub record Whole (n : ℕ) : Type 0 where
    pub here : n ≡ length_field bs
    pub four : 4 ≤ n
    pub fits : n ≤ length bs
    pub untorn : torn bs ≡ false

  pub front-head : (n : ℕ) → n ≡ head_length (head_of bs) → (n ≡ 0 → ⊥) → Whole n
  unfolding head_of
  front-head n = go (eqb (length bs) 0) (torn bs) refl
    where
      go : (z t : Bool) → torn bs ≡ t → n ≡ head_length (if z then End else if t then Torn else Message (length_field bs)) → (n ≡ 0 → ⊥) → Whole n
      go true t f h s = absurd (s h)
      go false true f h s = absurd (s h)
      go false false f h s = let w = whole bs f in let a = w.0 in let b = w.1 in record { here = h; four = omega arith; fits = omega arith; untorn = f }

  module _ (n : ℕ) (w : Whole n) (k : ℕ) (e : k ≡ set_length (kind_field bs)) where
    pub front-other : (n ≡ k → ⊥) → Broken ≡ front_of bs
    unfolding front_of
    front-other d = let a = w.here in let b = w.four in rw (ne_eqb (length_field bs) 0 (λ z. omega arith), w.untorn, ← e, ← w.here, ne_eqb n k d)

    pub front-record : n ≡ k → Record n ≡ front_of bs
    unfolding front_of
    front-record d = let a = w.here in let b = w.four in rw (ne_eqb (length_field bs) 0 (λ z. omega arith), w.untorn, ← e, ← w.here, eq-eqb n k d)

-- at a position
module _ (m : List ℕ) (at : ℕ) where
  pub length-here : length_field (drop at m) ≡ u16_at m at
  unfolding length_field
  length-here = sym (u16-here at m)

  pub kind-here : kind_field (drop at m) ≡ u16_at m (at + 2)
  unfolding kind_field
  kind-here = u16-here 2 (drop at m) ∙ ap (λ (l : List ℕ). u16_at l 0) (drop-drop 2 at m) ∙ sym (u16-here (at + 2) m)

-- the records of orders are long enough for their fields
pub regular-long : (r : List ℕ) → set_length (kind_field r) ≡ length r → tells_regular r ≡ true → 18 ≤ length r
unfolding tells_regular set_length
regular-long r w t = go (eqb (kind_field r) 1) refl t
  where
    go : (b : Bool) → eqb (kind_field r) 1 ≡ b → (b || eqb (kind_field r) 9) ≡ true → 18 ≤ length r
    go true e h = let k : 18 ≡ length r = sym (ap set_length (eqb-true (kind_field r) 1 e)) ∙ w in omega arith
    go false e h = let k : 22 ≡ length r = sym (ap set_length (eqb-true (kind_field r) 9 h)) ∙ w in omega arith

pub complex-long : (r : List ℕ) → set_length (kind_field r) ≡ length r → tells_complex r ≡ true → 21 ≤ length r
unfolding tells_complex set_length
complex-long r w t = go (eqb (kind_field r) 2) refl t
  where
    go : (b : Bool) → eqb (kind_field r) 2 ≡ b → (b || eqb (kind_field r) 10) ≡ true → 21 ≤ length r
    go true e h = let k : 21 ≡ length r = sym (ap set_length (eqb-true (kind_field r) 2 e)) ∙ w in omega arith
    go false e h = let k : 23 ≡ length r = sym (ap set_length (eqb-true (kind_field r) 10 h)) ∙ w in omega arith
