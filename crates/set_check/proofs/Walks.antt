-- A memory's records one after another, and the standing after each.
use Rattle.std.specs.Prelude.{if◌then◌else◌}
use mathlib.Core.Path.{◌≡◌, refl, sym, ap, ◌∙◌}
use mathlib.Core.Bool.{Bool, true, false, not, ◌&&◌, ◌||◌}
use mathlib.Core.List.{List, [], ◌∷◌}
use Prim.Native.Nat.{ℕ, zero, suc, ◌≤◌}
use native.Mathlib.Omega.{arith}
use lib.Dec.{eqb}
use lib.ListN.{length, take, drop, length-drop}
use borrow.Author.Tests.{eqb-true, not-false}
use Rattle.rules.specs.Base.{all}
use Rattle.rules.specs.Bytes.{u8_at, u16_at, length_field, kind_field}
use Rattle.rules.specs.Refusals.{torn}
use Rattle.rules.proofs.RefusalsLaws.{whole}
use Rattle.rules.proofs.Tests.{or-false-l, or-false-r, and-false}
use Rattle.sets.specs.Set.{Held, broken, row, behind, held_from, held_in, set_length, has_place}
use Rattle.set_check.specs.declared.Front.{Front}
use Rattle.set_check.specs.declared.Front.TheVariants.{End, Broken, Record}
use Rattle.set_check.specs.declared.SetProgress.{SetProgress}
use Rattle.set_check.specs.Order.{front_of, is_next, onward, few, goes_on, looked_at}

-- Records held --------------------------------------------------------------------------------

abbrev bad : List ℕ → Bool
bad bs = torn bs || not (eqb (length_field bs) (set_length (kind_field bs)))

untorn : (bs : List ℕ) → bad bs ≡ false → (4 ≤ length_field bs) × (length_field bs ≤ length bs)
untorn bs h = whole bs (or-false-l (torn bs) _ h)

-- as much fuel as there are bytes is enough
fuel : (f g : ℕ) (bs : List ℕ) → length bs ≤ f → length bs ≤ g → held_from f bs ≡ held_from g bs
unfolding held_from length_field u16_at u8_at
fuel zero zero bs h k = refl
fuel zero (suc g) [] h k = refl
fuel zero (suc g) (x ∷ bs) h k = absurd (omega arith)
fuel (suc f) zero [] h k = refl
fuel (suc f) zero (x ∷ bs) h k = absurd (omega arith)
fuel (suc f) (suc g) bs h k = go (eqb (length_field bs) 0) (bad bs) refl (λ a b. fuel f g (drop (length_field bs) bs) a b)
  where
    n : ℕ
    n = length_field bs

    go : (z t : Bool) → bad bs ≡ t → (length (drop n bs) ≤ f → length (drop n bs) ≤ g → held_from f (drop n bs) ≡ held_from g (drop n bs)) →
        ◌≡◌ {A = Held} (elim z [ true ↦ row [] | false ↦ elim t [ true ↦ broken | false ↦ behind (take n bs) (held_from f (drop n bs)) ] ])
        (elim z [ true ↦ row [] | false ↦ elim t [ true ↦ broken | false ↦ behind (take n bs) (held_from g (drop n bs)) ] ])
    go true t e ih = refl
    go false true e ih = refl
    go false false e ih = let w = untorn bs e in let a = w.0 in let b = w.1 in let l = length-drop n bs in ap (behind (take n bs)) (ih (omega arith) (omega arith))

-- what a memory holds, by what stands in front of it
abbrev held_by : List ℕ → Front → Held
held_by bs End = row []
held_by bs Broken = broken
held_by bs (Record n) = behind (take n bs) (held_in (drop n bs))

one-held : (f : ℕ) (bs : List ℕ) → length bs ≤ suc f → held_from (suc f) bs ≡ held_by bs (front_of bs)
unfolding held_from front_of held_in
one-held f bs h = go (eqb (length_field bs) 0) (bad bs) refl
  where
    n : ℕ
    n = length_field bs

    go : (z t : Bool) → bad bs ≡ t → ◌≡◌ {A = Held} (elim z [ true ↦ row [] | false ↦ elim t [ true ↦ broken | false ↦ behind (take n bs) (held_from f (drop n bs)) ] ])
        (held_by bs (if z then End else if t then Broken else Record n))
    go true t e = refl
    go false true e = refl
    go false false e = let w = untorn bs e in let a = w.0 in let b = w.1 in let l = length-drop n bs in ap (behind (take n bs)) (fuel f (length (drop n bs)) (drop n bs) (omega arith) (omega arith))

pub held-front : (bs : List ℕ) → held_in bs ≡ held_by bs (front_of bs)
unfolding held_in
held-front bs = fuel (length bs) (suc (length bs)) bs (omega arith) (omega arith) ∙ one-held (length bs) bs (omega arith)

pub held-ended : (bs : List ℕ) → front_of bs ≡ End → held_in bs ≡ row []
held-ended bs e = held-front bs ∙ ap (held_by bs) e

pub held-broken : (bs : List ℕ) → front_of bs ≡ Broken → held_in bs ≡ broken
held-broken bs e = held-front bs ∙ ap (held_by bs) e

-- a record in front
pub record InFront (bs : List ℕ) (n : ℕ) : Type 0 where
  pub here : n ≡ length_field bs
  pub four : 4 ≤ n
  pub fits : n ≤ length bs
  pub known : set_length (kind_field bs) ≡ n
  pub held : held_in bs ≡ behind (take n bs) (held_in (drop n bs))

pub in-front : (bs : List ℕ) (n : ℕ) → front_of bs ≡ Record n → InFront bs n
unfolding front_of
in-front bs n e = go (eqb (length_field bs) 0) (bad bs) refl e
  where
    go : (z t : Bool) → bad bs ≡ t → (if z then End else if t then Broken else Record (length_field bs)) ≡ Record n → InFront bs n
    go true t f h = let z : ◌≡◌ {A = ℕ} 0 1 = cc in absurd (omega arith)
    go false true f h = let z : ◌≡◌ {A = ℕ} 0 1 = cc in absurd (omega arith)
    go false false f h =
        let z : n ≡ length_field bs = cc in
        let w = untorn bs f in
        let a = w.0 in
        let b = w.1 in
        let k = eqb-true (length_field bs) (set_length (kind_field bs)) (not-false _ (or-false-r (torn bs) _ f)) in
        record { here = z; four = omega arith; fits = omega arith; known = sym k ∙ sym z; held = held-front bs ∙ ap (held_by bs) e }

-- The standing after a record -------------------------------------------------------------------

module _ (st : SetProgress) (r : List ℕ) where
  -- a record that may not stand there, or is one too many
  pub looked-wrong : (is_next st r && few (onward st r)) ≡ false → (h : Held) → looked_at st (behind r h) ≡ 16
  unfolding behind looked_at goes_on
  looked-wrong e broken = refl
  looked-wrong e (row rs) = rw e

  and_assoc : (a b c : Bool) → (a && (b && c)) ≡ ((a && b) && c)
  and_assoc true b c = refl
  and_assoc false b c = refl

  pub looked-on : is_next st r ≡ true → few (onward st r) ≡ true → (h : Held) → looked_at st (behind r h) ≡ looked_at (onward st r) h
  unfolding behind looked_at goes_on
  looked-on e f broken = refl
  looked-on e f (row rs) =
      let p : (st.placed && all has_place (r ∷ rs)) ≡ ((onward st r).placed && all has_place rs) = unfold all onward in and_assoc st.placed (has_place r) (all has_place rs) in
      rw (e, f, p)

module _ (st : SetProgress) (bs : List ℕ) (n : ℕ) (e : front_of bs ≡ Record n) (k : ℕ) where
  step-held : k ≡ n → held_in bs ≡ behind (take k bs) (held_in (drop n bs))
  step-held same = (in-front bs n e).held ∙ ap (λ (j : ℕ). behind (take j bs) (held_in (drop n bs))) (sym same)

  pub step-not : is_next st (take k bs) ≡ false → k ≡ n → 16 ≡ looked_at st (held_in bs)
  step-not h same = sym (ap (looked_at st) (step-held same) ∙ looked-wrong st (take k bs) (rw h) (held_in (drop n bs)))

  module _ (after : SetProgress) (passed : after ≡ onward st (take k bs)) where
    pub step-many : few after ≡ false → k ≡ n → 16 ≡ looked_at st (held_in bs)
    step-many h same =
        let f : few (onward st (take k bs)) ≡ false = sym (ap few passed) ∙ h in
        sym (ap (looked_at st) (step-held same) ∙ looked-wrong st (take k bs) (rw (f, and-false (is_next st (take k bs)))) (held_in (drop n bs)))

    pub step-on : is_next st (take k bs) ≡ true → few after ≡ true → k ≡ n → looked_at after (held_in (drop n bs)) ≡ looked_at st (held_in bs)
    step-on h f same =
        ap (λ (x : SetProgress). looked_at x (held_in (drop n bs))) passed
        ∙ sym (ap (looked_at st) (step-held same) ∙ looked-on st (take k bs) h (sym (ap few passed) ∙ f) (held_in (drop n bs)))
