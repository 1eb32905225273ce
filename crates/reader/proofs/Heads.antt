-- What stands at a position: each case from what the code has found of the bytes, and what each case says.
use Rattle.std.specs.Prelude.{Result, Ok, Err}
use mathlib.Core.Path.{◌≡◌, refl, sym, ap, ◌∙◌}
use mathlib.Core.Bool.{Bool, true, false, true≢false}
use mathlib.Core.List.{List}
use Prim.Native.Nat.{ℕ, ◌-◌, ◌≤◌, ◌<◌}
use native.Mathlib.Omega.{arith}
use lib.Dec.{leb, eqb}
use lib.ListN.{length, drop, length-drop}
use borrow.Author.Tests.{eq-eqb, ne_eqb, leb-true, leb-false}
use Rattle.rules.specs.declared.Venue.{Venue}
use Rattle.rules.specs.declared.Refusal.{Refusal}
use Rattle.rules.specs.Bytes.{u16_at, length_field}
use Rattle.rules.specs.Messages.{message_of}
use Rattle.rules.specs.Refusals.{torn, decoded, refusal_of, refusal, refusal_number}
use Rattle.rules.proofs.RefusalsLaws.{decoded-by, refusal_of-by, whole, whole_in}
use Rattle.wire.proofs.Numbers.{u16-here}
use Rattle.reader.specs.declared.Head.TheVariants.{End, Torn, Message}
use Rattle.reader.specs.Head.{head_of, head_at, head_number, head_length}

-- Of the bytes left ---------------------------------------------------------------------------

module _ (bs : List ℕ) where
  pub head-end : length bs ≡ 0 → head_of bs ≡ End
  unfolding head_of
  head-end e = rw (eq-eqb (length bs) 0 e)

  module _ (some : 0 < length bs) where
    pub head-torn : torn bs ≡ true → head_of bs ≡ Torn
    unfolding head_of
    head-torn t = rw (ne_eqb (length bs) 0 (λ z. omega arith), t)

    pub head-message : torn bs ≡ false → head_of bs ≡ Message (length_field bs)
    unfolding head_of
    head-message t = rw (ne_eqb (length bs) 0 (λ z. omega arith), t)

-- bytes that are not whole are torn
torn-in : (bs : List ℕ) → ((4 ≤ length_field bs) × (length_field bs ≤ length bs) → ⊥) → torn bs ≡ true
torn-in bs h = go (torn bs) refl
  where
    go : (t : Bool) → torn bs ≡ t → torn bs ≡ true
    go true e = e
    go false e = absurd (h (whole bs e))

-- only what is torn is refused with 1
module _ (v : Venue) (bs : List ℕ) where
  pub torn-refused : torn bs ≡ true → eqb (refusal v bs) 1 ≡ true
  unfolding refusal decoded
  torn-refused t = rw (t, refusal)

  pub whole-refused : torn bs ≡ false → eqb (refusal v bs) 1 ≡ false
  unfolding refusal
  whole-refused =
      decoded-by (λ (x : Result _ Refusal). torn bs ≡ false → eqb (elim x [ Ok m ↦ refusal_of v m | Err r ↦ refusal_number r ]) 1 ≡ false) bs
      (λ t w. absurd (true≢false (sym t ∙ w))) (λ _ _ _. refl) (λ _ _ _. refl) (λ _ _ _. refl) (λ _ _ _. refl)
      (λ _ _ _ _. refusal_of-by (λ x. eqb x 1 ≡ false) v (message_of bs) refl refl refl refl refl refl refl refl (λ _ _ _ _ _ _ _ _. refl))

-- At a position -------------------------------------------------------------------------------

module _ (m : List ℕ) (at : ℕ) where
  pub at-end : length m ≤ at → End ≡ head_at m at
  at-end h = sym (head-end (drop at m) (length-drop at m ∙ (omega arith)))

  module _ (ahead : at < length m) where
    some : 0 < length (drop at m)
    some = rw length-drop (omega arith)

    front : length_field (drop at m) ≡ u16_at m at
    unfolding length_field
    front = sym (u16-here at m)

    pub at-torn : (4 ≤ u16_at m at → u16_at m at ≤ length m - at → ⊥) → Torn ≡ head_at m at
    at-torn h =
        let f = front in
        let k = length-drop at m in
        sym (head-torn (drop at m) some (torn-in (drop at m) (λ w. let a = w.0 in let b = w.1 in h (omega arith) (omega arith))))

    pub at-message : (n : ℕ) → n ≡ u16_at m at → 4 ≤ n → n ≤ length m - at → Message n ≡ head_at m at
    at-message n e a b =
        let f = front in
        let k = length-drop at m in
        sym (head-message (drop at m) some (whole_in (drop at m) (omega arith, omega arith)) ∙ ap Message (f ∙ sym e))

  -- and back: the end is where nothing is left, and anything else stands ahead of it
  pub at_none : head_at m at ≡ End → length m ≤ at
  at_none e = go (leb (length m) at) refl
    where
      whole-not : at < length m → (t : Bool) → torn (drop at m) ≡ t → ⊥
      whole-not h true f = let z = ap head_number (sym (head-torn (drop at m) (some h) f) ∙ e) in omega arith
      whole-not h false f =
          let z = ap head_length (sym (head-message (drop at m) (some h) f) ∙ e) in
          let w = (whole (drop at m) f).0 in
          omega arith

      go : (t : Bool) → leb (length m) at ≡ t → length m ≤ at
      go true f = leb-true (length m) at f
      go false f = absurd (whole-not (leb-false (length m) at f) (torn (drop at m)) refl)

  pub at_some : (head_at m at ≡ End → ⊥) → at < length m
  at_some h = go (leb (length m) at) refl
    where
      go : (t : Bool) → leb (length m) at ≡ t → at < length m
      go true f = absurd (h (sym (at-end (leb-true (length m) at f))))
      go false f = leb-false (length m) at f
