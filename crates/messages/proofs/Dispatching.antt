-- The message of the bytes by its kind: what `Step.step` says of it is the answer by its range.
use Rattle.std.specs.Prelude.{if◌then◌else◌, Result, Ok, Err}
use mathlib.Core.Path.{◌≡◌, refl, sym, ap, ap₂, ◌∙◌}
use mathlib.Core.Bool.{Bool, true, false}
use mathlib.Core.List.{List}
use Prim.Native.Nat.{ℕ, ◌≤◌}
use lib.Dec.{eqb}
use lib.ListN.{length}
use borrow.Author.Tests.{ne_eqb}
use Rattle.rules.specs.declared.Refusal.TheVariants.{OutOfRange, EqualRatios}
use Rattle.rules.specs.declared.Complex.{Complex}
use Rattle.rules.specs.declared.Venue.{Venue}
use Rattle.rules.specs.declared.Message.{Message}
use Rattle.rules.specs.Words.{one_to_one}
use Rattle.rules.specs.Bytes.{u8_at, u16_at, kind_field}
use Rattle.rules.specs.Messages.{length_of, two_leg_at, message_of}
use Rattle.rules.specs.Effects.{nothing}
use Rattle.rules.specs.declared.Refusal.{Refusal}
use Rattle.rules.specs.Refusals.{refusal_number, is_kind, in_range, equal_ratios, decoded, refusal_of, refusal}
use Rattle.rules.specs.Step.{accept, answered, step}
use Rattle.rules.proofs.Ranges.{inside}
use Rattle.rules.proofs.RefusalsLaws.{decoded-by}
use Rattle.wire.proofs.Decoding.{of_length, no-range, equal, taken}
use Rattle.answers.specs.declared.Stepped.{Stepped}
use Rattle.answers.specs.Steps.{answered_by, ranged_by, Steps}
use Rattle.answers.proofs.Answering.{steps-as, number-above}
use Rattle.messages.specs.Frames.{Framed}

-- what is so of bytes that decode so
abbrev Told : List ℕ → Result Message Refusal → Type 0
Told bs (Ok m) = message_of bs ≡ m
Told bs (Err r) = Unit {0}

told : (bs : List ℕ) → Told bs (decoded bs)
told bs = decoded-by (Told bs) bs (λ _. tt) (λ _ _. tt) (λ _ _. tt) (λ _ _. tt) (λ _ _. tt) (λ _ _ r. refl)

taken_out : (bs : List ℕ) (m : Message) → Ok m ≡ decoded bs → message_of bs ≡ m
taken_out bs m e = let t : Told bs (Ok m) = rw (sym e) at (told bs) in t

-- the refusal of what was decoded
abbrev of : Venue → Result Message Refusal → ℕ
of v x = elim x [ Ok m ↦ refusal_of v m | Err r ↦ refusal_number r ]

module _ (v : Venue) (number : ℕ) (bs : List ℕ) where
  step-taken : (m : Message) → Ok m ≡ decoded bs → answered_by v number m ≡ step v number bs
  unfolding answered_by step refusal
  step-taken m e =
      ap₂ (λ (d : Result Message Refusal) (x : Message). answered number (of v d) (if eqb (of v d) 0 then accept number x v else nothing v)) e (sym (taken_out bs m e))

  step-refused : (f : Refusal) → Err f ≡ decoded bs → answered number (refusal_number f) (nothing v) ≡ step v number bs
  unfolding step refusal
  step-refused f e =
      ap (λ (t : Bool). answered number (refusal_number f) (if t then accept number (message_of bs) v else nothing v)) (sym (ne_eqb (refusal_number f) 0 (number-above f)))
      ∙ ap (λ (d : Result Message Refusal). answered number (of v d) (if eqb (of v d) 0 then accept number (message_of bs) v else nothing v)) e

  -- bytes of a known kind and its length, by their message, its range and its ratios
  ranged-step : Framed bs → (m : Message) (t e : Bool) → message_of bs ≡ m → in_range (u16_at bs 2) m ≡ t → equal_ratios bs ≡ e → ranged_by v number t e m ≡ step v number bs
  unfolding ranged_by is_kind
  ranged-step f m false e p h q = step-refused OutOfRange (no-range bs m (sym p) f.whole (inside 1 11 (u16_at bs 2) f.low f.high) f.size h)
  ranged-step f m true true p h q = step-refused EqualRatios (equal bs m (sym p) f.whole (inside 1 11 (u16_at bs 2) f.low f.high) f.size h q)
  ranged-step f m true false p h q = step-taken m (taken bs m (sym p) f.whole (inside 1 11 (u16_at bs 2) f.low f.high) f.size h q)

  module _ (l : List ℕ) (r : Stepped) (b o : List ℕ) where
    -- the refusal f of the bytes' length or kind, whose number is x
    pub torn-steps : (f : Refusal) (x : ℕ) → x ≡ refusal_number f → Err f ≡ decoded bs →
        Steps (answered number x (nothing v)) l r b o → Steps (step v number bs) l r b o
    torn-steps f x p e = steps-as _ _ l r b o (ap (λ (y : ℕ). answered number y (nothing v)) p ∙ step-refused f e)

    pub kind-steps : Framed bs → (m : Message) (t e : Bool) → message_of bs ≡ m → in_range (u16_at bs 2) m ≡ t → equal_ratios bs ≡ e →
        Steps (ranged_by v number t e m) l r b o → Steps (step v number bs) l r b o
    kind-steps f m t e p h q = steps-as _ _ l r b o (ranged-step f m t e p h q)

-- the length of a kind that is known
pub framed-room : (bs : List ℕ) (k : ℕ) → Framed bs → u16_at bs 2 ≡ k → length_of k ≤ length bs
framed-room bs k f e = of_length bs k e f.room

-- only kind 10 has ratios to compare
pub not_equal : (bs : List ℕ) (k : ℕ) → u16_at bs 2 ≡ k → eqb k 10 ≡ false → equal_ratios bs ≡ false
unfolding equal_ratios kind_field
not_equal bs k e h = rw (e, h)

pub ratios-equal : (bs : List ℕ) (c : Complex) → u16_at bs 2 ≡ 10 → c ≡ two_leg_at bs (u8_at bs 21) (u8_at bs 22) → equal_ratios bs ≡ eqb c.ratio1 c.ratio2
unfolding equal_ratios kind_field two_leg_at
ratios-equal bs c e p = rw (e, p)

-- kind 2 has both ratios one
pub pair_one : (bs : List ℕ) (c : Complex) → c ≡ two_leg_at bs 1 1 → one_to_one c ≡ true
unfolding one_to_one two_leg_at
pair_one bs c p = rw p
