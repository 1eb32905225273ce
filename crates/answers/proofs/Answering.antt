-- An accepted message's effects and closing, its answer set last, and the answer by the message's range.
use Rattle.std.specs.Prelude.{if◌then◌else◌}
use mathlib.Core.Path.{◌≡◌, sym, ap, ap₂, ◌∙◌}
use mathlib.Core.Bool.{Bool, true, false}
use mathlib.Core.List.{List, [], ◌∷◌}
use Prim.Native.Nat.{ℕ}
use native.Mathlib.Omega.{arith}
use lib.Count.{ones}
use lib.Dec.{eqb}
use borrow.Author.Tests.{ne_eqb}
use Rattle.rules.specs.declared.Legging.{Legging}
use Rattle.rules.specs.declared.Venue.{Venue}
use Rattle.rules.specs.declared.Message.{Message}
use Rattle.rules.specs.Records.{answer}
use Rattle.rules.specs.Effects.{Effect, nothing}
use Rattle.rules.specs.Places.{close_gaps}
use Rattle.rules.specs.declared.Refusal.{Refusal}
use Rattle.rules.specs.declared.Refusal.TheVariants.{Torn, NoKind, WrongLength, OutOfRange, IdTooLow, OnClosed, Full, Unknown}
use Rattle.rules.specs.declared.Refusal.TheVariants.{EditionTooLow, InUse, NoEditionLeft, EqualRatios}
use Rattle.rules.specs.Refusals.{refusal_number, refusal_of}
use Rattle.rules.specs.Step.{perform, accept, mask, filled, StepOutcome, answered}
use Rattle.records.specs.Seen.{Seen, seen, ◌writes◌}
use Rattle.records.specs.Stage.{stage, ◌does◌}
use Rattle.records.proofs.SeenLaws.{answer-last}
use Rattle.records.proofs.StageLaws.{does-nothing, follow, stage-venue, stage-written}
use Rattle.places.specs.Layout.{venue_of}
use Rattle.book.proofs.Masks.{ones-mask}
use Rattle.answers.specs.declared.Stepped.{Stepped}
use Rattle.answers.specs.Steps.{answered_by, ranged_by, Finishes, Steps}

-- Its effects, and then the gaps closed -------------------------------------------------------

accept-law : (w : Seen) (number : ℕ) (m : Message) (v v₁ v₂ : Venue) (l : List ℕ) (at : ℕ) → stage v₁ l at ≡ w does perform number m v → v₂ ≡ close_gaps v₁ →
    stage v₂ l at ≡ w does accept number m v
unfolding accept
accept-law w number m v v₁ v₂ l at p q =
    follow w (perform number m v) (λ (x : Venue). nothing (close_gaps x)) v₁ v₂ l l at at p
    (ap (λ (x : Venue). stage x l at) q ∙ does-nothing (close_gaps v₁) l at)

-- The answer ----------------------------------------------------------------------------------

-- a refused message's is all that it writes
pub refuse-law : (v : Venue) (l m : List ℕ) (at number x k c : ℕ) → k ≡ mask v.legging → c ≡ ones k →
    seen m at ≡ seen l 0 writes (answer number x k c ∷ []) → stage v m at ≡ seen l 0 does (answered number x (nothing v)).effect
unfolding answered nothing stage ◌does◌
refuse-law v l m at number x k c p q e =
    ap (λ (s : Seen). record { venue = v; written = s })
    (e ∙ ap₂ (λ (i j : ℕ). seen l 0 writes (answer number x i j ∷ [])) p (q ∙ ap ones p ∙ ones-mask v.legging))

-- an accepted message's is written first, and set when its effects are done
accepted-law : (w : Venue) (e : Effect) (l k m o : List ℕ) (i end number : ℕ) → seen k i ≡ seen l 0 writes (answer number 0 0 0 ∷ []) →
    stage w m end ≡ seen k i does e → o ≡ (seen m 0 writes (answer number 0 (mask w.legging) (filled w.legging) ∷ [])).memory →
    stage w o end ≡ seen l 0 does (answered number 0 e).effect
unfolding answered stage ◌does◌
accepted-law w e l k m o i end number p s q =
    let ve : w ≡ e.venue = stage-venue w m k end i e s in
    ap₂ (λ (y : Venue) (z : Seen). record { venue = y; written = z }) ve
    (answer-last l k m o 0 i end number 0 0 0 number 0 (mask w.legging) (filled w.legging) e.reports p (stage-written w m k end i e s) q
    ∙ ap (λ (y : Venue). seen l 0 writes (answer number 0 (mask y.legging) (filled y.legging) ∷ e.reports)) ve)

-- mask and count as they are set
pub answer-set : (ls : List Legging) (m o : List ℕ) (number x c : ℕ) → x ≡ mask ls → c ≡ ones x → o ≡ (seen m 0 writes (answer number 0 x c ∷ [])).memory →
    o ≡ (seen m 0 writes (answer number 0 (mask ls) (filled ls) ∷ [])).memory
answer-set ls m o number x c a b q =
    q ∙ ap₂ (λ (y z : ℕ). (seen m 0 writes (answer number 0 y z ∷ [])).memory) a (b ∙ ap ones a ∙ ones-mask ls)

-- one answer as another that equals it
pub steps-as : (a c : StepOutcome) (l : List ℕ) (r : Stepped) (b o : List ℕ) → a ≡ c → Steps a l r b o → Steps c l r b o
steps-as a c l r b o e s = rw e at s

-- no refusal has the number 0
pub number-above : (f : Refusal) → refusal_number f ≡ 0 → ⊥
number-above Torn h = omega arith
number-above NoKind h = omega arith
number-above WrongLength h = omega arith
number-above OutOfRange h = omega arith
number-above IdTooLow h = omega arith
number-above OnClosed h = omega arith
number-above Full h = omega arith
number-above Unknown h = omega arith
number-above EditionTooLow h = omega arith
number-above InUse h = omega arith
number-above NoEditionLeft h = omega arith
number-above EqualRatios h = omega arith

module _ (v : Venue) (number : ℕ) (m : Message) where
  by-accepted : refusal_of v m ≡ 0 → answered number 0 (accept number m v) ≡ answered_by v number m
  unfolding answered_by
  by-accepted e = ap (λ (x : ℕ). answered number x (if eqb x 0 then accept number m v else nothing v)) (sym e)

  by-refused : (x : ℕ) → x ≡ refusal_of v m → (x ≡ 0 → ⊥) → answered number x (nothing v) ≡ answered_by v number m
  unfolding answered_by
  by-refused x e n =
      ap (λ (t : Bool). answered number x (if t then accept number m v else nothing v)) (sym (ne_eqb x 0 n))
      ∙ ap (λ (y : ℕ). answered number y (if eqb y 0 then accept number m v else nothing v)) e

  -- a message in range that is refused, and one whose answer is written, its effects done and its answer set
  module _ (l : List ℕ) (r : Stepped) (b o : List ℕ) where
    pub refused-steps : (x : ℕ) → x ≡ refusal_of v m → (x ≡ 0 → ⊥) → Steps (answered number x (nothing v)) l r b o → Steps (answered_by v number m) l r b o
    refused-steps x e n = steps-as _ _ l r b o (by-refused x e n)

    -- the refusal f that a test finds, whose number is x
    pub found-steps : (f : Refusal) (x : ℕ) → x ≡ refusal_number f → refusal_number f ≡ refusal_of v m → Steps (answered number x (nothing v)) l r b o →
        Steps (answered_by v number m) l r b o
    found-steps f x p q = refused-steps x (p ∙ q) (λ z. number-above f (sym p ∙ z))

    pub done-steps : (b₁ k n : List ℕ) (i end : ℕ) → refusal_of v m ≡ 0 → seen k i ≡ seen l 0 writes (answer number 0 0 0 ∷ []) →
        stage (venue_of b₁) n end ≡ seen k i does perform number m v → Finishes number b₁ n end r b o → Steps (answered_by v number m) l r b o
    unfolding answered
    done-steps b₁ k n i end z p q f =
        let a = accept-law (seen k i) number m v (venue_of b₁) (venue_of b) n end q f.venue in
        let w = accepted-law (venue_of b) (accept number m v) l k n o i end number p a f.set in
        steps-as _ _ l r b o (by-accepted z) (record { refused = f.refused; staged = ap (stage (venue_of b) o) f.written ∙ w; dense = f.dense })

    -- and by its range
    pub out-steps : (t e : Bool) → t ≡ false → Steps (answered number 4 (nothing v)) l r b o → Steps (ranged_by v number t e m) l r b o
    unfolding ranged_by
    out-steps t e h s = rw h s

    pub equal-steps : (t e : Bool) → t ≡ true → e ≡ true → Steps (answered number 14 (nothing v)) l r b o → Steps (ranged_by v number t e m) l r b o
    unfolding ranged_by
    equal-steps t e h q s = rw (h, q) s

    pub in-steps : (t e : Bool) → t ≡ true → e ≡ false → Steps (answered_by v number m) l r b o → Steps (ranged_by v number t e m) l r b o
    unfolding ranged_by
    in-steps t e h q s = rw (h, q) s
