-- `refusals::no_leg_in` meets its contract.
use mathlib.Core.Path.{◌≡◌, refl, sym, ap, ◌∙◌}
use mathlib.Core.Bool.{Bool, true, not, ◌&&◌, ◌||◌}
use Prim.Native.Nat.{ℕ}
use native.Mathlib.Omega.{arith}
use lib.Dec.{eqb}
use borrow.Author.Count.{below_more}
use borrow.Author.Rules.{rules}
use Rattle.rules.specs.declared.Complex.{Complex}
use Rattle.rules.specs.Base.{held}
use Rattle.rules.specs.Words.{no_complex}
use Rattle.places.specs.Layout.{complexes_used, complex_in, venue_of}
use Rattle.places.proofs.Parts.{complexes-few}
use Rattle.refusals.proofs.EditionsLaws.{all_pass, one-fails}
use Rattle.refusals.proofs.no_leg_in.Goals as goal

abbrev elsewhere : ℕ → Complex → Bool
elsewhere s x = not (held x.quantity && (eqb x.series1 s || eqb x.series2 s))

pub loop-i-init : goal.loop-i-init
loop-i-init c = (λ j q. absurd (omega arith))

pub complex_at-c-requires : goal.complex_at-c-requires
complex_at-c-requires c = let w = complexes-few c.args.numbers.now in search rules

pub returns-then-has_leg_in : goal.returns-then-has_leg_in
unfolding venue_of
returns-then-has_leg_in c = let b = c.args.numbers.now in
    let s = c.args.s in one-fails (elsewhere s) no_complex (complex_in b) (complexes_used b) 32
    (complexes-few b) c.loop-i.i (omega arith)
    (ap (elsewhere s) (sym c.complex_at-c.ensures) ∙ ap not (sym c.has_leg_in.ensures ∙ c.if-has_leg_in.true))

pub loop-i-preserved : goal.loop-i-preserved
loop-i-preserved c = let b = c.args.numbers.now in
    let s = c.args.s in
    below_more (λ j. elsewhere s (complex_in b j) ≡ true) c.loop-i.i
    c.loop-i.invariant
    (ap (elsewhere s) (sym c.complex_at-c.ensures) ∙ ap not (sym c.has_leg_in.ensures ∙ c.if-has_leg_in.false))

pub returns : goal.returns
unfolding venue_of
returns c = let b = c.args.numbers.now in let s = c.args.s in
    all_pass (elsewhere s) no_complex (complex_in b) (complexes_used b) 32 (complexes-few b) (λ _. refl) (λ j q. c.loop-i.invariant j (omega arith))
