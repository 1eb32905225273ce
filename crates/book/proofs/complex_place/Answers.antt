-- `book::complex_place` meets its contract.
use mathlib.Core.Path.{sym, ap, ◌∙◌}
use native.Mathlib.Omega.{arith}
use Rattle.rules.specs.Words.{complex_at, is_complex_of}
use Rattle.rules.specs.Complex.{rests_complex, complex_place}
use Rattle.places.specs.Layout.{complex_in, complexes_used, venue_of}
use Rattle.places.proofs.Parts.{complexes-few}
use Rattle.book.specs.Picks.{complex_found}
use Rattle.book.proofs.FirstPlace.{found_in, found_at, found_none, passed_on, complex-free}
use borrow.Author.Rules.{rules}
use Rattle.book.proofs.complex_place.Goals as goal

pub loop-i-init : goal.loop-i-init
loop-i-init c = λ j q. absurd (omega arith)

pub complex_at-c-requires : goal.complex_at-c-requires
complex_at-c-requires c = let w = complexes-few c.args.numbers.now in search rules

pub returns-then-is_complex_of : goal.returns-then-is_complex_of
unfolding complex_found rests_complex complex_place complex_at venue_of found_in
returns-then-is_complex_of c =
    let b = c.args.numbers.now in
    found_at (is_complex_of c.args.id) _ (complex-free _) (complex_in b) (complexes_used b) 32 (complexes-few b) _ (omega arith)
    (ap (λ x. is_complex_of c.args.id x) (sym c.complex_at-c.ensures) ∙ sym c.is_complex_of.ensures ∙ c.if-is_complex_of.true) c.loop-i.invariant

pub loop-i-preserved : goal.loop-i-preserved
loop-i-preserved c =
    passed_on (is_complex_of c.args.id) (complex_in c.args.numbers.now) _ c.loop-i.invariant
    (ap (λ x. is_complex_of c.args.id x) (sym c.complex_at-c.ensures) ∙ sym c.is_complex_of.ensures ∙ c.if-is_complex_of.false)

pub returns : goal.returns
unfolding complex_found rests_complex complex_place complex_at venue_of found_in
returns c =
    let b = c.args.numbers.now in
    found_none (is_complex_of c.args.id) _ (complex-free _) (complex_in b) (complexes_used b) 32 (complexes-few b)
    (λ j q. c.loop-i.invariant j (omega arith))
