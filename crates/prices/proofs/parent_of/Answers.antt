-- `prices::parent_of` meets its contract.
use Rattle.rules.specs.Words.{is_complex_of}
use native.Mathlib.Nat.{sub-zero}
use Rattle.levels.proofs.Scans.{find-here, find_past, find-end, find-used}
use Rattle.rules.specs.Standing.{find_complex, parent_of}
use Rattle.places.specs.Layout.{complex_in, upto, venue_of, complexes_used}
use mathlib.Core.Path.{sym, ap, ◌∙◌}
use Prim.Native.Nat.{ℕ}
use Rattle.prices.proofs.parent_of.Goals as goal

pub loop-i-init : goal.loop-i-init
unfolding parent_of venue_of
loop-i-init c = let n = c.complexes_used-n.ensures in
    ap (λ (k : ℕ). find_complex c.args.l.parent (upto (complex_in c.args.numbers.now) 0 k))
    (sub-zero _ ∙ n.0) ∙ find-used (complex_in c.args.numbers.now) c.args.l.parent
    (complexes_used c.args.numbers.now) 32

pub returns-then-is_complex_of : goal.returns-then-is_complex_of
returns-then-is_complex_of c = c.complex_at-c.ensures ∙ find-here c.args.l.parent (complex_in c.args.numbers.now)
    c.loop-i.i _ c.loop-i-test.true
    (ap (is_complex_of c.args.l.parent) (sym c.complex_at-c.ensures) ∙ sym c.is_complex_of.ensures
    ∙ c.if-is_complex_of.true) ∙ c.loop-i.invariant

pub loop-i-preserved : goal.loop-i-preserved
loop-i-preserved c =
    find_past c.args.l.parent
    (complex_in c.args.numbers.now) c.loop-i.i _
    c.loop-i-test.true
    (ap (is_complex_of c.args.l.parent) (sym c.complex_at-c.ensures)
    ∙ sym c.is_complex_of.ensures ∙ c.if-is_complex_of.false) ∙ c.loop-i.invariant

pub returns : goal.returns
returns c = find-end c.args.l.parent (complex_in c.args.numbers.now)
    c.loop-i.i _ c.loop-i-test.false ∙ c.loop-i.invariant
